-- `epochs::collating::Collator::empty` meets its contract.
use Rattle.std.proofs.Common.{[], sym, ◌∙◌}
use Rattle.epochs.proofs.Making.{nobody, made_seated}
use Rattle.epochs.proofs.collating.Collator.empty.Goals as goal

pub returns : goal.returns
returns c = c.fresh.ensures ∙ sym (made_seated [] nobody)
