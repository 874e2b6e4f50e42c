-- `epochs::collating::Collator::made_or_empty` meets its contract.
use Rattle.std.proofs.Common.{[], sym, ap, ◌∙◌}
use Rattle.refusals.specs.Numbers.{answer_of}
use Rattle.epochs.specs.Fed.{Made}
use Rattle.epochs.proofs.Making.{nobody, made_as, made_seated}
use Rattle.epochs.proofs.collating.Collator.made_or_empty.Goals as goal

pub returns-in-Ok : goal.returns-in-Ok
returns-in-Ok c = ap (λ (m : Made). m.collator) (made_as c.args.roster.now (sym c.made.ensures ∙ ap answer_of c.in-Ok.is))

pub returns-in-Err : goal.returns-in-Err
returns-in-Err c =
    c.empty.ensures ∙ made_seated [] nobody
    ∙ ap (λ (m : Made). m.collator) (made_as c.args.roster.now (sym c.made.ensures ∙ ap answer_of c.in-Err.is))
