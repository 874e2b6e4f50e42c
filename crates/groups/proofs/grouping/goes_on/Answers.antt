-- `groups::grouping::goes_on` meets its contract.
use Rattle.std.proofs.Common.{sym, ◌∙◌}
use Rattle.groups.specs.Group.{goes_on}
use Rattle.groups.proofs.grouping.goes_on.Goals as goal

pub returns-then-all_come : goal.returns-then-all_come
unfolding goes_on
returns-then-all_come c = rw (sym c.all_come.ensures ∙ c.if-all_come.true)

pub returns : goal.returns
unfolding goes_on
returns c = rw (sym c.all_come.ensures ∙ c.if-all_come.false)
