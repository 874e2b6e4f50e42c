-- `index::asking::count` meets its contract: a type has a place among the counts exactly when it has a reading.
use Rattle.std.proofs.Common.{sym, ◌∙◌}
use Rattle.index.proofs.Counts.{count_known, count_unknown}
use Rattle.index.proofs.asking.count.Goals as goal

pub returns-in-Some : goal.returns-in-Some
returns-in-Some c = let a = c.args in count_known a.index.now a.kind (sym c.in-Some.is ∙ c.place_of.ensures)

pub returns-in-None : goal.returns-in-None
returns-in-None c = let a = c.args in count_unknown a.index.now a.kind (sym c.in-None.is ∙ c.place_of.ensures)
