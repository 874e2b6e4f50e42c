-- `epochs::seating::search` meets its contract. The loop's invariant: the answer is that of what is left.
use mathlib.Core.Path.{◌≡◌}
use lib.ListN.{drop}
use Rattle.epochs.specs.Search.{seat_of}
use Rattle.epochs.proofs.seating.search.Given as goal

abbrev pub invariant-loop-i : goal.invariant-loop-i
invariant-loop-i l = seat_of (drop l.from l.roster) l.sender l.from ≡ seat_of (drop l.i l.roster) l.sender l.i
