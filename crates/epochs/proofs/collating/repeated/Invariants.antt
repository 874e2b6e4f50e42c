-- `epochs::collating::repeated` meets its contract. The loop's invariant: the answer is that of what is left.
use mathlib.Core.Path.{◌≡◌}
use lib.ListN.{drop}
use Rattle.epochs.specs.Search.{repeats}
use Rattle.epochs.proofs.collating.repeated.Given as goal

abbrev pub invariant-loop-i : goal.invariant-loop-i
invariant-loop-i l = repeats l.roster ≡ repeats (drop l.i l.roster)
