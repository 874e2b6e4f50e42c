-- The loop of `index::extending::fill`: from here it comes to the same index and list, and fewer frames are left.
use Rattle.std.proofs.Common.{length}
use Rattle.index.specs.Index.{frames_from}
use Rattle.index.proofs.Filled.{Filling}
use Rattle.index.proofs.extending.fill.Given as goal

abbrev pub invariant-loop-f : goal.invariant-loop-f
invariant-loop-f l = Filling l.capture l.fn.index l.fn.entries l.index l.entries

abbrev pub decreases-loop-f : goal.decreases-loop-f
decreases-loop-f l = length (frames_from l.capture l.index.reached)
