-- `frames::junk::clear` meets its contract. The loop's invariant: a hit says that the run is shorter than the bytes looked at.
use Rattle.std.proofs.Common.{◌≡◌, drop}
use Rattle.frames.proofs.JunkRuns.{Hit}
use Rattle.frames.proofs.junk.clear.Given as goal

abbrev pub invariant-loop-i : goal.invariant-loop-i
invariant-loop-i l = l.hit ≡ Hit (drop l.from l.s) l.i
