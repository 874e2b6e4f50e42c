-- `index::room::no_more_than` meets its contract. The loop's invariant: the answer is that of the frames and the room that are left.
use Rattle.std.proofs.Common.{◌≡◌, ◌≤◌, leb, length}
use Rattle.index.specs.Index.{frames_from}
use Rattle.index.proofs.room.no_more_than.Given as goal

abbrev pub invariant-loop-c : goal.invariant-loop-c
invariant-loop-c l = (l.at ≤ length l.s) × (leb (length (frames_from l.s l.from)) l.room ≡ leb (length (frames_from l.s l.at)) l.left)

abbrev pub decreases-loop-c : goal.decreases-loop-c
decreases-loop-c l = l.left
