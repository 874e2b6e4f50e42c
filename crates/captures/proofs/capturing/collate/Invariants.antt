-- `captures::capturing::collate` meets its contract. The loop's invariant: the cursor is honest, and the frames that are left, fed to the state,
-- make the end.
use Rattle.std.proofs.Common.{length}
use Rattle.frames.proofs.CursorLoops.{Walking, left}
use Rattle.captures.specs.Capture.{going, collated}
use Rattle.captures.proofs.Captures.{Going}
use Rattle.captures.proofs.capturing.collate.Given as goal

abbrev pub invariant-loop-frame : goal.invariant-loop-frame
invariant-loop-frame l = Walking l.s (Going l.s (collated l.s l.roster) (going l.state)) l.cursor

abbrev pub decreases-loop-frame : goal.decreases-loop-frame
decreases-loop-frame l = length (left l.s l.cursor)
