-- `frames::cursor::totals` meets its contract. The loop's invariant: the cursor is honest, so where the reading stops its counts are the
-- whole reading's.
use Rattle.std.proofs.Common.{◌-◌, false, length}
use Rattle.frames.specs.Cursors.{Honest}
use Rattle.frames.proofs.cursor.totals.Given as goal

abbrev pub invariant-loop-c : goal.invariant-loop-c
invariant-loop-c l = Honest false l.s l.c

abbrev pub decreases-loop-c : goal.decreases-loop-c
decreases-loop-c l = length l.s - l.c.at
