-- `frames::cursor::Cursor::search` meets its contract. The loop's invariant: the answer is still that of the cursor handed in.
use Rattle.std.proofs.Common.{◌≡◌, ◌-◌, length}
use Rattle.frames.specs.Cursors.{next_of}
use Rattle.frames.proofs.cursor.Cursor.search.Given as goal

abbrev pub invariant-loop-c : goal.invariant-loop-c
invariant-loop-c l = next_of l.s l.c ≡ next_of l.s l.initial.c

abbrev pub decreases-loop-c : goal.decreases-loop-c
decreases-loop-c l = length l.s - l.c.at
