-- `row_writer::obs::pack_rows` meets its contract. The loop's invariant: the observations left, stored from here on, make what all make
-- of the start.
use Rattle.row_writer.proofs.ObsPacked.{Packed}
use Rattle.row_writer.proofs.obs.pack_rows.Given as goal

abbrev pub invariant-loop-i : goal.invariant-loop-i
invariant-loop-i l = Packed l.rows l.initial.bytes l.k l.bytes l.i
