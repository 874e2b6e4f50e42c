-- `obs_writer::obs_write::put_entries` meets its contract. The loop's invariant: the observations left, stored from here on, make what all make
-- of the start.
use lib.ListN.{length}
use Rattle.observation.specs.Edition.{observation}
use Rattle.obs_writer.proofs.EntriesStored.{Stored}
use Rattle.obs_writer.proofs.obs_write.put_entries.Given as goal

abbrev pub invariant-loop-i : goal.invariant-loop-i
invariant-loop-i l = Stored observation 13 l.initial.buf l.entries (length l.entries) l.buf l.i
