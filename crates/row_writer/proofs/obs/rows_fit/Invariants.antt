-- `row_writer::obs::rows_fit` meets its contract. The loop's invariant: whether the observations left fit is whether all do.
use Rattle.observation.specs.Edition.{observation}
use Rattle.row_writer.proofs.ObsRows.{Fit}
use Rattle.row_writer.proofs.obs.rows_fit.Given as goal

abbrev pub invariant-loop-i : goal.invariant-loop-i
invariant-loop-i l = Fit observation.fields l.rows l.k l.i
