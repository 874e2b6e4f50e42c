-- `formats::store::store_run` meets its contract: number after number.
use mathlib.Core.Path.{◌≡◌}
use Rattle.formats.specs.Digits.{formats_by, run_stored}
use Rattle.formats.proofs.Steps.{Counted, Sized}
use Rattle.formats.proofs.store.store_run.Given as goal

abbrev pub invariant-loop-rest : goal.invariant-loop-rest
invariant-loop-rest l = Counted l.digits l.rest l.i × Sized l.digits l.rest l.at × (run_stored (formats_by l.rest) l.row l.i l.buf l.at ≡ run_stored (formats_by l.digits) l.row 0 l.initial.buf 0)

abbrev pub decreases-loop-rest : goal.decreases-loop-rest
decreases-loop-rest l = l.rest
