-- `formats::fits::run_fits` meets its contract.
use mathlib.Core.Path.{◌≡◌}
use Rattle.formats.specs.Digits.{formats_by, run_fits}
use Rattle.formats.proofs.Steps.{Counted}
use Rattle.formats.proofs.fits.run_fits.Given as goal

abbrev pub invariant-loop-rest : goal.invariant-loop-rest
invariant-loop-rest l = Counted l.digits l.rest l.i × (run_fits (formats_by l.rest) l.row l.i ≡ run_fits (formats_by l.digits) l.row 0)

abbrev pub decreases-loop-rest : goal.decreases-loop-rest
decreases-loop-rest l = l.rest
