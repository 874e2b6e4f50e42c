-- `formats::read::read_run` meets its contract: number after number, where all have room.
use mathlib.Core.Path.{◌≡◌}
use lib.Seq.{sets}
use Rattle.formats.specs.Digits.{formats_by, numbers_at}
use Rattle.formats.proofs.Steps.{Counted, Sized}
use Rattle.formats.proofs.read.read_run.Given as goal

abbrev pub invariant-loop-rest : goal.invariant-loop-rest
invariant-loop-rest l = Counted l.digits l.rest l.i × Sized l.digits l.rest l.at × (sets l.row l.i (numbers_at (formats_by l.rest) l.s l.at) ≡ sets l.initial.row 0 (numbers_at (formats_by l.digits) l.s 0))

abbrev pub decreases-loop-rest : goal.decreases-loop-rest
decreases-loop-rest l = l.rest
