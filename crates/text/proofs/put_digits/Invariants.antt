-- `text::put_digits` meets its contract: the digits that are left are those before.
use Rattle.std.proofs.Common.{◌-◌, length}
use lib.Seq.{sets}
use Rattle.text.specs.Decimal.{decimal}
use Rattle.text.proofs.Filling.{Filling}
use Rattle.text.proofs.put_digits.Given as goal

abbrev pub invariant-loop-rest : goal.invariant-loop-rest
invariant-loop-rest l = Filling (l.end - length (decimal l.n)) (sets l.initial.buf (l.end - length (decimal l.n)) (decimal l.n)) l.buf l.at (decimal l.rest)

abbrev pub decreases-loop-rest : goal.decreases-loop-rest
decreases-loop-rest l = l.rest
