-- `formats::digits::size` meets its contract.
use Prim.Native.Nat.{◌≤◌}
use Rattle.formats.proofs.Steps.{Sized}
use Rattle.formats.proofs.digits.size.Given as goal

abbrev pub invariant-loop-rest : goal.invariant-loop-rest
invariant-loop-rest l = (l.rest ≤ l.digits) × Sized l.digits l.rest l.n

abbrev pub decreases-loop-rest : goal.decreases-loop-rest
decreases-loop-rest l = l.rest
