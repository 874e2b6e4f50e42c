-- `formats::digits::count` meets its contract.
use Rattle.formats.proofs.Steps.{Counted}
use Rattle.formats.proofs.digits.count.Given as goal

abbrev pub invariant-loop-rest : goal.invariant-loop-rest
invariant-loop-rest l = Counted l.digits l.rest l.n

abbrev pub decreases-loop-rest : goal.decreases-loop-rest
decreases-loop-rest l = l.rest
