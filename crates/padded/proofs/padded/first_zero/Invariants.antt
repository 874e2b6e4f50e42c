-- `padded::padded::first_zero` meets its contract: none of the bytes passed is zero.
use Rattle.padded.proofs.Texts.{Passed}
use Rattle.padded.proofs.padded.first_zero.Given as goal

abbrev pub invariant-loop-i : goal.invariant-loop-i
invariant-loop-i l = Passed l.s l.i
