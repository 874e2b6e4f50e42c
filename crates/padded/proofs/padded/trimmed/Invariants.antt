-- `padded::padded::trimmed` meets its contract.
use Rattle.padded.proofs.Texts.{Trimmed}
use Rattle.padded.proofs.padded.trimmed.Given as goal

abbrev pub invariant-loop-i : goal.invariant-loop-i
invariant-loop-i l = Trimmed l.s l.i
