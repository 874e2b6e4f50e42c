-- `padded::padded::no_zero` meets its contract: none of the bytes looked at is zero, or one is.
use Rattle.padded.proofs.Texts.{Clean}
use Rattle.padded.proofs.padded.no_zero.Given as goal

abbrev pub invariant-loop-b : goal.invariant-loop-b
invariant-loop-b l = Clean l.s l.clean l.b-index
