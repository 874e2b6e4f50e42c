-- `crc::bytes::few` meets its contract: what the loop has, with what is left behind it, is the whole number.
use Rattle.crc.proofs.Words.{Taken}
use Rattle.crc.proofs.bytes.few.Given as goal

abbrev pub invariant-loop-b : goal.invariant-loop-b
invariant-loop-b l = Taken l.s l.n l.b-index
