-- `crc::bytes::few` meets its contract: what the loop has, with what is left behind it, is the whole number.
use native.Mathlib.Omega.{arith}
use Rattle.crc.proofs.Words.{taken_none, taken_more, taken_all}
use Rattle.crc.proofs.bytes.few.Goals as goal

pub loop-b-init : goal.loop-b-init
loop-b-init c = taken_none c.args.s.now

pub loop-b-preserved : goal.loop-b-preserved
loop-b-preserved c =
    taken_more c.args.s.now (λ i. (c.type_inv.s i).fits) c.requires c.loop-b.invariant (omega (arith, c.loop-b-test.true))

pub returns : goal.returns
returns c = taken_all c.args.s.now c.loop-b.invariant (omega (arith, c.loop-b-test.false))
