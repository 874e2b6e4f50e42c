-- `padded::padded::no_zero` meets its contract: none of the bytes looked at is zero, or one is.
use native.Mathlib.Omega.{arith}
use Rattle.padded.proofs.Texts.{looked_at, looked_at_all}
use Rattle.padded.proofs.padded.no_zero.Goals as goal

pub loop-b-preserved : goal.loop-b-preserved
loop-b-preserved c = looked_at c.args.s.now c.loop-b.b-index c.loop-b.clean c.loop-b.invariant (omega (arith, c.loop-b-test.true))

pub returns : goal.returns
returns c = looked_at_all c.args.s.now c.loop-b.b-index c.loop-b.clean c.loop-b.invariant (omega (arith, c.loop-b-test.false))
