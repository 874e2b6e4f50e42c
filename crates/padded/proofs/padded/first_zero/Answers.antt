-- `padded::padded::first_zero` meets its contract: none of the bytes passed is zero.
use native.Mathlib.Omega.{arith}
use Rattle.padded.proofs.Texts.{stops_at, passes, passed_end}
use Rattle.padded.proofs.padded.first_zero.Goals as goal

pub returns-then-b-eq0 : goal.returns-then-b-eq0
returns-then-b-eq0 c = stops_at c.args.s.now c.loop-i.i c.loop-i.invariant (omega (arith, c.loop-i-test.true)) c.if-b-eq0.true

pub loop-i-preserved : goal.loop-i-preserved
loop-i-preserved c = passes c.args.s.now c.loop-i.i c.loop-i.invariant (omega (arith, c.loop-i-test.true)) c.if-b-eq0.false

pub returns : goal.returns
returns c = passed_end c.args.s.now c.loop-i.i c.loop-i.invariant (omega (arith, c.loop-i-test.false))
