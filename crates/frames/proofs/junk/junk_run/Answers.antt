-- `frames::junk::junk_run` meets its contract. The loop's invariant: the run reaches to where it stands.
use Rattle.std.proofs.Common.{sym, arith}
use Rattle.frames.proofs.JunkRuns.{run_more, run_stop, run_length}
use Rattle.frames.proofs.junk.junk_run.Goals as goal

pub returns-then-s-i-eq85 : goal.returns-then-s-i-eq85
returns-then-s-i-eq85 c =
    sym (run_stop c.loop-i.i c.args.s.now c.loop-i.invariant c.loop-i-test.true c.if-s-i-eq85.true)

pub loop-i-preserved : goal.loop-i-preserved
loop-i-preserved c =
    omega (arith, run_more c.loop-i.i c.args.s.now c.loop-i.invariant c.loop-i-test.true c.if-s-i-eq85.false)

pub returns : goal.returns
returns c = omega (arith, run_length c.args.s.now, c.loop-i.invariant, c.loop-i-test.false)
