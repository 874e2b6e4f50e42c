-- `frames::junk::past_blocks` meets its contract. The loop's invariant: the run reaches to where it stands.
use Rattle.std.proofs.Common.{drop, sym, ◌∙◌, arith, leb-true}
use Rattle.frames.specs.Inner.{junk_run}
use Rattle.frames.proofs.JunkRuns.{run_length, run_on}
use Rattle.frames.proofs.junk.past_blocks.Goals as goal

pub overflow_sub-s : goal.overflow_sub-s
overflow_sub-s c = omega (arith, c.loop-to.invariant, run_length c.args.s.now)

pub clear-requires : goal.clear-requires
clear-requires c = omega (arith, c.loop-to.invariant, c.loop-to-test.true, run_length c.args.s.now)

pub loop-to-preserved : goal.loop-to-preserved
loop-to-preserved c =
    let s = c.args.s.now in
    run_on c.loop-to.to 32 s c.loop-to.invariant (leb-true 32 (junk_run (drop c.loop-to.to s)) (sym c.clear.ensures ∙ c.if-clear.true))
