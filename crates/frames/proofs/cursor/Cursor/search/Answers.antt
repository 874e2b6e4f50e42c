-- `frames::cursor::Cursor::search` meets its contract. The loop's invariant: the answer is still that of the cursor handed in.
use Rattle.std.proofs.Common.{sym, refl, ap, ◌∙◌, arith}
use Rattle.wire.proofs.Lent.{lent_all}
use Rattle.frames.specs.Inner.{junk_run}
use Rattle.frames.specs.Cursors.{reached_in}
use Rattle.frames.proofs.GoingOn.{passed_on, comes_further, next_kept, next_given}
use Rattle.frames.proofs.JunkRuns.{junk_inside, past_junk_next, past_junk_further}
use Rattle.frames.proofs.cursor.Cursor.search.Goals as goal

pub loop-c-init : goal.loop-c-init
loop-c-init c = refl

pub slice_bounds-junk_run-count : goal.slice_bounds-junk_run-count
slice_bounds-junk_run-count c =
    omega (arith, junk_inside c.args.s.now c.well_formed.1.0.0 c.loop-c.c (sym c.in-Junk.is ∙ c.step_at-step.ensures))

pub slice_bounds-junk_run-start : goal.slice_bounds-junk_run-start
slice_bounds-junk_run-start c = slice_bounds-junk_run-count c

pub loop-c-smaller-in-Junk : goal.loop-c-smaller-in-Junk
loop-c-smaller-in-Junk c =
    let s = c.args.s.now in
    let at-junk = sym c.in-Junk.is ∙ c.step_at-step.ensures in
    let run = c.junk_run.ensures ∙ ap junk_run (lent_all c.loop-c.c.at s) in
    omega (arith, junk_inside s c.well_formed.1.0.0 c.loop-c.c at-junk, past_junk_further s c.well_formed.1.0.0 c.loop-c.c at-junk run c.past_junk-c.ensures)

pub loop-c-preserved-in-Junk : goal.loop-c-preserved-in-Junk
loop-c-preserved-in-Junk c =
    let s = c.args.s.now in
    let at-junk = sym c.in-Junk.is ∙ c.step_at-step.ensures in
    let run = c.junk_run.ensures ∙ ap junk_run (lent_all c.loop-c.c.at s) in
    past_junk_next s c.well_formed.1.0.0 c.loop-c.c at-junk run c.past_junk-c.ensures ∙ c.loop-c.invariant

pub loop-c-smaller : goal.loop-c-smaller
loop-c-smaller c =
    let on = passed_on c.loop-c.c.opened c.step_at-step.result (sym c.passes.ensures ∙ c.if-passes.true) in
    omega (arith, comes_further c.args.s.now c.well_formed.1.0.0 c.loop-c.c c.step_at-step.ensures c.over-c.ensures c.loop-c.c.opened on)

pub loop-c-preserved : goal.loop-c-preserved
loop-c-preserved c =
    next_kept c.args.s.now c.well_formed.1.0.0 c.loop-c.c c.step_at-step.ensures c.over-c.ensures (sym c.passes.ensures ∙ c.if-passes.true) ∙ c.loop-c.invariant

pub returns-else-passes : goal.returns-else-passes
returns-else-passes c =
    c.reached.ensures
    ∙ ap reached_in (next_given c.args.s.now c.well_formed.1.0.0 c.loop-c.c c.step_at-step.ensures (sym c.passes.ensures ∙ c.if-passes.false) refl ∙ c.loop-c.invariant)
