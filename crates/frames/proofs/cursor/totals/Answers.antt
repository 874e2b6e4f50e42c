-- `frames::cursor::totals` meets its contract. The loop's invariant: the cursor is honest, so where the reading stops its counts are the
-- whole reading's.
use Rattle.std.proofs.Common.{false, sym, ap, ◌∙◌, arith}
use mathlib.Core.Path.{subst⁻¹}
use Rattle.wire.proofs.Lent.{lent_all}
use Rattle.frames.specs.Reading.{stops}
use Rattle.frames.specs.Inner.{junk_run}
use Rattle.frames.specs.Cursors.{Honest}
use Rattle.frames.proofs.GoingOn.{closed_on, comes_further, honest_begun, honest_past, honest_given}
use Rattle.frames.proofs.JunkRuns.{junk_inside, past_junk_honest, past_junk_further}
use Rattle.frames.proofs.cursor.totals.Goals as goal

pub loop-c-init : goal.loop-c-init
loop-c-init c =
    subst⁻¹ (Honest false c.args.s.now) c.closed-c.ensures (honest_begun c.args.s.now c.well_formed.0.0 false)

pub returns-in-Finished : goal.returns-in-Finished
returns-in-Finished c =
    honest_given c.args.s.now c.well_formed.0.0 false c.loop-c.c c.loop-c.invariant c.step_at-step.ensures c.counts.ensures (ap (stops false) c.in-Finished.is)

pub slice_bounds-junk_run-count : goal.slice_bounds-junk_run-count
slice_bounds-junk_run-count c =
    omega (arith, junk_inside c.args.s.now c.well_formed.0.0 c.loop-c.c (sym c.in-Junk.is ∙ c.step_at-step.ensures))

pub slice_bounds-junk_run-start : goal.slice_bounds-junk_run-start
slice_bounds-junk_run-start c = slice_bounds-junk_run-count c

pub loop-c-smaller-in-Junk : goal.loop-c-smaller-in-Junk
loop-c-smaller-in-Junk c =
    let s = c.args.s.now in
    let at-junk = sym c.in-Junk.is ∙ c.step_at-step.ensures in
    let run = c.junk_run.ensures ∙ ap junk_run (lent_all c.loop-c.c.at s) in
    omega (arith, junk_inside s c.well_formed.0.0 c.loop-c.c at-junk, past_junk_further s c.well_formed.0.0 c.loop-c.c at-junk run c.past_junk-c.ensures)

pub loop-c-preserved-in-Junk : goal.loop-c-preserved-in-Junk
loop-c-preserved-in-Junk c =
    let s = c.args.s.now in
    let at-junk = sym c.in-Junk.is ∙ c.step_at-step.ensures in
    let run = c.junk_run.ensures ∙ ap junk_run (lent_all c.loop-c.c.at s) in
    past_junk_honest s c.well_formed.0.0 c.loop-c.c at-junk run c.past_junk-c.ensures false c.loop-c.invariant

pub loop-c-smaller : goal.loop-c-smaller
loop-c-smaller c =
    omega (
      arith,
      comes_further c.args.s.now c.well_formed.0.0 c.loop-c.c c.step_at-step.ensures c.over-c.ensures false (closed_on c.step_at-step.result c.in_default.not-Finished),
    )

pub loop-c-preserved : goal.loop-c-preserved
loop-c-preserved c =
    honest_past c.args.s.now c.well_formed.0.0 false c.loop-c.c c.loop-c.invariant c.step_at-step.ensures c.over-c.ensures (closed_on c.step_at-step.result c.in_default.not-Finished)
