-- `frames::cursor::Cursor::reach` meets its contract: past the first step the answer is the same, or it is the answer.
use Rattle.std.proofs.Common.{sym, refl, ap, ◌∙◌}
use Rattle.frames.specs.Cursors.{reached_in}
use Rattle.frames.proofs.GoingOn.{next_kept, next_given}
use Rattle.frames.proofs.cursor.Cursor.reach.Goals as goal

pub returns-then-passes : goal.returns-then-passes
returns-then-passes c =
    c.search.ensures
    ∙ ap reached_in (next_kept c.args.s.now c.well_formed.1.0.0 c.args.self c.step_at-step.ensures c.over.ensures (sym c.passes.ensures ∙ c.if-passes.true))

pub returns : goal.returns
returns c =
    c.reached.ensures
    ∙ ap reached_in (next_given c.args.s.now c.well_formed.1.0.0 c.args.self c.step_at-step.ensures (sym c.passes.ensures ∙ c.if-passes.false) refl)
