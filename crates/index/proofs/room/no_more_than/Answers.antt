-- `index::room::no_more_than` meets its contract. The loop's invariant: the answer is that of the frames and the room that are left.
use Rattle.std.proofs.Common.{sym, ◌∙◌}
use Rattle.index.proofs.Plans.{one_too_many, one_taken, none_left}
use Rattle.index.proofs.room.no_more_than.Goals as goal

pub returns-then-left-eq0 : goal.returns-then-left-eq0
returns-then-left-eq0 c =
    let a = c.args in
    sym (c.loop-c.invariant.1 ∙ one_too_many a.s.now c.well_formed.1.0.0 c.loop-c.at c.loop-c.invariant.0 (sym c.after.ensures ∙ c.in-Frame.is) c.if-left-eq0.true)

pub loop-c-preserved : goal.loop-c-preserved
loop-c-preserved c =
    let a = c.args in
    let next = one_taken a.s.now c.well_formed.1.0.0 c.loop-c.at c.loop-c.invariant.0 (sym c.after.ensures ∙ c.in-Frame.is) in
    (next.0, c.loop-c.invariant.1 ∙ next.1 c.loop-c.left c.if-left-eq0.false)

pub returns : goal.returns
returns c =
    let a = c.args in
    let none = none_left a.s.now c.well_formed.1.0.0 c.loop-c.at c.loop-c.invariant.0 c.loop-c.left c.after.result (sym c.after.ensures) c.in_default.not-Frame in
    sym (c.loop-c.invariant.1 ∙ none)
