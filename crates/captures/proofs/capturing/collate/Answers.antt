-- `captures::capturing::collate` meets its contract. The loop's invariant: the cursor is honest, and the frames that are left, fed to the state,
-- make the end.
use Rattle.std.proofs.Common.{◌≡◌, refl, sym, ap, ◌∙◌, rules}
use Rattle.std.specs.Prelude.{Err}
use Rattle.refusals.specs.Numbers.{answer_of}
use Rattle.frames.proofs.CursorLoops.{left_fewer}
use Rattle.epochs.proofs.Making.{refused_some, made_as}
use Rattle.captures.specs.Capture.{collated_of}
use Rattle.captures.proofs.Captures.{collated_refused, collated_fed, going_begun, going_on, going_done}
use Rattle.captures.proofs.capturing.collate.Goals as goal

pub returns-in_err-made : goal.returns-in_err-made
returns-in_err-made c =
    let a = c.args in
    let same : c.from_residual.result ≡ Err c.in_err-made.field-0.0 = search rules in
    let refusal = sym c.made.ensures ∙ ap answer_of c.in_err-made.was in
    ap collated_of same ∙ collated_refused a.s.now a.roster.now (made_as a.roster.now refusal) (refused_some a.roster.now refusal)

pub loop-frame-init : goal.loop-frame-init
loop-frame-init c =
    let a = c.args in
    let made = made_as a.roster.now (sym c.made.ensures ∙ ap answer_of c.in_ok-made.was) in
    going_begun a.s.now c.well_formed.0.0 _ _ (collated_fed a.s.now a.roster.now made refl) c.closed-cursor.ensures

pub loop-frame-smaller : goal.loop-frame-smaller
loop-frame-smaller c = left_fewer c.args.s.now c.well_formed.0.0 c.loop-frame.invariant.honest (sym c.next.ensures ∙ c.in-Frame.is)

pub loop-frame-preserved : goal.loop-frame-preserved
loop-frame-preserved c = going_on c.args.s.now c.well_formed.0.0 c.loop-frame.invariant (sym c.next.ensures ∙ c.in-Frame.is) c.payload.ensures c.feed.ensures

pub returns : goal.returns
returns c = going_done c.args.s.now c.well_formed.0.0 c.loop-frame.invariant (λ f d e. c.in_default.not-Frame f d (c.next.ensures ∙ e))
