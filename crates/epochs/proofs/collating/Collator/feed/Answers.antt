-- `epochs::collating::Collator::feed` meets its contract: the packet's own place takes it.
use Rattle.std.proofs.Common.{◌≡◌, sym, ap, ap₂, ◌∙◌, ◌<◌, take, List, ℕ, length, arith, rules}
use Rattle.std.specs.Prelude.{Err}
use lib.ListN.{length-take}
use Rattle.refusals.specs.Refusals.{given}
use Rattle.refusals.specs.Numbers.{answer_of, number_of}
use Rattle.frames.specs.Frame.{Content}
use Rattle.epochs.specs.Fed.{Fed}
use Rattle.epochs.specs.Collator.{for_place, roster_of, happened_of, fed_frame}
use Rattle.epochs.specs.Happened as H
use Rattle.epochs.proofs.Placings.{placed_below}
use Rattle.epochs.proofs.Feeding.{moved_by, fed_refused, fed_for, fed_taken}
use Rattle.epochs.proofs.collating.Collator.feed.Goals as goal
use Rattle.epochs.proofs.collating.Collator.feed.Goals.{In_err-at, In_ok-at, In_err-stepped}

-- the frame is refused
unplaced : (c : In_err-at)
    → fed_frame c.args.self.now (record { kind = c.args.kind; sender = c.args.sender; payload = c.args.payload.now })
    ≡ record { collator = c.args.self.now; happened = H.Refused (number_of c.in_err-at.field-0.0) }
unplaced c =
    let a = c.args in
    let x : Content = record { kind = a.kind; sender = a.sender; payload = a.payload.now } in
    fed_refused a.self.now x (ap₂ (λ (n : ℕ) (r : List ℕ). for_place (take n r) x) (sym c.listed.ensures.count) (sym c.listed.ensures.senders) ∙ sym c.recognise.ensures ∙ ap answer_of c.in_err-at.was)

-- it is a packet for a place, which is one of the eight
for : (c : In_ok-at)
    → for_place (roster_of c.args.self.now) (record { kind = c.args.kind; sender = c.args.sender; payload = c.args.payload.now })
    ≡ given (c.in_ok-at.at, c.in_ok-at.packet)
for c =
    let a = c.args in
    let x : Content = record { kind = a.kind; sender = a.sender; payload = a.payload.now } in
    ap₂ (λ (n : ℕ) (r : List ℕ). for_place (take n r) x) (sym c.listed.ensures.count) (sym c.listed.ensures.senders) ∙ sym c.recognise.ensures ∙ ap answer_of c.in_ok-at.was

within : (c : In_ok-at) → c.in_ok-at.at < 8
within c =
    let a = c.args in
    let size : length a.self.now.roster ≡ 8 = search rules in
    omega (arith, simp length-take at (placed_below (roster_of a.self.now) (record { kind = a.kind; sender = a.sender; payload = a.payload.now }) (for c)))

-- its place refuses it
unmoved : (c : In_err-stepped)
    → for_place (roster_of c.args.self.now) (record { kind = c.args.kind; sender = c.args.sender; payload = c.args.payload.now })
    ≡ given (c.in_ok-at.at, c.in_ok-at.packet)
    → fed_frame c.args.self.now (record { kind = c.args.kind; sender = c.args.sender; payload = c.args.payload.now })
    ≡ record { collator = c.args.self.now; happened = H.Refused (number_of c.in_err-stepped.field-0.0) }
unmoved c there =
    let a = c.args in
    fed_for a.self.now (record { kind = a.kind; sender = a.sender; payload = a.payload.now }) there
    ∙ ap (moved_by a.self.now a.sender c.in_ok-at.at c.in_ok-at.packet) (sym c.step.ensures ∙ ap answer_of c.in_err-stepped.was)

pub returns-in_err-at-clause-value : goal.returns-in_err-at-clause-value
returns-in_err-at-clause-value c =
    let same : c.from_residual.result ≡ Err c.in_err-at.field-0.0 = search rules in
    ap happened_of same ∙ ap (λ (f : Fed). f.happened) (sym (unplaced (goal.at.returns-in_err-at-clause-value c).In_err-at))

pub returns-in_err-at-clause-self_after : goal.returns-in_err-at-clause-self_after
returns-in_err-at-clause-self_after c = ap (λ (f : Fed). f.collator) (sym (unplaced (goal.at.returns-in_err-at-clause-self_after c).In_err-at))

pub offset_bounds-self-at : goal.offset_bounds-self-at
offset_bounds-self-at c = omega (arith, within (goal.at.offset_bounds-self-at c).In_ok-at)

pub bounds-self-at : goal.bounds-self-at
bounds-self-at c = within (goal.at.bounds-self-at c).In_ok-at

pub returns-in_err-stepped-clause-value : goal.returns-in_err-stepped-clause-value
returns-in_err-stepped-clause-value c =
    let same : c.from_residual-in_err-stepped.result ≡ Err c.in_err-stepped.field-0.0 = search rules in
    let at = goal.at.returns-in_err-stepped-clause-value c in
    ap happened_of same ∙ ap (λ (f : Fed). f.happened) (sym (unmoved at.In_err-stepped (for at.In_ok-at)))

pub returns-in_err-stepped-clause-self_after : goal.returns-in_err-stepped-clause-self_after
returns-in_err-stepped-clause-self_after c =
    let at = goal.at.returns-in_err-stepped-clause-self_after c in
    ap (λ (f : Fed). f.collator) (sym (unmoved at.In_err-stepped (for at.In_ok-at)))

pub offset_bounds-self-at-2 : goal.offset_bounds-self-at-2
offset_bounds-self-at-2 c = omega (arith, within (goal.at.offset_bounds-self-at-2 c).In_ok-at)

pub bounds-self-at-2 : goal.bounds-self-at-2
bounds-self-at-2 c = within (goal.at.bounds-self-at-2 c).In_ok-at

pub returns-clause-value : goal.returns-clause-value
returns-clause-value c =
    let a = c.args in
    let moved = fed_taken a.self.now (record { kind = a.kind; sender = a.sender; payload = a.payload.now }) (for (goal.at.returns-clause-value c).In_ok-at)
    (ap answer_of (sym c.in_ok-stepped.was) ∙ c.step.ensures) c.outcome.ensures in
    ap (λ (f : Fed). f.happened) moved

pub returns-clause-self_after : goal.returns-clause-self_after
returns-clause-self_after c =
    let a = c.args in
    let moved = fed_taken a.self.now (record { kind = a.kind; sender = a.sender; payload = a.payload.now }) (for (goal.at.returns-clause-self_after c).In_ok-at)
    (ap answer_of (sym c.in_ok-stepped.was) ∙ c.step.ensures) c.outcome.ensures in
    ap (λ (f : Fed). f.collator) moved
