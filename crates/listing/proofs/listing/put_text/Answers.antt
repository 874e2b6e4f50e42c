-- `listing::listing::put_text` meets its contract.
use mathlib.Core.Path.{sym, ap, ap₂, ◌∙◌}
use mathlib.Core.List.{List}
use Prim.Native.Nat.{ℕ, ◌+◌, ◌%◌, ◌^◌}
use native.Mathlib.Omega.{arith}
use lib.ListN.{length}
use lib.Seq.{length-sets}
use Rattle.wire.specs.Number.{bytes_stored}
use Rattle.frames.proofs.CursorLoops.{left_fewer, never_needs}
use Rattle.epochs.specs.Fed.{Fed}
use Rattle.epochs.specs.Happened.{Happened}
use Rattle.epochs.specs.declared.collating.Collator.{Collator}
use Rattle.listing.specs.Listing.{text_of}
use Rattle.listing.proofs.Texts.{putting_begun, putting_on, putting_end}
use Rattle.listing.proofs.listing.put_text.Goals as goal

pub loop-frame-init : goal.loop-frame-init
loop-frame-init c =
    putting_begun c.args.s.now c.args.buf.now c.well_formed.0.0 c.requires c.empty-collator.ensures c.closed-cursor.ensures

pub loop-frame-smaller : goal.loop-frame-smaller
loop-frame-smaller c =
    left_fewer c.args.s.now c.well_formed.0.0 c.loop-frame.invariant.honest (sym c.next.ensures ∙ c.in-Frame.is)

pub loop-frame-preserved : goal.loop-frame-preserved
loop-frame-preserved c =
    let fed = ap₂ {C = Fed} (λ (c : Collator) (h : Happened). record { collator = c; happened = h }) c.feed-fed.ensures.self_after c.feed-fed.ensures.value in
    putting_on c.args.s.now c.args.buf.now c.well_formed.0.0 c.requires c.loop-frame.invariant (sym c.next.ensures ∙ c.in-Frame.is) c.payload-payload.ensures
    (c.code-answer.ensures ∙ c.answer.ensures) c.put_frame-at.ensures.value c.put_frame-at.ensures.buf_after c.enlist.ensures fed
    (c.put_epoch-at.ensures.value ∙ ap (λ (line : List ℕ). (c.put_frame-at.result + length line) % 2 ^ 64) c.ended.ensures)
    (c.put_epoch-at.ensures.buf_after ∙ ap (λ (line : List ℕ). bytes_stored line c.put_frame-at.new.buf c.put_frame-at.result) c.ended.ensures)

pub shape_of-buf-in-End : goal.shape_of-buf-in-End
shape_of-buf-in-End c =
    let a = c.args in
    omega (arith, c.put_totals.auto, c.loop-frame.invariant.rest.pending.size, length-sets a.buf.now 0 (text_of a.s.now))

pub returns-in-End : goal.returns-in-End
returns-in-End c =
    let both = putting_end c.args.s.now c.args.buf.now c.well_formed.0.0 c.requires c.loop-frame.invariant (sym c.next.ensures ∙ c.in-End.is) c.counts.ensures c.put_totals.ensures.value c.put_totals.ensures.buf_after in record { value = both.0; buf_after = both.1 }

pub shape_of-buf-in-Needs : goal.shape_of-buf-in-Needs
shape_of-buf-in-Needs c =
    let a = c.args in
    omega (arith, c.loop-frame.invariant.rest.pending.size, length-sets a.buf.now 0 (text_of a.s.now))

pub returns-in-Needs : goal.returns-in-Needs
returns-in-Needs c =
    absurd (never_needs c.args.s.now c.well_formed.0.0 c.loop-frame.invariant.honest (sym c.next.ensures ∙ c.in-Needs.is))
