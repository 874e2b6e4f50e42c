-- Writing a message, once for every message: what the three ways through a typed writer answer and leave in the buffer; and both round
-- trips through the frame.
use mathlib.Core.Path.{◌≡◌, sym, ap, ap₂, ◌∙◌}
use mathlib.Core.Bool.{true, false}
use mathlib.Core.List.{List}
use Prim.Native.Nat.{ℕ, ◌+◌, ◌≤◌, ◌<◌}
use lib.ListN.{length}
use borrow.Author.Tests.{leb-true}
use Rattle.wire.specs.Number.{Bytes}
use Rattle.layouts.specs.Layout.{Body, HeldBody, SettledBody, allowed_body, few_enough, body_bits, body_size, encode_body, Sound}
use Rattle.layouts.specs.Inner.{body_stored}
use Rattle.layouts.specs.Description.{Description, read_as}
use Rattle.refusals.specs.Refusals.{refused, given, Answer, leaves}
use Rattle.layouts.proofs.Layouts.{length-encode_body}
use Rattle.refusals.proofs.Ordered.{exactly_all}
use Rattle.layouts.proofs.Descriptions.{writes_back, reads_back, reads_same, exactly_22, exactly_23, read_settled}
use Rattle.senders.specs.Senders.{carried, HeldWriter}
use Rattle.senders.specs.declared.Writer.{Writer}
use Rattle.frames.specs.Step.{step_at, payload_in}
use Rattle.frame_writer.specs.Writer.{planned, starting_with, framed_by, sealed, with_frame}
use Rattle.frame_writer.specs.Faithful.{writing, write_answer, written_as, frame_written, Faithful}
use Rattle.frames.specs.declared.step.Step.TheVariants.{Found}
use Rattle.frame_writer.proofs.WrittenFrames.{writes_body}
use Rattle.frame_writer.proofs.WrittenRead.{framed_reads_back, framed_payload_back}

module _ {R : Type 0} (d : Description R) (w : Writer) (r : R) (buf : List ℕ) where
  abbrev v : Body d.layout
  v = d.row r

  -- what a writer answers, and the buffer as it leaves it
  abbrev pub Wrote : Answer ℕ → List ℕ → Type 0
  Wrote a u = (a ≡ write_answer d r (length buf)) × (u ≡ written_as d w r buf)

  -- refused: nothing is written
  pub left_alone : {n : ℕ} → write_answer d r (length buf) ≡ refused n → written_as d w r buf ≡ buf
  unfolding written_as
  left_alone e = rw e

  wrote_refused : {n : ℕ} → write_answer d r (length buf) ≡ refused n → Wrote (refused n) buf
  wrote_refused e = (sym e, sym (left_alone e))

  -- a ranged field outside its range; more bytes or rows than the most
  pub wrote_23 : allowed_body d.layout v ≡ false → Wrote (refused 23) buf
  unfolding write_answer
  wrote_23 e = wrote_refused (rw e)

  pub wrote_31 : allowed_body d.layout v ≡ true → few_enough d.layout v ≡ false → Wrote (refused 31) buf
  unfolding write_answer
  wrote_31 e few = wrote_refused (rw (e, few))

  -- then it goes by the plan of its bytes
  module _ (e : allowed_body d.layout v ≡ true) (few : few_enough d.layout v ≡ true) where
    as_planned : write_answer d r (length buf) ≡ planned (body_size d.layout v) (length buf)
    unfolding write_answer planned
    as_planned = rw (e, few)

    pub as_framed : written_as d w r buf ≡ with_frame d.kind w (encode_body d.layout v) buf
    unfolding written_as with_frame
    as_framed =
        ap (λ (a : Answer ℕ). leaves (starting_with (framed_by d.kind w (encode_body d.layout v))) a buf)
        (as_planned ∙ ap (λ (n : ℕ). planned n (length buf)) (sym (length-encode_body d.layout v)))

    module _ {a : Answer ℕ} (plan : a ≡ planned (body_size d.layout v) (length buf)) where
      -- the frame has no room
      pub wrote_nothing : {n : ℕ} → planned (body_size d.layout v) (length buf) ≡ refused n → Wrote a buf
      wrote_nothing q = (plan ∙ sym as_planned, sym (left_alone (as_planned ∙ q)))

      -- the parts stored one after the other, then sealed
      pub wrote : {n : ℕ} {t u : List ℕ} → planned (body_size d.layout v) (length buf) ≡ given n → t ≡ body_stored d.layout v buf 6
          → u ≡ sealed d.kind w (body_size d.layout v) t → Wrote a u
      wrote q p s = (plan ∙ sym as_planned, writes_body d.kind w d.layout v buf q p s ∙ sym as_framed)

  -- ---- through the frame

  module _ {n : ℕ} (k : d.kind < 65536) (held : HeldWriter w) (g : write_answer d r (length buf) ≡ given n) where
    -- a writer that answers a length found the record in its ranges, and room for the frame
    passes : (allowed_body d.layout v ≡ true) × (few_enough d.layout v ≡ true) × (body_size d.layout v ≤ 255) × (body_size d.layout v + 8 ≤ length buf)
    unfolding write_answer
    passes =
        let pass = ((exactly_all (body_size d.layout v + 8) (writing d r (length buf)).tests n).0 g).0 in
        (pass.0, pass.1.0, leb-true (body_size d.layout v) 255 pass.1.1.0, leb-true (body_size d.layout v + 8) (length buf) pass.1.1.1.0)

    abbrev bytes : List ℕ
    bytes = encode_body d.layout v

    short : length bytes ≤ 255
    short = rw length-encode_body passes.2

    room : length bytes + 8 ≤ length buf
    room = rw length-encode_body passes.3

    framed : written_as d w r buf ≡ with_frame d.kind w bytes buf
    framed = as_framed passes.0 passes.1

    -- a frame written is found where it was written
    found_through : step_at (written_as d w r buf) 0 ≡ Found (frame_written d w r)
    found_through =
        ap (λ (t : List ℕ). step_at t 0) framed
        ∙ framed_reads_back d.kind w bytes buf k held short room
        ∙ ap (λ (l : ℕ). Found (record { at = 0; kind = d.kind; sender = carried d.kind w; length = l })) (length-encode_body d.layout v)

    payload_through : payload_in (written_as d w r buf) (frame_written d w r) ≡ bytes
    payload_through =
        ap₂ (λ (t : List ℕ) (l : ℕ). payload_in t (record { at = 0; kind = d.kind; sender = carried d.kind w; length = l })) framed (sym (length-encode_body d.layout v))
        ∙ framed_payload_back d.kind w bytes buf k held short room

    module _ (sound : Sound d.layout) (h : HeldBody d.layout v) where
      -- and its payload gives the record back bit for bit
      reads_through : (q : R) × (read_as d (payload_in (written_as d w r buf) (frame_written d w r)) ≡ given q) × (body_bits d.layout (d.row q) ≡ body_bits d.layout v)
      reads_through = let back = reads_back d sound r h passes.0 passes.1 in (back.0, ap (read_as d) payload_through ∙ back.1, back.2)

      -- the very record, where it is such as reading makes
      reads_through_same : SettledBody d.layout v → read_as d (payload_in (written_as d w r buf) (frame_written d w r)) ≡ given r
      reads_through_same e = ap (read_as d) payload_through ∙ reads_same d sound r h passes.0 passes.1 e

  -- an accepted payload written again gives a frame of the same bytes
  writes_through : (s : List ℕ) → Bytes s → read_as d s ≡ given r → written_as d w r buf ≡ with_frame d.kind w s buf
  writes_through s h g = let same = writes_back d s r h g in as_framed same.0 same.1 ∙ ap (λ (b : List ℕ). with_frame d.kind w b buf) same.2

-- what every message keeps, once its type number has 16 bits and its rows have some bytes
pub faithful : {R : Type 0} (d : Description R) → d.kind < 65536 → Sound d.layout → Faithful d
faithful d k sound = record {
  found = λ w r buf s g. found_through d w r buf k s g;
  back = λ w r buf s g h. reads_through d w r buf k s g sound h;
  same = λ w r buf s g h e. reads_through_same d w r buf k s g sound h e;
  settled = read_settled d;
  again = λ w r buf s h g. writes_through d w r buf s h g;
  refused_22 = exactly_22 d;
  refused_23 = exactly_23 d;
}
