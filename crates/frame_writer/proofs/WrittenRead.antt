-- A written frame is read back, whatever stands before and after it: the step there is that frame, and its payload the one written.
use mathlib.Core.Path.{◌≡◌, refl, sym, ap, ◌∙◌}
use mathlib.Core.List.{List, [], ◌∷◌, ◌++◌, append_assoc}
use Prim.Native.Nat.{ℕ, ◌+◌, ◌≤◌, ◌<◌}
use native.Mathlib.Omega.{arith}
use lib.Dec.{lit<}
use lib.ListN.{length, get_or, take, drop}
use lib.Seq.{take-append_seam, drop-append_seam, drop-append-add, take_at, drop_at}
use borrow.Author.Tests.{eq-eqb, ne_eqb, le-ltb}
use Rattle.wire.specs.Number.{little, bytes_of, number_at}
use Rattle.wire.proofs.Numbers.{length-bytes_of, little_bytes_of}
use Rattle.crc.specs.Crc.{crc_from}
use Rattle.crc.proofs.Fold.{crc_from_fits}
use Rattle.senders.specs.Senders.{carried, HeldWriter}
use Rattle.senders.specs.declared.Writer.{Writer}
use Rattle.senders.proofs.Carrying.{carried_small}
use Rattle.frames.specs.Frame.{covered, frame_bytes}
use Rattle.frames.specs.Step.{stated, frame_at, step_of, step_at, payload_in}
use Rattle.frame_writer.specs.Writer.{with_frame}
use Rattle.frames.specs.declared.step.Frame.{Frame}
use Rattle.frames.specs.declared.step.Step.TheVariants.{Found}
use Rattle.frame_writer.proofs.WrittenFrames.{length-covered, length-frame_then, framed_fits}

-- what makes a frame of what stands at the front
found : (at : ℕ) (t : List ℕ) (n : ℕ) → get_or t 0 0 ≡ 0x55 → stated t ≡ n → n + 8 ≤ length t → crc_from 0 (take (n + 5) (drop 1 t)) ≡ number_at 2 t (n + 6) → step_of at t ≡ Found (frame_at at t)
unfolding step_of
found at t n start states room agree =
    let sum : crc_from 0 (take (stated t + 5) (drop 1 t)) ≡ number_at 2 t (stated t + 6) = rw states agree in
    rw (
      ne_eqb (length t) 0 (omega arith),
      eq-eqb (get_or t 0 0) 0x55 start,
      le-ltb (length t) 6 (omega arith),
      le-ltb (length t) (stated t + 8) (omega arith),
      eq-eqb (crc_from 0 (take (stated t + 5) (drop 1 t))) (number_at 2 t (stated t + 6)) sum,
    )

module _ (kind sender : ℕ) (payload rest : List ℕ) where
  frame_then : frame_bytes kind sender payload ++ rest ≡ 0x55 ∷ covered kind sender payload ++ (bytes_of 2 (crc_from 0 (covered kind sender payload)) ++ rest)
  unfolding frame_bytes
  frame_then = append_assoc (0x55 ∷ covered kind sender payload) (bytes_of 2 (crc_from 0 (covered kind sender payload))) rest

  preamble_back : get_or (frame_bytes kind sender payload ++ rest) 0 0 ≡ 0x55
  unfolding frame_bytes
  preamble_back = refl

  sum_back : number_at 2 (frame_bytes kind sender payload ++ rest) (length payload + 6) ≡ crc_from 0 (covered kind sender payload)
  unfolding number_at
  sum_back =
      let sum = crc_from 0 (covered kind sender payload) in
      ap (λ (t : List ℕ). little (take 2 (drop (length payload + 6) t))) frame_then
      ∙ ap (λ (t : List ℕ). little (take 2 t)) (drop_at (0x55 ∷ covered kind sender payload) (bytes_of 2 sum ++ rest) (length payload + 6) (omega (arith, length-covered kind sender payload)))
      ∙ ap little (take_at (bytes_of 2 sum) rest 2 (length-bytes_of 2 sum))
      ∙ little_bytes_of 2 sum (crc_from_fits 0 (covered kind sender payload) (lit< tt))

  covered_back : take (length payload + 5) (drop 1 (frame_bytes kind sender payload ++ rest)) ≡ covered kind sender payload
  covered_back =
      ap (λ (t : List ℕ). take (length payload + 5) (drop 1 t)) frame_then
      ∙ take_at (covered kind sender payload) _ (length payload + 5) (length-covered kind sender payload)

  -- the payload stands at 6
  payload_back : take (length payload) (drop 6 (frame_bytes kind sender payload ++ rest)) ≡ payload
  unfolding frame_bytes bytes_of
  payload_back =
      let sum = bytes_of 2 (crc_from 0 (covered kind sender payload)) in
      ap (take (length payload)) (append_assoc payload sum rest) ∙ take-append_seam payload (sum ++ rest)

  module _ (k : kind < 65536) (s : sender < 65536) (n : length payload ≤ 255) where
    kind_back : number_at 2 (frame_bytes kind sender payload ++ rest) 1 ≡ kind
    unfolding frame_bytes bytes_of number_at little
    kind_back = omega arith

    sender_back : number_at 2 (frame_bytes kind sender payload ++ rest) 3 ≡ sender
    unfolding frame_bytes bytes_of number_at little
    sender_back = omega arith

    length_back : number_at 1 (frame_bytes kind sender payload ++ rest) 5 ≡ length payload
    unfolding frame_bytes bytes_of number_at little
    length_back = omega arith

    pub reads_back : (at : ℕ) → step_of at (frame_bytes kind sender payload ++ rest) ≡ Found (record { at = at; kind = kind; sender = sender; length = length payload })
    reads_back at =
        found at (frame_bytes kind sender payload ++ rest) (length payload) preamble_back length_back (omega (arith, length-frame_then kind sender payload rest)) (ap (crc_from 0) covered_back ∙ sym sum_back)
        ∙ (λ i. Found (record { at = at; kind = kind_back i; sender = sender_back i; length = length_back i }))

    -- the same in the midst of a capture
    pub reads_back_at : (before : List ℕ)
        → step_at (before ++ (frame_bytes kind sender payload ++ rest)) (length before) ≡ Found (record { at = length before; kind = kind; sender = sender; length = length payload })
    reads_back_at before = ap (step_of (length before)) (drop-append_seam before (frame_bytes kind sender payload ++ rest)) ∙ reads_back (length before)

  pub payload_back_at : (before : List ℕ)
      → payload_in (before ++ (frame_bytes kind sender payload ++ rest)) (record { at = length before; kind = kind; sender = sender; length = length payload }) ≡ payload
  unfolding payload_in
  payload_back_at before = ap (take (length payload)) (drop-append-add before (frame_bytes kind sender payload ++ rest) 6) ∙ payload_back

-- what a frame writer leaves is read back, under the number that the type and the writer say
module _ (kind : ℕ) (w : Writer) (payload buf : List ℕ) (k : kind < 65536) (h : HeldWriter w) (n : length payload ≤ 255) (room : length payload + 8 ≤ length buf) where
  abbrev frame : Frame
  frame = record { at = 0; kind = kind; sender = carried kind w; length = length payload }

  pub framed_reads_back : step_at (with_frame kind w payload buf) 0 ≡ Found frame
  framed_reads_back =
      ap (step_of 0) (framed_fits kind w payload buf n room) ∙ reads_back kind (carried kind w) payload (drop (length payload + 8) buf) k (carried_small kind w h) n 0

  pub framed_payload_back : payload_in (with_frame kind w payload buf) frame ≡ payload
  framed_payload_back =
      ap (λ (t : List ℕ). payload_in t frame) (framed_fits kind w payload buf n room)
      ∙ payload_back_at kind (carried kind w) payload (drop (length payload + 8) buf) []
