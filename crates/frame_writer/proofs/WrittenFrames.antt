-- The stores of a frame writer make the frame: the head, the payload at 6 and the CRC after it.
use mathlib.Core.Path.{◌≡◌, refl, sym, ap, ap₂, ◌∙◌}
use mathlib.Core.List.{List, [], ◌∷◌, ◌++◌, append_assoc}
use Prim.Native.Nat.{ℕ, ◌+◌, ◌-◌, ◌≤◌}
use native.Mathlib.Omega.{arith}
use lib.ListN.{length, take, drop, length-append, length-drop, take-append-drop}
use lib.Seq.{sets, drop-drop, take-append_seam, drop-append-add, take_at, drop_at, length-take-le, length-sets, sets-eq}
use Rattle.wire.specs.Number.{bytes_of, stored_at}
use Rattle.layouts.specs.Field.{encode}
use Rattle.layouts.specs.Layout.{Layout, Body, body_size, encode_body}
use Rattle.layouts.specs.Inner.{body_stored}
use Rattle.refusals.specs.Refusals.{refused, given}
use Rattle.wire.proofs.Numbers.{length-bytes_of, stored_sets}
use Rattle.layouts.proofs.Fields.{row_sets}
use Rattle.layouts.proofs.Layouts.{length-encode_body, body_sets}
use Rattle.crc.specs.Crc.{crc_from}
use Rattle.senders.specs.Senders.{carried}
use Rattle.senders.specs.declared.Writer.{Writer}
use Rattle.frames.specs.Frame.{covered, frame_bytes}
use Rattle.frame_writer.specs.Writer.{planned, framed_by, sealed, with_frame}
use Rattle.frame_writer.specs.Inner.{head, head_row, headed}
use Rattle.frame_writer.proofs.WrittenPlan.{planned_given, fits}

-- ---- lengths

pub length-covered : (kind sender : ℕ) (payload : List ℕ) → length (covered kind sender payload) ≡ length payload + 5
unfolding bytes_of covered
length-covered kind sender payload = omega arith

pub length-frame : (kind sender : ℕ) (payload : List ℕ) → length (frame_bytes kind sender payload) ≡ length payload + 8
unfolding bytes_of frame_bytes
length-frame kind sender payload = simp length-append (omega arith)

pub length-frame_then : (kind sender : ℕ) (payload rest : List ℕ) → length (frame_bytes kind sender payload ++ rest) ≡ length payload + 8 + length rest
length-frame_then kind sender payload rest = length-append (frame_bytes kind sender payload) rest ∙ ap (λ (n : ℕ). n + length rest) (length-frame kind sender payload)

-- ---- sealing

drop-on : (m n k : ℕ) (s : List ℕ) → n + m ≡ k → drop m (drop n s) ≡ drop k s
drop-on m n k s e = drop-drop m n s ∙ ap (λ (i : ℕ). drop i s) e

-- a run of stores from where a list ends on
sets-seam : (a b vs : List ℕ) (n : ℕ) → length a ≡ n → length vs ≤ length b → sets (a ++ b) n vs ≡ a ++ vs ++ drop (length vs) b
sets-seam a b vs n e h =
    ap (λ (k : ℕ). sets (a ++ b) k vs) (sym e)
    ∙ sets-eq vs (a ++ b) (length a) (rw length-append (omega arith))
    ∙ ap₂ (λ (x y : List ℕ). x ++ vs ++ y) (take-append_seam a b) (drop-append-add a b (length vs))

-- the n payload bytes that stand in a buffer at 6
length-payload : (n : ℕ) (buf : List ℕ) → n + 8 ≤ length buf → length (take n (drop 6 buf)) ≡ n
length-payload n buf room = length-take-le n (drop 6 buf) (rw length-drop (omega arith))

payload_split : (n : ℕ) (buf : List ℕ) → drop 6 buf ≡ take n (drop 6 buf) ++ drop (n + 6) buf
payload_split n buf = sym (take-append-drop n (drop 6 buf)) ∙ ap (λ (t : List ℕ). take n (drop 6 buf) ++ t) (drop-on n 6 (n + 6) buf (omega arith))

module _ (kind sender n : ℕ) (buf : List ℕ) (room : n + 8 ≤ length buf) where
  -- the head goes before the payload
  front : headed kind sender n buf ≡ 0x55 ∷ covered kind sender (take n (drop 6 buf)) ++ drop (n + 6) buf
  unfolding bytes_of covered
  front =
      row_sets head (head_row kind sender n) buf 0 (omega arith)
      ∙ sets-seam [] buf (encode head (head_row kind sender n)) 0 refl (omega arith)
      ∙ ap₂ (λ (m : ℕ) (t : List ℕ). encode head (head_row kind sender m) ++ t) (sym (length-payload n buf room)) (payload_split n buf)

  -- the CRC is taken of all between the preamble and the payload's end
  sum_of_covered : take (n + 6 - 1) (drop 1 (headed kind sender n buf)) ≡ covered kind sender (take n (drop 6 buf))
  sum_of_covered =
      ap (λ (t : List ℕ). take (n + 6 - 1) (drop 1 t)) front
      ∙ take_at (covered kind sender (take n (drop 6 buf))) (drop (n + 6) buf) (n + 6 - 1)
      (length-covered kind sender (take n (drop 6 buf)) ∙ omega (arith, length-payload n buf room))

  -- and goes after the payload
  sealing : stored_at 2 (crc_from 0 (take (n + 6 - 1) (drop 1 (headed kind sender n buf)))) (headed kind sender n buf) (n + 6)
      ≡ frame_bytes kind sender (take n (drop 6 buf)) ++ drop (n + 8) buf
  unfolding frame_bytes
  sealing =
      let p = take n (drop 6 buf) in
      let sum = crc_from 0 (covered kind sender p) in
      let before : length (0x55 ∷ covered kind sender p) ≡ n + 6 = omega (arith, length-covered kind sender p, length-payload n buf room) in
      let after : length (drop (n + 6) buf) ≡ length buf - (n + 6) = length-drop (n + 6) buf in
      ap₂ (λ (c : ℕ) (t : List ℕ). stored_at 2 c t (n + 6)) (ap (crc_from 0) sum_of_covered) front
      ∙ stored_sets 2 sum (0x55 ∷ covered kind sender p ++ drop (n + 6) buf) (n + 6) (rw length-append (omega arith))
      ∙ sets-seam (0x55 ∷ covered kind sender p) (drop (n + 6) buf) (bytes_of 2 sum) (n + 6) before (rw length-bytes_of (omega arith))
      ∙ ap (λ (t : List ℕ). 0x55 ∷ covered kind sender p ++ bytes_of 2 sum ++ t)
      (drop-on (length (bytes_of 2 sum)) (n + 6) (n + 8) buf (rw length-bytes_of (omega arith)))

module _ (kind : ℕ) (w : Writer) (n : ℕ) (buf : List ℕ) where
  -- what the writer leaves, where the frame fits and where not
  sealed_fits : n ≤ 255 → n + 8 ≤ length buf → sealed kind w n buf ≡ framed_by kind w (take n (drop 6 buf)) ++ drop (n + 8) buf
  unfolding sealed
  sealed_fits h room = rw (planned_given n (length buf) h room)

  pub sealed_unfit : {k : ℕ} → planned n (length buf) ≡ refused k → sealed kind w n buf ≡ buf
  unfolding sealed
  sealed_unfit r = rw r

  -- the stores of `seal`, one after the other
  pub seals : {m from sum : ℕ} {first last : List ℕ} → planned n (length buf) ≡ given m → from ≡ carried kind w → first ≡ headed kind from n buf
      → sum ≡ crc_from 0 (take (n + 6 - 1) (drop 1 first)) → last ≡ stored_at 2 sum first (n + 6) → last ≡ sealed kind w n buf
  seals {first} g e p q r =
      let room = fits n (length buf) g in
      let front : first ≡ headed kind (carried kind w) n buf = p ∙ ap (λ (s : ℕ). headed kind s n buf) e in
      r ∙ ap₂ (λ (c : ℕ) (t : List ℕ). stored_at 2 c t (n + 6)) (q ∙ ap (λ (t : List ℕ). crc_from 0 (take (n + 6 - 1) (drop 1 t))) front) front
      ∙ sealing kind (carried kind w) n buf room.1
      ∙ sym (sealed_fits room.0 room.1)

-- ---- the payload, then the seal

module _ (kind : ℕ) (w : Writer) (payload buf : List ℕ) where
  pub framed_fits : length payload ≤ 255 → length payload + 8 ≤ length buf → with_frame kind w payload buf ≡ framed_by kind w payload ++ drop (length payload + 8) buf
  unfolding with_frame
  framed_fits h room = rw (planned_given (length payload) (length buf) h room)

  pub framed_unfit : {k : ℕ} → planned (length payload) (length buf) ≡ refused k → with_frame kind w payload buf ≡ buf
  unfolding with_frame
  framed_unfit r = rw r

  -- a payload stored at 6 and sealed is the frame
  sealed_framed : length payload ≤ 255 → length payload + 8 ≤ length buf → sealed kind w (length payload) (sets buf 6 payload) ≡ with_frame kind w payload buf
  sealed_framed h room =
      let n = length payload in
      let six : length (take 6 buf) ≡ 6 = length-take-le 6 buf (omega arith) in
      let stored : drop 6 (sets buf 6 payload) ≡ payload ++ drop (6 + n) buf
      = ap (drop 6) (sets-eq payload buf 6 (omega arith) ∙ append_assoc (take 6 buf) payload (drop (6 + n) buf))
      ∙ drop_at (take 6 buf) (payload ++ drop (6 + n) buf) 6 six in
      let after : drop (n + 8) (sets buf 6 payload) ≡ drop (n + 8) buf
      = sym (drop-on (n + 2) 6 (n + 8) (sets buf 6 payload) (omega arith))
      ∙ ap (drop (n + 2)) stored
      ∙ drop-append-add payload (drop (6 + n) buf) 2
      ∙ drop-on 2 (6 + n) (n + 8) buf (omega arith) in
      sealed_fits kind w n (sets buf 6 payload) h (rw length-sets room)
      ∙ ap₂ (λ (p t : List ℕ). framed_by kind w p ++ t) (ap (take n) stored ∙ take-append_seam payload (drop (6 + n) buf)) after
      ∙ sym (framed_fits h room)

  -- what a writer does where its plan says that the frame fits
  pub writes : {m : ℕ} {first last : List ℕ} → planned (length payload) (length buf) ≡ given m → first ≡ sets buf 6 payload
      → last ≡ sealed kind w (length payload) first → last ≡ with_frame kind w payload buf
  writes g p q =
      let room = fits (length payload) (length buf) g in
      q ∙ ap (sealed kind w (length payload)) p ∙ sealed_framed room.0 room.1

-- the same of a body that is stored part after part, as writers do
pub writes_body : (kind : ℕ) (w : Writer) (l : Layout) (v : Body l) (buf : List ℕ) {m : ℕ} {first last : List ℕ} → planned (body_size l v) (length buf) ≡ given m
    → first ≡ body_stored l v buf 6 → last ≡ sealed kind w (body_size l v) first → last ≡ with_frame kind w (encode_body l v) buf
writes_body kind w l v buf {first = first} g p q =
    let room = fits (body_size l v) (length buf) g in
    let long = length-encode_body l v in
    writes kind w (encode_body l v) buf (ap (λ (n : ℕ). planned n (length buf)) long ∙ g) (p ∙ body_sets l v buf 6 (omega arith)) (q ∙ ap (λ (n : ℕ). sealed kind w n first) (sym long))
