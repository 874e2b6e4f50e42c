-- A frame that was found: it lies within the capture, its numbers are those that bytes can hold, its payload is that part of the capture,
-- and its bytes are a frame's. And the payload of any frame value: what is there of it.
use Rattle.std.proofs.Common.{◌≡◌, ℕ, zero, suc, ◌+◌, ◌-◌, ◌<◌, ◌≤◌, min, Bool, true, false, leb, List, [], ◌∷◌, ◌++◌, length, get_or, take, drop, sym, refl, ap, ◌∙◌, subst, ap₂, arith, length-drop, drop_of_length-le, length-take-le, drop-cons, drop-drop, take-add, leb-false, leb-true}
use mathlib.Core.Path.{subst⁻¹}
use native.Mathlib.Nat.{zero-min, min-zero, suc-min-suc}
use lib.Seq.{take-nil}
use Rattle.wire.specs.Number.{Bytes, little, bytes_of, number_at}
use Rattle.wire.proofs.Numbers.{bytes_take, bytes_drop, number_byte, number_lt, bytes_of_little}
use Rattle.crc.specs.Crc.{crc_from}
use Rattle.frames.specs.Frame.{covered, frame_bytes}
use Rattle.frames.specs.Step.{step_at, payload_in}
use Rattle.frames.specs.declared.step.Frame.{Frame}
use Rattle.frames.specs.declared.step.Step.TheVariants.{Found}
use Rattle.frames.specs.Decides.{found, frame, sent, sum, size, left, Decides}
use Rattle.frames.proofs.Steps.{decided}

take-cut : (n : ℕ) (t : List ℕ) → take (min n (length t)) t ≡ take n t
take-cut zero t = rw zero-min
take-cut (suc n) [] = rw min-zero
take-cut (suc n) (x ∷ t) = rw suc-min-suc (ap (λ (r : List ℕ). x ∷ r) (take-cut n t))

take_past : (n : ℕ) (s : List ℕ) (k : ℕ) → length s ≤ k → take n (drop k s) ≡ []
take_past n s k h = ap (take n) (drop_of_length-le s h) ∙ take-nil n

-- ---- the payload of any frame value

-- n bytes from k on, both ends brought inside
pub part : (s : List ℕ) (k n : ℕ) {a e : ℕ} → a ≡ min k (length s) → e ≡ min (a + n) (length s) → take (e - a) (drop a s) ≡ take n (drop k s)
part s k n {a} {e} p q = go (leb k (length s)) refl
  where
    go : (t : Bool) → leb k (length s) ≡ t → take (e - a) (drop a s) ≡ take n (drop k s)
    go true h =
        let inside = leb-true k (length s) h in
        let there : a ≡ k = omega arith in
        let cut : e - a ≡ min n (length (drop k s)) = rw length-drop (omega arith) in
        ap₂ (λ (m i : ℕ). take m (drop i s)) cut there ∙ take-cut n (drop k s)
    go false h =
        let outside = leb-false k (length s) h in
        take_past (e - a) s a (omega arith) ∙ sym (take_past n s k (omega arith))

-- ---- numbers and the bytes that they came from

-- two parts of s that follow one another
pub join : (a b : ℕ) (s : List ℕ) (k m : ℕ) {x y : List ℕ} → m ≡ k + a → x ≡ take a (drop k s) → y ≡ take b (drop m s) → x ++ y ≡ take (a + b) (drop k s)
join a b s k m n p q =
    ap₂ (λ (x y : List ℕ). x ++ y) p (q ∙ ap (λ (i : ℕ). take b (drop i s)) n) ∙ rw (← drop-drop) (sym (take-add a b (drop k s)))

number_bytes : (w : ℕ) (s : List ℕ) (k : ℕ) → Bytes s → k + w ≤ length s → bytes_of w (number_at w s k) ≡ take w (drop k s)
unfolding number_at
number_bytes w s k h l =
    let long : length (take w (drop k s)) ≡ w = length-take-le w (drop k s) (rw length-drop (omega arith)) in
    ap (λ (n : ℕ). bytes_of n (little (take w (drop k s)))) (sym long) ∙ bytes_of_little (take w (drop k s)) (bytes_take w (drop k s) (bytes_drop k s h))

-- ---- a frame's bytes, where it fits and its CRC agrees

module _ (s : List ℕ) (p : ℕ) (h : Bytes s) (l : size s p + 8 ≤ left s p) where
  abbrev payload : List ℕ
  payload = take (size s p) (drop (p + 6) s)

  length-byte : bytes_of 1 (length payload) ≡ take 1 (drop (p + 5) s)
  length-byte =
      let long : length payload ≡ size s p = length-take-le (size s p) (drop (p + 6) s) (rw length-drop (omega arith)) in
      ap (bytes_of 1) (long ∙ number_byte s (p + 5) (omega arith)) ∙ number_bytes 1 s (p + 5) h (omega arith)

  covers : covered (frame s p).kind (frame s p).sender payload ≡ take (size s p + 5) (drop (p + 1) s)
  unfolding covered
  covers =
      let head = join 2 2 s (p + 1) (p + 3) (omega arith) (number_bytes 2 s (p + 1) h (omega arith)) (number_bytes 2 s (p + 3) h (omega arith)) in
      let all : 5 + size s p ≡ size s p + 5 = omega arith in
      join 5 (size s p) s (p + 1) (p + 6) (omega arith) (join 4 1 s (p + 1) (p + 5) (omega arith) head length-byte) refl ∙ ap (λ (m : ℕ). take m (drop (p + 1) s)) all

  framed : get_or s p 0 ≡ 0x55 → sum s p ≡ sent s p → frame_bytes (frame s p).kind (frame s p).sender payload ≡ take (size s p + 8) (drop p s)
  unfolding frame_bytes
  framed b q =
      let preamble : 0x55 ∷ [] ≡ take 1 (drop p s) = rw (drop-cons s p 0 (omega arith), b) in
      let front = join 1 (size s p + 5) s p (p + 1) (omega arith) preamble covers in
      let back = ap (λ (t : List ℕ). bytes_of 2 (crc_from 0 t)) covers ∙ ap (bytes_of 2) q ∙ number_bytes 2 s (p + size s p + 6) h (omega arith) in
      let all : 1 + (size s p + 5) + 2 ≡ size s p + 8 = omega arith in
      join (1 + (size s p + 5)) 2 s p (p + size s p + 6) (omega arith) front back ∙ ap (λ (m : ℕ). take m (drop p s)) all

-- ---- a frame that was found

module _ (s : List ℕ) (p : ℕ) {f : Frame} (e : step_at s p ≡ Found f) where
  as_found : (f ≡ frame s p) × (get_or s p 0 ≡ 0x55) × (size s p + 8 ≤ left s p) × (sum s p ≡ sent s p)
  as_found = by (subst (Decides s p) e (decided s p))
    where
      by : {g : Frame} → Decides s p (Found g) → (g ≡ frame s p) × (get_or s p 0 ≡ 0x55) × (size s p + 8 ≤ left s p) × (sum s p ≡ sent s p)
      by (found b l q) = (refl, b, l, q)

  pub found_at : f.at ≡ p
  found_at = ap (λ (g : Frame). g.at) as_found.0

  pub found_fits : p + f.length + 8 ≤ length s
  found_fits = let n : f.length ≡ size s p = ap (λ (g : Frame). g.length) as_found.0 in omega (arith, as_found.2)

  module _ (h : Bytes s) where
    pub found_numbers : (f.kind < 65536) × (f.sender < 65536) × (f.length < 256)
    found_numbers =
        subst⁻¹ (λ (g : Frame). (g.kind < 65536) × (g.sender < 65536) × (g.length < 256)) as_found.0
        (number_lt 2 s (p + 1) h, number_lt 2 s (p + 3) h, h (p + 5))

    pub payload_bytes : Bytes (payload_in s f)
    unfolding payload_in
    payload_bytes = bytes_take f.length (drop (f.at + 6) s) (bytes_drop (f.at + 6) s h)

    -- its bytes are those of a frame with its type, sender and payload: written again, it is the same bytes
    pub found_bytes : take (f.length + 8) (drop p s) ≡ frame_bytes f.kind f.sender (payload_in s f)
    unfolding payload_in
    found_bytes =
        subst⁻¹ (λ (g : Frame). take (g.length + 8) (drop p s) ≡ frame_bytes g.kind g.sender (payload_in s g)) as_found.0
        (sym (framed s p h as_found.2 as_found.1 as_found.3))
