-- A row stored at an offset: it decodes there as itself, and what stands before or after it decodes as it did.
use mathlib.Core.Path.{◌≡◌, refl, sym, ap, ◌∙◌}
use mathlib.Core.List.{List, [], ◌∷◌, ◌++◌, append_assoc}
use Prim.Native.Nat.{ℕ, zero, suc, ◌+◌, ◌≤◌}
use native.Mathlib.Nat.{zero-add}
use native.Mathlib.Omega.{arith}
use lib.ListN.{length, take, drop, set}
use lib.Seq.{sets, sets-eq, take_at, drop_at, length-take-le, take-set-le, drop-set-lt}
use Rattle.layouts.specs.Field.{Field, Row, HeldRow, SettledRow, size, encode, decode, row_stored}
use Rattle.layouts.proofs.Fields.{again_settled, length-encode, decode_encode, decode_drop, decode_take, row_sets}
use Rattle.lent_rows.specs.Lent.{at_front}

-- the n elements from an offset on
abbrev part : ℕ → ℕ → List ℕ → List ℕ
part at n s = take n (drop at s)

-- ---- what is decoded is decided by its part

decode_own : (fs : List Field) (s : List ℕ) (at : ℕ) → decode fs (part at (size fs) s) 0 ≡ decode fs s at
decode_own fs s at = decode_take fs (drop at s) ∙ sym (decode_drop fs s at)

decode_same : (fs : List Field) (s t : List ℕ) (at : ℕ) → part at (size fs) s ≡ part at (size fs) t → decode fs s at ≡ decode fs t at
decode_same fs s t at e = sym (decode_own fs s at) ∙ ap (λ (u : List ℕ). decode fs u 0) e ∙ decode_own fs t at

-- ---- the parts of a list with a run of stores in it

set_before : (b m i v : ℕ) (s : List ℕ) → b + m ≤ i → part b m (set s i v) ≡ part b m s
set_before zero m i v s h = take-set-le m s i v (omega arith)
set_before (suc b) m i v [] h = refl
set_before (suc b) m zero v (x ∷ s) h = absurd (omega arith)
set_before (suc b) m (suc i) v (x ∷ s) h = set_before b m i v s (omega arith)

sets-before : (b m at : ℕ) (s vs : List ℕ) → b + m ≤ at → part b m (sets s at vs) ≡ part b m s
sets-before b m at s [] h = refl
sets-before b m at s (v ∷ vs) h = sets-before b m (suc at) (set s at v) vs (omega arith) ∙ set_before b m at v s h

sets-after : (b at : ℕ) (s vs : List ℕ) → at + length vs ≤ b → drop b (sets s at vs) ≡ drop b s
sets-after b at s [] h = refl
sets-after b at s (v ∷ vs) h = sets-after b (suc at) (set s at v) vs (omega arith) ∙ drop-set-lt b s at v (omega arith)

sets-own : (at : ℕ) (s vs : List ℕ) → at + length vs ≤ length s → part at (length vs) (sets s at vs) ≡ vs
sets-own at s vs h =
    ap (part at (length vs)) (sets-eq vs s at h ∙ append_assoc (take at s) vs (drop (at + length vs) s))
    ∙ ap (take (length vs)) (drop_at (take at s) (vs ++ drop (at + length vs) s) at (length-take-le at s (omega arith)))
    ∙ take_at vs (drop (at + length vs) s) (length vs) refl

-- ---- a row stored

module _ (fs : List Field) (v : Row fs) (s : List ℕ) (at : ℕ) (room : at + size fs ≤ length s) where
  long : length (encode fs v) ≡ size fs
  long = length-encode fs v

  pub decode_stored : HeldRow fs v → SettledRow fs v → decode fs (row_stored fs v s at) at ≡ v
  decode_stored held settled =
      let fits : at + length (encode fs v) ≤ length s = omega (arith, long) in
      sym (decode_own fs (row_stored fs v s at) at)
      ∙ ap (λ (t : List ℕ). decode fs (part at (size fs) t) 0) (row_sets fs v s at room)
      ∙ ap (λ (n : ℕ). decode fs (part at n (sets s at (encode fs v))) 0) (sym long)
      ∙ ap (λ (t : List ℕ). decode fs t 0) (sets-own at s (encode fs v) fits)
      ∙ decode_encode fs v held
      ∙ again_settled fs v settled

  module _ (gs : List Field) (b : ℕ) where
    pub decode_before : b + size gs ≤ at → decode gs (row_stored fs v s at) b ≡ decode gs s b
    decode_before h =
        decode_same gs (row_stored fs v s at) s b
        (ap (part b (size gs)) (row_sets fs v s at room) ∙ sets-before b (size gs) at s (encode fs v) h)

    pub decode_after : at + size fs ≤ b → decode gs (row_stored fs v s at) b ≡ decode gs s b
    decode_after h =
        decode_same gs (row_stored fs v s at) s b
        (ap (part b (size gs)) (row_sets fs v s at room) ∙ ap (take (size gs)) (sets-after b at s (encode fs v) (omega (arith, long))))

-- at the start of a buffer
pub stored_front : (fs : List Field) (v : Row fs) (buf : List ℕ) → size fs ≤ length buf → row_stored fs v buf 0 ≡ at_front fs v buf
stored_front fs v buf h =
    let long : length (encode fs v) ≡ size fs = length-encode fs v in
    row_sets fs v buf 0 (omega arith)
    ∙ sets-eq (encode fs v) buf 0 (omega arith)
    ∙ ap (λ (n : ℕ). encode fs v ++ drop n buf) (zero-add (length (encode fs v)) ∙ long)
