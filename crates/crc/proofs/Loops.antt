-- What the loops over words keep: what they have, with what is left behind it, leaves what the whole does.
use mathlib.Core.Path.{◌≡◌, refl, sym, ap, ◌∙◌}
use mathlib.Core.List.{List, ◌++◌}
use Prim.Native.Nat.{ℕ, ◌+◌, ◌-◌, ◌*◌, ◌%◌, ◌^◌, ◌≤◌, ◌<◌}
use native.Mathlib.Omega.{arith}
use lib.Bits.{bit_xor}
use lib.ListN.{length, take, drop, take-append-drop, length-take, length-drop, drop_of_length-le}
use lib.Seq.{drop-drop}
use Rattle.crc.specs.Inner.{behind, number_of, rest, then}
use Rattle.crc.proofs.Numbers.{behind_append, behind_apart, behind_same}

-- n is what the loop has before byte i, whole words being left
pub record Going (start : ℕ) (s : List ℕ) (from n i : ℕ) : Type 0 where
  pub inside : i ≤ length s
  pub words : (length s - i) % 8 ≡ 0
  pub same : rest (behind n (drop i s)) ≡ rest (behind start (drop from s))

module _ (start : ℕ) (s : List ℕ) (from : ℕ) where
  pub going_none : from ≤ length s → (length s - from) % 8 ≡ 0 → Going start s from start from
  going_none inside words = record { inside = inside; words = words; same = refl }

  -- one is left, so eight are
  pub room : {n i : ℕ} → Going start s from n i → i < length s → i + 8 ≤ length s
  room h more = omega (arith, h.words)

  pub going_more : {n i m : ℕ} → Going start s from n i → i < length s → rest m ≡ rest (then n (number_of (take 8 (drop i s)))) → Going start s from m (i + 8)
  going_more {n} {i} {m} h more e =
      let w = take 8 (drop i s) in
      let t = drop (i + 8) s in
      let eight : length w ≡ 8 = simp (length-take, length-drop) (omega (arith, room h more)) in
      let cut : drop i s ≡ w ++ t = sym (take-append-drop 8 (drop i s)) ∙ ap (λ (l : List ℕ). w ++ l) (drop-drop 8 i s) in
      let word : behind n w ≡ then n (number_of w) = behind_apart n w ∙ ap (λ (x : ℕ). bit_xor (n * 2 ^ (8 * x)) (number_of w)) eight in
      record {
        inside = room h more;
        words = omega (arith, h.words, room h more);
        same =
            behind_same t m (behind n w) (e ∙ ap rest (sym word))
            ∙ ap rest (sym (behind_append n w t))
            ∙ ap (λ (l : List ℕ). rest (behind n l)) (sym cut)
            ∙ h.same;
      }

  pub going_all : {n i : ℕ} → Going start s from n i → length s ≤ i → rest n ≡ rest (behind start (drop from s))
  unfolding behind
  going_all {n} {i} h all = sym (ap (λ (l : List ℕ). rest (behind n l)) (drop_of_length-le s all)) ∙ h.same

-- no word is left, or one is
module _ (n : ℕ) (s : List ℕ) (from : ℕ) where
  pub none_more : from ≤ length s → (length s - from) % 8 ≡ 0 → length s ≤ from → rest n ≡ rest (behind n (drop from s))
  none_more inside words all = going_all n s from (going_none n s from inside words) all

  pub one_more : {v : ℕ} → (length s - from) % 8 ≡ 0 → from < length s → length s ≤ from + 8 → v ≡ number_of (take 8 (drop from s))
      → rest (then n v) ≡ rest (behind n (drop from s))
  one_more {v} words more all hv =
      going_all n s from (going_more n s from (going_none n s from (omega arith) words) more (ap (λ (x : ℕ). rest (then n x)) hv)) all

-- two words taken at once
pub two_more : (n : ℕ) (s : List ℕ) (from : ℕ) {v w : ℕ} → (length s - from) % 8 ≡ 0 → from + 16 ≤ length s
    → v ≡ number_of (take 8 (drop from s))
    → w ≡ number_of (take 8 (drop (from + 8) s))
    → rest (behind (then (then n v) w) (drop (from + 16) s)) ≡ rest (behind n (drop from s))
two_more n s from {v} {w} words inside hv hw =
    let begun = going_none n s from (omega arith) words in
    let one = going_more n s from begun (omega arith) (ap (λ (x : ℕ). rest (then n x)) hv) in
    let two = going_more n s from one (omega arith) (ap (λ (x : ℕ). rest (then (then n v) x)) hw) in
    let on : from + 16 ≡ from + 8 + 8 = omega arith in
    ap (λ (i : ℕ). rest (behind (then (then n v) w) (drop i s))) on ∙ two.same
