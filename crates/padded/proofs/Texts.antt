-- A text and the zeros after it: bytes split at the first zero, joined again, are the same, and no other split has a text without a zero and
-- zeros alone after it.
use mathlib.Core.Path.{◌≡◌, refl, sym, ap, ap₂, ◌∙◌}
use mathlib.Core.Bool.{Bool, true, false, ◌&&◌, not, cond, false≢true, and-eq-true_iff, and-true}
use mathlib.Core.List.{List, [], ◌∷◌, ◌++◌, append-nil}
use Prim.Native.Nat.{ℕ, zero, suc, ◌+◌, ◌≤◌, ◌-◌, ◌<◌}
use native.Mathlib.Nat.{le_refl}
use native.Mathlib.Numerals.{add-one}
use native.Mathlib.Omega.{arith}
use lib.Dec.{eqb, lit<}
use lib.ListN.{length, get_or, take, drop, length-append, take-append-drop, drop_of_length-le}
use lib.Seq.{length-take-le, drop-length, take_at, drop_at, drop-cons}
use borrow.Author.Tests.{eq-eqb, ne_eqb, eqb-true}
use Rattle.std.specs.List.{list_all}
use Rattle.wire.specs.Number.{Bytes}
use Rattle.padded.specs.Padded.{before_zero, from_zero, no_zero, all_zero, zeros}

-- ---- split, and joined again

pub before_from : (s : List ℕ) → before_zero s ++ from_zero s ≡ s
unfolding before_zero from_zero
before_from [] = refl
before_from (b ∷ s) = by (eqb b 0) (before_from s)
  where
    by : (z : Bool) → before_zero s ++ from_zero s ≡ s → cond z [] (b ∷ before_zero s) ++ cond z (b ∷ s) (from_zero s) ≡ b ∷ s
    by true rest = refl
    by false rest = ap (λ (t : List ℕ). b ∷ t) rest

pub length-split : (s : List ℕ) → length (before_zero s) + length (from_zero s) ≡ length s
length-split s = sym (length-append (before_zero s) (from_zero s)) ∙ ap length (before_from s)

pub no_longer : (s : List ℕ) {n : ℕ} → n ≡ length (before_zero s) → n ≤ length s
no_longer s e = omega (arith, length-split s)

-- as parts of the bytes
pub before_take : (s : List ℕ) → take (length (before_zero s)) s ≡ before_zero s
before_take s = ap (take (length (before_zero s))) (sym (before_from s)) ∙ take_at (before_zero s) (from_zero s) (length (before_zero s)) refl

pub from_drop : (s : List ℕ) → drop (length (before_zero s)) s ≡ from_zero s
from_drop s = ap (drop (length (before_zero s))) (sym (before_from s)) ∙ drop_at (before_zero s) (from_zero s) (length (before_zero s)) refl

-- what stands before the first zero has none
pub no_zero_before : (s : List ℕ) → no_zero (before_zero s) ≡ true
unfolding before_zero no_zero
no_zero_before [] = refl
no_zero_before (b ∷ s) = by (eqb b 0) refl (no_zero_before s)
  where
    by : (z : Bool) → eqb b 0 ≡ z → no_zero (before_zero s) ≡ true → no_zero (cond z [] (b ∷ before_zero s)) ≡ true
    by true e rest = refl
    by false e rest = rw e rest

-- ---- joined, and split again

module _ (p : List ℕ) where
  -- a text without a zero stands before the first zero of what follows it
  before_joined : (t : List ℕ) → no_zero t ≡ true → before_zero (t ++ p) ≡ t ++ before_zero p
  unfolding before_zero no_zero
  before_joined [] h = refl
  before_joined (b ∷ t) h = by (eqb b 0) h (before_joined t)
    where
      by : (z : Bool) → (not z && no_zero t) ≡ true → (no_zero t ≡ true → before_zero (t ++ p) ≡ t ++ before_zero p) → cond z [] (b ∷ before_zero (t ++ p)) ≡ b ∷ (t ++ before_zero p)
      by true h rest = absurd (false≢true h)
      by false h rest = ap (λ (u : List ℕ). b ∷ u) (rest h)

  from_joined : (t : List ℕ) → no_zero t ≡ true → from_zero (t ++ p) ≡ from_zero p
  unfolding from_zero no_zero
  from_joined [] h = refl
  from_joined (b ∷ t) h = by (eqb b 0) h (from_joined t)
    where
      by : (z : Bool) → (not z && no_zero t) ≡ true → (no_zero t ≡ true → from_zero (t ++ p) ≡ from_zero p) → cond z (b ∷ (t ++ p)) (from_zero (t ++ p)) ≡ from_zero p
      by true h rest = absurd (false≢true h)
      by false h rest = rest h

-- zeros have nothing before their first
before_zeros : (p : List ℕ) → all_zero p ≡ true → before_zero p ≡ []
unfolding before_zero all_zero
before_zeros [] h = refl
before_zeros (b ∷ p) h = by (eqb b 0) h
  where
    by : (z : Bool) → (z && all_zero p) ≡ true → cond z [] (b ∷ before_zero p) ≡ []
    by true h = refl
    by false h = absurd (false≢true h)

-- so there is no other split
pub split_joined : (t p : List ℕ) → no_zero t ≡ true → all_zero p ≡ true → (before_zero (t ++ p) ≡ t) × (from_zero (t ++ p) ≡ p)
split_joined t p none all =
    let nothing = before_zeros p all in (
      before_joined p t none ∙ ap (λ (u : List ℕ). t ++ u) nothing ∙ append-nil t,
      from_joined p t none ∙ sym (ap (λ (u : List ℕ). u ++ from_zero p) nothing) ∙ before_from p,
    )

-- ---- zeros, and texts without one

pub all_zeros : (n : ℕ) → all_zero (zeros n) ≡ true
unfolding all_zero
all_zeros zero = refl
all_zeros (suc n) = all_zeros n

pub only_zeros : (p : List ℕ) → all_zero p ≡ true → p ≡ zeros (length p)
unfolding all_zero
only_zeros [] h = refl
only_zeros (b ∷ p) h = let q = (and-eq-true_iff (eqb b 0) (all_zero p)).0 h in ap₂ ◌∷◌ (eqb-true b 0 q.0) (only_zeros p q.1)

-- a test of each byte
pub each_zero : (s : List ℕ) → list_all (λ b. eqb b 0) s ≡ all_zero s
unfolding all_zero
each_zero [] = refl
each_zero (b ∷ s) = ap (λ (t : Bool). eqb b 0 && t) (each_zero s)

pub bytes_zeros : (n : ℕ) → Bytes (zeros n)
bytes_zeros zero i = lit< tt
bytes_zeros (suc n) zero = lit< tt
bytes_zeros (suc n) (suc i) = bytes_zeros n i

-- where no zero stands up to n and nothing but zeros from there on, n bytes stand before the first
pub whole_text : (s : List ℕ) (n : ℕ) → n ≤ length s → no_zero (take n s) ≡ true → all_zero (drop n s) ≡ true → n ≡ length (before_zero s)
whole_text s n h none all =
    sym (length-take-le n s h)
    ∙ ap length (sym (split_joined (take n s) (drop n s) none all).0 ∙ ap before_zero (take-append-drop n s))

-- ---- byte after byte

module _ (s : List ℕ) where
  -- i bytes were passed, none of them zero
  abbrev pub Passed : ℕ → Type 0
  Passed i = (i ≤ length s) × (i + length (before_zero (drop i s)) ≡ length (before_zero s))

  -- i bytes were looked at; whether none of them is zero
  abbrev pub Clean : Bool → ℕ → Type 0
  Clean clean i = (i ≤ length s) × ((clean && no_zero (drop i s)) ≡ no_zero s)

  -- from n on there are zeros alone
  abbrev pub Trimmed : ℕ → Type 0
  Trimmed n = (n ≤ length s) × (all_zero (drop n s) ≡ true)

  pub none_trimmed : Trimmed (length s)
  unfolding all_zero
  none_trimmed = (le_refl (length s), rw drop-length)

  pub trimmed_more : (n : ℕ) → Trimmed n → 0 < n → get_or s (n - 1) 0 ≡ 0 → Trimmed (n - 1)
  unfolding all_zero
  trimmed_more n p h z =
      let next : suc (n - 1) ≡ n = omega arith in
      let last : drop (n - 1) s ≡ get_or s (n - 1) 0 ∷ drop n s = drop-cons s (n - 1) 0 (omega arith) ∙ ap (λ (k : ℕ). get_or s (n - 1) 0 ∷ drop k s) next in
      (omega arith, rw (last, eq-eqb (get_or s (n - 1) 0) 0 z) p.1)

  module _ (i : ℕ) where
    -- the byte there, and those after it
    ahead : i < length s → drop i s ≡ get_or s i 0 ∷ drop (i + 1) s
    ahead h = rw add-one (drop-cons s i 0 h)

    module _ (clean : Bool) (p : Clean clean i) where
      pub looked_at : i < length s → Clean (clean && not (eqb (get_or s i 0) 0)) (i + 1)
      unfolding no_zero
      looked_at h = (omega arith, by (eqb (get_or s i 0) 0) clean ∙ sym (ap (λ (t : List ℕ). clean && no_zero t) (ahead h)) ∙ p.1)
        where
          by : (z c : Bool) → ((c && not z) && no_zero (drop (i + 1) s)) ≡ (c && (not z && no_zero (drop (i + 1) s)))
          by z true = refl
          by z false = refl

      pub looked_at_all : length s ≤ i → clean ≡ no_zero s
      unfolding no_zero
      looked_at_all h = sym (and-true clean) ∙ ap (λ (t : List ℕ). clean && no_zero t) (sym (drop_of_length-le s h)) ∙ p.1

    module _ (p : Passed i) where
      pub stops_at : i < length s → get_or s i 0 ≡ 0 → i ≡ length (before_zero s)
      unfolding before_zero
      stops_at h z =
          let none : length (before_zero (drop i s)) ≡ 0 = rw (ahead h, eq-eqb (get_or s i 0) 0 z) in
          omega arith

      pub passes : i < length s → (get_or s i 0 ≡ 0 → ⊥) → Passed (i + 1)
      unfolding before_zero
      passes h z =
          let one : length (before_zero (drop i s)) ≡ suc (length (before_zero (drop (i + 1) s))) = rw (ahead h, ne_eqb (get_or s i 0) 0 z) in
          (omega arith, omega arith)

      pub passed_end : length s ≤ i → length s ≡ length (before_zero s)
      unfolding before_zero
      passed_end h =
          let none : length (before_zero (drop i s)) ≡ 0 = rw (drop_of_length-le s h) in
          omega (arith, h)
