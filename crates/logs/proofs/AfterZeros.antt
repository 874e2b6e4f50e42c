-- Nothing but zeros stands from the first zero on, or a byte that is not zero stands after one that is.
use mathlib.Core.Path.{◌≡◌, refl}
use mathlib.Core.Bool.{Bool, true, false, ◌&&◌, cond, true≢false}
use mathlib.Core.List.{List, [], ◌∷◌}
use Prim.Native.Nat.{ℕ, zero, suc, ◌<◌}
use native.Mathlib.Omega.{arith}
use lib.Dec.{eqb}
use lib.ListN.{get_or}
use borrow.Author.Tests.{eq-eqb, ne_eqb, eqb-true, eqb-false}
use Rattle.padded.specs.Padded.{from_zero, all_zero}

-- some byte is not zero
some_left : (s : List ℕ) → all_zero s ≡ false → (j : ℕ) × (get_or s j 0 ≡ 0 → ⊥)
unfolding all_zero
some_left [] h = absurd (true≢false h)
some_left (b ∷ s) h = by (eqb b 0) refl h (some_left s)
  where
    by : (z : Bool) → eqb b 0 ≡ z → (z && all_zero s) ≡ false → (all_zero s ≡ false → (j : ℕ) × (get_or s j 0 ≡ 0 → ⊥)) → (j : ℕ) × (get_or (b ∷ s) j 0 ≡ 0 → ⊥)
    by true e h rest = let r = rest h in (suc r.0, r.1)
    by false e h rest = (0, eqb-false b 0 e)

not_all : (s : List ℕ) (j : ℕ) → (get_or s j 0 ≡ 0 → ⊥) → all_zero s ≡ false
unfolding all_zero
not_all [] j h = absurd (h refl)
not_all (b ∷ s) zero h = rw (ne_eqb b 0 h)
not_all (b ∷ s) (suc j) h = by (eqb b 0) (not_all s j h)
  where
    by : (z : Bool) → all_zero s ≡ false → (z && all_zero s) ≡ false
    by true rest = rest
    by false rest = refl

-- it stands after a zero
pub after_zero : (s : List ℕ) → all_zero (from_zero s) ≡ false → (i : ℕ) × (j : ℕ) × (i < j) × (get_or s i 0 ≡ 0) × (get_or s j 0 ≡ 0 → ⊥)
unfolding from_zero all_zero
after_zero [] h = absurd (true≢false h)
after_zero (b ∷ s) h = by (eqb b 0) refl h (after_zero s)
  where
    by : (z : Bool) → eqb b 0 ≡ z → all_zero (cond z (b ∷ s) (from_zero s)) ≡ false
        → (all_zero (from_zero s) ≡ false → (i : ℕ) × (j : ℕ) × (i < j) × (get_or s i 0 ≡ 0) × (get_or s j 0 ≡ 0 → ⊥))
        → (i : ℕ) × (j : ℕ) × (i < j) × (get_or (b ∷ s) i 0 ≡ 0) × (get_or (b ∷ s) j 0 ≡ 0 → ⊥)
    by true e h rest = let left = some_left s (rw e at h) in (0, suc left.0, omega arith, eqb-true b 0 e, left.1)
    by false e h rest = let r = rest h in (suc r.0, suc r.1, omega (arith, r.2), r.3, r.4)

pub zero_before : (s : List ℕ) (i j : ℕ) → i < j → get_or s i 0 ≡ 0 → (get_or s j 0 ≡ 0 → ⊥) → all_zero (from_zero s) ≡ false
unfolding from_zero
zero_before [] i j h z n = absurd (n refl)
zero_before (b ∷ s) zero j h z n = rw (eq-eqb b 0 z) (not_all (b ∷ s) j n)
zero_before (b ∷ s) (suc i) zero h z n = absurd (omega arith)
zero_before (b ∷ s) (suc i) (suc j) h z n = by (eqb b 0) (zero_before s i j (omega arith) z n)
  where
    by : (t : Bool) → all_zero (from_zero s) ≡ false → all_zero (cond t (b ∷ s) (from_zero s)) ≡ false
    by true rest = not_all (b ∷ s) (suc j) n
    by false rest = rest
