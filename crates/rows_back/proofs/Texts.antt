-- Texts without a zero, byte by byte; and what stands after a LOG's level, in two parts.
use mathlib.Core.Path.{◌≡◌, refl, sym, ap, ◌∙◌}
use mathlib.Core.Bool.{true, not, and-eq-true_iff}
use mathlib.Core.List.{List, [], ◌∷◌, ◌++◌}
use Prim.Native.Nat.{ℕ, zero, suc}
use native.Mathlib.Nat.{not-suc-le-zero, le_of_suc-le-suc}
use native.Mathlib.Omega.{arith}
use lib.Dec.{eqb}
use lib.ListN.{length, drop, length-replicate}
use borrow.Author.Tests.{ne_eqb, eqb-false, not-true}
use Rattle.padded.specs.Padded.{before_zero, from_zero, no_zero, all_zero, zeros}
use Rattle.padded.proofs.Texts.{before_from, no_zero_before, split_joined, all_zeros, only_zeros}
use Rattle.logs.specs.Log.{log_padded}
use Rattle.rows_back.specs.LogRows.{NoZero, Parts}

-- ---- byte by byte

pub no_zero_lem : (t : List ℕ) → NoZero t → no_zero t ≡ true
unfolding no_zero
no_zero_lem [] h = refl
no_zero_lem (b ∷ t) h = rw (ne_eqb b 0 (h 0 (omega arith))) (no_zero_lem t (λ i l. h (suc i) (omega arith)))

pub each_nonzero : (t : List ℕ) → no_zero t ≡ true → NoZero t
unfolding no_zero
each_nonzero [] h i l = absurd (not-suc-le-zero l)
each_nonzero (b ∷ t) h zero l = eqb-false b 0 (not-true (eqb b 0) ((and-eq-true_iff (not (eqb b 0)) (no_zero t)).0 h).0)
each_nonzero (b ∷ t) h (suc i) l = each_nonzero t ((and-eq-true_iff (not (eqb b 0)) (no_zero t)).0 h).1 i (le_of_suc-le-suc l)

-- ---- the parts

module _ (s : List ℕ) where
  module _ (text : List ℕ) (n : ℕ) (parts : Parts s text n) where
    split : (before_zero (drop 1 s) ≡ text) × (from_zero (drop 1 s) ≡ zeros n)
    split =
        let only = split_joined text (zeros n) (no_zero_lem text parts.1) (all_zeros n) in
        (ap before_zero parts.0 ∙ only.0, ap from_zero parts.0 ∙ only.1)

    pub padded : log_padded s ≡ true
    padded = ap all_zero split.1 ∙ all_zeros n

    pub text_long : length (before_zero (drop 1 s)) ≡ length text
    text_long = ap length split.0

    pub zeros_long : length (from_zero (drop 1 s)) ≡ n
    zeros_long = ap length split.1 ∙ length-replicate n 0

  pub parts_of : log_padded s ≡ true → Parts s (before_zero (drop 1 s)) (length (from_zero (drop 1 s)))
  parts_of e = (
    sym (before_from (drop 1 s)) ∙ ap (λ (p : List ℕ). before_zero (drop 1 s) ++ p) (only_zeros (from_zero (drop 1 s)) e),
    each_nonzero (before_zero (drop 1 s)) (no_zero_before (drop 1 s)),
  )
