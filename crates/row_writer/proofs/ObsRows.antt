-- Rows of numbers one after the other: how many, each of them, and the loop that looks whether all fit.
use mathlib.Core.Path.{◌≡◌, refl, sym, ap, ap₂, ◌∙◌}
use mathlib.Core.Bool.{Bool, true, false, ◌&&◌, and-eq-true_iff}
use mathlib.Core.List.{List, [], ◌∷◌, map}
use Prim.Native.Nat.{ℕ, zero, suc, ◌+◌, ◌-◌, ◌*◌, ◌≤◌, ◌<◌, zero-le}
use native.Mathlib.Nat.{zero-mul, suc-mul, add-zero, not-suc-le-zero, le_of_suc-le-suc}
use native.Mathlib.Omega.{arith}
use lib.ListN.{length, get_or}
use Rattle.wire.specs.Value.{Format}
use Rattle.layouts.specs.Field.{Field, format_of, Row, row_stored}
use Rattle.layouts.specs.Description.{Part, made_of}
use Rattle.formats.specs.Wide.{narrow_row, fits_row, narrow_rows, fits_rows}
use Rattle.formats.specs.Digits.{run_fits, run_stored}
use Rattle.formats.proofs.Narrow.{Words, within_all, fits_row_lem, stored_narrow, fits_drop, stored_drop}
use Rattle.wire.proofs.Lent.{lent_from, lent_all}

pub length-made : {R : Type 0} (p : Part R) (vs : List (Row p.fields)) → length (made_of p vs) ≡ length vs
length-made p [] = refl
length-made p (v ∷ vs) = ap suc (length-made p vs)

pub length-narrow : (fs : List Field) (k : ℕ) (ns : List ℕ) (i : ℕ) → length (narrow_rows fs k ns i) ≡ k
length-narrow fs zero ns i = refl
length-narrow fs (suc k) ns i = ap suc (length-narrow fs k ns (i + length fs))

-- where row i begins
next_row : (w j i : ℕ) → j + w + i * w ≡ j + suc i * w
next_row w j i = omega (arith, suc-mul i w)

first_row : (w j : ℕ) → j ≡ j + 0 * w
first_row w j = sym (ap (λ (n : ℕ). j + n) (zero-mul w) ∙ add-zero j)

-- ---- row i

pub row_made : {R : Type 0} (p : Part R) (ns : List ℕ) (k i j : ℕ) (d : R) → i < k
    → get_or (made_of p (narrow_rows p.fields k ns j)) i d ≡ p.make (narrow_row p.fields ns (j + i * length p.fields))
row_made p ns zero i j d h = absurd (not-suc-le-zero h)
row_made p ns (suc k) zero j d h = ap (λ (n : ℕ). p.make (narrow_row p.fields ns n)) (first_row (length p.fields) j)
row_made p ns (suc k) (suc i) j d h =
    row_made p ns k i (j + length p.fields) d (le_of_suc-le-suc h) ∙ ap (λ (n : ℕ). p.make (narrow_row p.fields ns n)) (next_row (length p.fields) j i)

pub row_fits : (fs : List Field) (ns : List ℕ) (k i j : ℕ) → fits_rows fs k ns j ≡ true → i < k → fits_row fs ns (j + i * length fs) ≡ true
row_fits fs ns zero i j e h = absurd (not-suc-le-zero h)
row_fits fs ns (suc k) zero j e h = ap (fits_row fs ns) (sym (first_row (length fs) j)) ∙ ((and-eq-true_iff (fits_row fs ns j) (fits_rows fs k ns (j + length fs))).0 e).0
row_fits fs ns (suc k) (suc i) j e h =
    ap (fits_row fs ns) (sym (next_row (length fs) j i)) ∙ row_fits fs ns k i (j + length fs) ((and-eq-true_iff (fits_row fs ns j) (fits_rows fs k ns (j + length fs))).0 e).1 (le_of_suc-le-suc h)

-- ---- a row as code lends it, its formats by their digits

module _ (fs : List Field) (ns : List ℕ) (n : ℕ) {ks : List Format} (e : ks ≡ map format_of fs) where
  pub fits_lent : run_fits ks (lent_from n ns) 0 ≡ fits_row fs ns n
  fits_lent =
      ap₂ (λ (ks : List Format) (s : List ℕ). run_fits ks s 0) e (lent_all n ns)
      ∙ fits_drop n ns (map format_of fs) 0
      ∙ ap (run_fits (map format_of fs) ns) (add-zero n)
      ∙ fits_row_lem fs ns n

  pub stored_lent : Words ns → within_all fs ≡ true → fits_row fs ns n ≡ true → (buf : List ℕ)
      → run_stored ks (lent_from n ns) 0 buf 0 ≡ row_stored fs (narrow_row fs ns n) buf 0
  stored_lent words short fits buf =
      ap₂ (λ (ks : List Format) (s : List ℕ). run_stored ks s 0 buf 0) e (lent_all n ns)
      ∙ stored_drop n ns (map format_of fs) 0 buf 0
      ∙ ap (λ (i : ℕ). run_stored (map format_of fs) ns i buf 0) (add-zero n)
      ∙ stored_narrow ns words fs n buf 0 short fits

-- ---- the loop

module _ (fs : List Field) (ns : List ℕ) (k : ℕ) where
  -- i rows fit: whether those left do is whether all do
  abbrev pub Fit : ℕ → Type 0
  Fit i = (i ≤ k) × (fits_rows fs (k - i) ns (i * length fs) ≡ fits_rows fs k ns 0)

  pub fit_none : Fit 0
  fit_none = let all : k - 0 ≡ k = omega arith in (zero-le, ap₂ (λ (n j : ℕ). fits_rows fs n ns j) all (zero-mul (length fs)))

  module _ (i : ℕ) (inv : Fit i) where
    pub fit_all : k ≤ i → true ≡ fits_rows fs k ns 0
    fit_all h = let none : k - i ≡ 0 = omega arith in ap (λ (n : ℕ). fits_rows fs n ns (i * length fs)) (sym none) ∙ inv.1

    fit_next : {t : Bool} → i < k → t ≡ fits_row fs ns (i * length fs) → (t && fits_rows fs (k - (i + 1)) ns ((i + 1) * length fs)) ≡ fits_rows fs k ns 0
    fit_next {t} h e =
        let one : suc (k - (i + 1)) ≡ k - i = omega arith in
        let on : (i + 1) * length fs ≡ i * length fs + length fs = omega (arith, suc-mul i (length fs)) in
        ap₂ (λ (t : Bool) (j : ℕ). t && fits_rows fs (k - (i + 1)) ns j) e on ∙ ap (λ (n : ℕ). fits_rows fs n ns (i * length fs)) one ∙ inv.1

    pub fit_more : i < k → true ≡ fits_row fs ns (i * length fs) → Fit (i + 1)
    fit_more h e = (omega arith, fit_next h e)

    pub fit_not : i < k → false ≡ fits_row fs ns (i * length fs) → false ≡ fits_rows fs k ns 0
    fit_not h e = fit_next h e
