-- The digits of a run unpack to its formats, where each of these has a digit of its own and there are not too many.
use mathlib.Core.Path.{◌≡◌, refl, sym, ap, ap₂, ◌∙◌}
use mathlib.Core.Bool.{Bool, true, false, ◌&&◌, false≢true, and-eq-true_iff}
use mathlib.Core.List.{List, [], ◌∷◌, ◌++◌, map}
use Prim.Native.Nat.{ℕ, zero, suc, ◌+◌, ◌*◌, ◌/◌, ◌%◌, ◌≤◌, ◌<◌}
use native.Mathlib.Omega.{arith}
use lib.Dec.{leb}
use lib.ListN.{length, take, drop, take-append-drop}
use borrow.Author.Tests.{ne_eqb, leb-true}
use mir.Syntax.{w8, w16, w32, w64, w128}
use Rattle.wire.specs.Value.{Format, unsigned, signed, double}
use Rattle.layouts.specs.Field.{Field, format_of}
use Rattle.formats.specs.Digits.{format_by, digit_of, digits_of, up_to, formats_by}

-- ---- one format

abbrev pub has_digit : Format → Bool
has_digit (unsigned w8) = true
has_digit (unsigned w16) = true
has_digit (unsigned w32) = true
has_digit (unsigned w64) = false
has_digit (unsigned w128) = false
has_digit (signed w8) = false
has_digit (signed w16) = true
has_digit (signed w32) = true
has_digit (signed w64) = false
has_digit (signed w128) = false
has_digit double = true

-- its digit is one, is not 0, and says the format
told : (k : Format) → has_digit k ≡ true → (0 < digit_of k) × (digit_of k < 16) × (format_by (digit_of k) ≡ k)
told (unsigned w8) h = (omega arith, omega arith, refl)
told (unsigned w16) h = (omega arith, omega arith, refl)
told (unsigned w32) h = (omega arith, omega arith, refl)
told (unsigned w64) h = absurd (false≢true h)
told (unsigned w128) h = absurd (false≢true h)
told (signed w8) h = absurd (false≢true h)
told (signed w16) h = (omega arith, omega arith, refl)
told (signed w32) h = (omega arith, omega arith, refl)
told (signed w64) h = absurd (false≢true h)
told (signed w128) h = absurd (false≢true h)
told double h = (omega arith, omega arith, refl)

-- ---- a run

abbrev have_digits : List Field → Bool
have_digits [] = true
have_digits (f ∷ fs) = has_digit (format_of f) && have_digits fs

unpacked_up_to : (most : ℕ) (fs : List Field) → length fs ≤ most → have_digits fs ≡ true → up_to most (digits_of fs) ≡ map format_of fs
unfolding up_to
unpacked_up_to zero [] few h = refl
unpacked_up_to zero (f ∷ fs) few h = absurd (omega arith)
unpacked_up_to (suc most) [] few h = refl
unpacked_up_to (suc most) (f ∷ fs) few h =
    let d = digit_of (format_of f) in
    let rest = digits_of fs in
    let own = (and-eq-true_iff (has_digit (format_of f)) (have_digits fs)).0 h in
    let t = told (format_of f) own.0 in
    let some : d + 16 * rest ≡ 0 → ⊥ = λ e. omega (arith, t.0) in
    let lowest : (d + 16 * rest) % 16 ≡ d = omega (arith, t.1) in
    let others : (d + 16 * rest) / 16 ≡ rest = omega (arith, t.1) in
    rw (ne_eqb (d + 16 * rest) 0 some) (ap₂ (λ (k : Format) (ks : List Format). k ∷ ks) (ap format_by lowest ∙ t.2) (ap (up_to most) others ∙ unpacked_up_to most fs (omega arith) own.1))

-- one number has digits for sixteen fields
abbrev pub fits_one : List Field → Bool
fits_one fs = leb (length fs) 16 && have_digits fs

pub unpacked : (fs : List Field) → fits_one fs ≡ true → formats_by (digits_of fs) ≡ map format_of fs
unpacked fs h = let b = (and-eq-true_iff (leb (length fs) 16) (have_digits fs)).0 h in unpacked_up_to 16 fs (leb-true (length fs) 16 b.0) b.1

-- and two for the first sixteen and those after
abbrev pub fits_two : List Field → Bool
fits_two fs = fits_one (take 16 fs) && fits_one (drop 16 fs)

map-joined : (fs gs : List Field) → map format_of (fs ++ gs) ≡ map format_of fs ++ map format_of gs
map-joined [] gs = refl
map-joined (f ∷ fs) gs = ap (λ (ks : List Format). format_of f ∷ ks) (map-joined fs gs)

pub unpacked_two : (fs : List Field) → fits_two fs ≡ true → formats_by (digits_of (take 16 fs)) ++ formats_by (digits_of (drop 16 fs)) ≡ map format_of fs
unpacked_two fs h =
    let b = (and-eq-true_iff (fits_one (take 16 fs)) (fits_one (drop 16 fs))).0 h in
    ap₂ ◌++◌ (unpacked (take 16 fs) b.0) (unpacked (drop 16 fs) b.1) ∙ sym (map-joined (take 16 fs) (drop 16 fs)) ∙ ap (map format_of) (take-append-drop 16 fs)
