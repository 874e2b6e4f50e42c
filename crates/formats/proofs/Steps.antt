-- The formats of a run's digits one by one, as a loop takes them: the lowest digit's first, then those of the rest.
use mathlib.Core.Path.{◌≡◌, refl, sym, ap}
use mathlib.Core.Bool.{Bool, true, false}
use mathlib.Core.List.{List, [], ◌∷◌}
use Prim.Native.Nat.{ℕ, zero, suc, ◌+◌, ◌*◌, ◌/◌, ◌%◌, ◌^◌, ◌≤◌, ◌<◌}
use native.Mathlib.Nat.{pow-suc}
use native.Mathlib.Omega.{arith}
use lib.Dec.{eqb}
use lib.ListN.{length}
use borrow.Author.Tests.{eq-eqb, ne_eqb}
use Rattle.wire.specs.Value.{Format, width}
use Rattle.formats.specs.Digits.{format_by, up_to, formats_by, size_of}
use Rattle.formats.proofs.Formats.{at_most_eight}

-- how many digits are allowed for does not matter once they are enough
enough : (m d : ℕ) → d < 16 ^ m → up_to (suc m) d ≡ up_to m d
unfolding up_to
enough zero d h = let none : d ≡ 0 = omega arith in rw (eq-eqb d 0 none)
enough (suc m) d h = by (eqb d 0) refl (λ l. enough m (d / 16) l)
  where
    by : (t : Bool) → eqb d 0 ≡ t → (d / 16 < 16 ^ m → up_to (suc m) (d / 16) ≡ up_to m (d / 16)) → up_to (suc (suc m)) d ≡ up_to (suc m) d
    by true e rest = rw e
    by false e rest = rw e (ap (λ (ks : List Format). format_by (d % 16) ∷ ks) (rest (omega (arith, pow-suc 16 m, h))))

pub no_formats : (d : ℕ) → d ≡ 0 → formats_by d ≡ []
unfolding up_to
no_formats d e = rw (eq-eqb d 0 e)

pub first_format : (d : ℕ) → d < 2 ^ 64 → (d ≡ 0 → ⊥) → formats_by d ≡ format_by (d % 16) ∷ formats_by (d / 16)
unfolding up_to
first_format d h some = rw (ne_eqb d 0 some) (ap (λ (ks : List Format). format_by (d % 16) ∷ ks) (sym (enough 15 (d / 16) (omega arith))))

-- ---- where a loop stands: i formats passed, of so many bytes, and those of the rest to come

abbrev pub Counted : ℕ → ℕ → ℕ → Type 0
Counted digits rest i = (rest ≤ digits) × (i + length (formats_by rest) ≡ length (formats_by digits))

abbrev pub Sized : ℕ → ℕ → ℕ → Type 0
Sized digits rest at = at + size_of (formats_by rest) ≡ size_of (formats_by digits)

pub counted_none : (digits : ℕ) → Counted digits digits 0
counted_none digits = (omega arith, omega arith)

pub sized_none : (digits : ℕ) → Sized digits digits 0
sized_none digits = omega arith

pub below : (digits rest : ℕ) → digits < 2 ^ 64 → rest ≤ digits → rest < 2 ^ 64
below digits rest h l = omega arith

pub counted_more : (digits rest i : ℕ) → digits < 2 ^ 64 → (rest ≡ 0 → ⊥) → Counted digits rest i → Counted digits (rest / 16) (i + 1)
counted_more digits rest i h some passed =
    let one = ap length (first_format rest (below digits rest h passed.0) some) in
    (omega (arith, passed.0), omega (arith, passed.1, one))

pub sized_more : (digits rest at w : ℕ) → rest < 2 ^ 64 → (rest ≡ 0 → ⊥) → w ≡ width (format_by (rest % 16)) → Sized digits rest at → Sized digits (rest / 16) (at + w)
unfolding size_of
sized_more digits rest at w h some e passed = let one = ap size_of (first_format rest h some) in omega (arith, passed, one, e)

pub counted_all : (digits rest i : ℕ) → rest ≡ 0 → Counted digits rest i → i ≡ length (formats_by digits)
counted_all digits rest i e passed = omega (arith, passed.1, ap length (no_formats rest e))

pub sized_all : (digits rest at : ℕ) → rest ≡ 0 → Sized digits rest at → at ≡ size_of (formats_by digits)
unfolding size_of
sized_all digits rest at e passed = omega (arith, passed, ap size_of (no_formats rest e))

-- ---- there are at most 16, of 128 bytes

pub few : (m d : ℕ) → (length (up_to m d) ≤ m) × (size_of (up_to m d) ≤ 8 * m)
unfolding up_to size_of
few zero d = (omega arith, omega arith)
few (suc m) d = by (eqb d 0) refl (few m (d / 16))
  where
    Few : ℕ → ℕ → Type 0
    Few m d = (length (up_to m d) ≤ m) × (size_of (up_to m d) ≤ 8 * m)

    by : (t : Bool) → eqb d 0 ≡ t → Few m (d / 16) → Few (suc m) d
    by true e rest = rw e (omega arith, omega arith)
    by false e rest = rw e (omega (arith, rest.0), omega (arith, rest.1, at_most_eight (d % 16)))

pub counted_some : (digits rest i : ℕ) → digits < 2 ^ 64 → (rest ≡ 0 → ⊥) → Counted digits rest i → i < length (formats_by digits)
counted_some digits rest i h some passed = omega (arith, passed.1, ap length (first_format rest (below digits rest h passed.0) some))

pub counted_few : (digits rest i : ℕ) → Counted digits rest i → i ≤ 16
counted_few digits rest i passed = omega (arith, passed.1, (few 16 digits).0)

pub sized_few : (digits rest at : ℕ) → Sized digits rest at → at ≤ 128
sized_few digits rest at passed = omega (arith, passed, (few 16 digits).1)
