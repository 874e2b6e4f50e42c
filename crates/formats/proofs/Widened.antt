-- What a run of formats reads from bytes is the row of its fields, each value as a number of 64 bits; runs one after the other, and how
-- many bytes they take.
use mathlib.Core.Path.{◌≡◌, refl, sym, ap, ap₂, ◌∙◌}
use mathlib.Core.Bool.{Bool, true, false, cond}
use mathlib.Core.List.{List, [], ◌∷◌, ◌++◌, map}
use Prim.Native.Nat.{ℕ, ◌+◌, ◌%◌, ◌≤◌}
use native.Mathlib.Nat.{zero-add, add-zero, add_assoc}
use native.Mathlib.Omega.{arith}
use lib.Dec.{eqb}
use lib.ListN.{take, drop}
use lib.Seq.{drop-drop}
use borrow.Author.Tests.{ne_eqb}
use Rattle.wire.specs.Number.{little, number_at}
use Rattle.wire.specs.Value.{Format, u8, u16, u32, s16, s32, double, width, value_of}
use Rattle.layouts.specs.Field.{Field, format_of, size, decode}
use Rattle.formats.specs.Wide.{wide_of, wide_row}
use Rattle.formats.specs.Digits.{format_by, up_to, formats_by, size_of, numbers_at}

-- ---- over fields

pub numbers_wide : (fs : List Field) (s : List ℕ) (at : ℕ) → numbers_at (map format_of fs) s at ≡ wide_row fs (decode fs s at)
unfolding numbers_at
numbers_wide [] s at = refl
numbers_wide (f ∷ fs) s at = ap (λ (ns : List ℕ). wide_of (format_of f) (decode (f ∷ fs) s at).0 ∷ ns) (numbers_wide fs s (at + width (format_of f)))

pub size_formats : (fs : List Field) → size_of (map format_of fs) ≡ size fs
unfolding size_of
size_formats [] = refl
size_formats (f ∷ fs) = ap (λ (n : ℕ). width (format_of f) + n) (size_formats fs)

-- ---- over formats

module _ (js : List Format) where
  pub size_joined : (ks : List Format) → size_of (ks ++ js) ≡ size_of ks + size_of js
  unfolding size_of
  size_joined [] = sym (zero-add (size_of js))
  size_joined (k ∷ ks) = ap (λ (n : ℕ). width k + n) (size_joined ks) ∙ sym (add_assoc (width k) (size_of ks) (size_of js))

  pub numbers_joined : (ks : List Format) (s : List ℕ) (at : ℕ) → numbers_at (ks ++ js) s at ≡ numbers_at ks s at ++ numbers_at js s (at + size_of ks)
  unfolding numbers_at size_of
  numbers_joined [] s at = ap (numbers_at js s) (sym (add-zero at))
  numbers_joined (k ∷ ks) s at =
      ap (λ (ns : List ℕ). wide_of k (value_of k (number_at (width k) s at)) ∷ ns)
      (numbers_joined ks s (at + width k) ∙ ap (λ (n : ℕ). numbers_at ks s (at + width k) ++ numbers_at js s n) (add_assoc at (width k) (size_of ks)))

-- what stands from an offset on has the numbers from that offset on
pub numbers_drop : (ks : List Format) (s : List ℕ) (n at : ℕ) → numbers_at ks (drop n s) at ≡ numbers_at ks s (n + at)
unfolding numbers_at number_at
numbers_drop [] s n at = refl
numbers_drop (k ∷ ks) s n at =
    ap₂ (λ (t : List ℕ) (ns : List ℕ). wide_of k (value_of k (little (take (width k) t))) ∷ ns) (drop-drop at n s)
    (numbers_drop ks s n (at + width k) ∙ ap (numbers_at ks s) (sym (add_assoc n at (width k))))

-- ---- by digits

-- every field takes some bytes
some_byte : (d : ℕ) → 1 ≤ width (format_by d)
some_byte d = by (eqb d 1) (eqb d 2) (eqb d 4) (eqb d 10) (eqb d 12)
  where
    by : (a b e f g : Bool) → 1 ≤ width (cond a u8 (cond b u16 (cond e u32 (cond f s16 (cond g s32 double)))))
    by true b e f g = omega arith
    by false true e f g = omega arith
    by false false true f g = omega arith
    by false false false true g = omega arith
    by false false false false true = omega arith
    by false false false false false = omega arith

pub some_bytes : (digits : ℕ) → (digits ≡ 0 → ⊥) → 1 ≤ size_of (formats_by digits)
unfolding up_to size_of
some_bytes digits some = rw (ne_eqb digits 0 some) (omega (arith, some_byte (digits % 16)))
