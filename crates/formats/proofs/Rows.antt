-- What a run makes of bytes and of a row's numbers, format by format as a loop takes them.
use mathlib.Core.Path.{◌≡◌, refl, sym, ap, ap₂, ◌∙◌}
use mathlib.Core.Bool.{Bool, true, false, ◌&&◌}
use mathlib.Core.List.{List, [], ◌∷◌}
use Prim.Native.Nat.{ℕ, suc, ◌+◌, ◌/◌, ◌%◌, ◌^◌, ◌<◌}
use native.Mathlib.Numerals.{add-one}
use lib.ListN.{length, get_or, set}
use lib.Seq.{sets}
use Rattle.wire.specs.Number.{stored_at}
use Rattle.wire.specs.Value.{Format, width, value_at}
use Rattle.wire.proofs.Numbers.{length-stored}
use Rattle.formats.specs.Wide.{wide_of, fits_in}
use Rattle.formats.specs.Digits.{format_by, formats_by, numbers_at, run_fits, run_stored}
use Rattle.formats.proofs.Steps.{no_formats, first_format}

-- ---- each fits

pub fits_all : (d : ℕ) (ns : List ℕ) (i : ℕ) → d ≡ 0 → run_fits (formats_by d) ns i ≡ true
unfolding run_fits
fits_all d ns i e = ap (λ (ks : List Format). run_fits ks ns i) (no_formats d e)

fits_first : (d : ℕ) (ns : List ℕ) (i : ℕ) → d < 2 ^ 64 → (d ≡ 0 → ⊥) → {t : Bool} → fits_in (format_by (d % 16)) (get_or ns i 0) ≡ t
    → run_fits (formats_by d) ns i ≡ t && run_fits (formats_by (d / 16)) ns (suc i)
unfolding run_fits
fits_first d ns i h some e =
    ap (λ (ks : List Format). run_fits ks ns i) (first_format d h some) ∙ ap (λ (t : Bool). t && run_fits (formats_by (d / 16)) ns (suc i)) e

pub fits_more : (d : ℕ) (ns : List ℕ) (i : ℕ) → d < 2 ^ 64 → (d ≡ 0 → ⊥) → fits_in (format_by (d % 16)) (get_or ns i 0) ≡ true
    → run_fits (formats_by (d / 16)) ns (i + 1) ≡ run_fits (formats_by d) ns i
fits_more d ns i h some e = rw add-one (sym (fits_first d ns i h some e))

pub fits_not : (d : ℕ) (ns : List ℕ) (i : ℕ) → d < 2 ^ 64 → (d ≡ 0 → ⊥) → fits_in (format_by (d % 16)) (get_or ns i 0) ≡ false
    → run_fits (formats_by d) ns i ≡ false
fits_not d ns i h some e = fits_first d ns i h some e

-- ---- read

pub length-numbers : (ks : List Format) (s : List ℕ) (at : ℕ) → length (numbers_at ks s at) ≡ length ks
unfolding numbers_at
length-numbers [] s at = refl
length-numbers (k ∷ ks) s at = ap suc (length-numbers ks s (at + width k))

pub read_none : (d : ℕ) (s row : List ℕ) (i at : ℕ) → d ≡ 0 → sets row i (numbers_at (formats_by d) s at) ≡ row
unfolding numbers_at
read_none d s row i at e = ap (λ (ks : List Format). sets row i (numbers_at ks s at)) (no_formats d e)

pub read_more : (d : ℕ) (s row : List ℕ) (i at : ℕ) → d < 2 ^ 64 → (d ≡ 0 → ⊥) → {v w : ℕ}
    → v ≡ wide_of (format_by (d % 16)) (value_at (format_by (d % 16)) s at) → w ≡ width (format_by (d % 16))
    → sets (set row i v) (i + 1) (numbers_at (formats_by (d / 16)) s (at + w)) ≡ sets row i (numbers_at (formats_by d) s at)
unfolding numbers_at
read_more d s row i at h some {v} {w} e f =
    ap (λ (j : ℕ). sets (set row i v) j (numbers_at (formats_by (d / 16)) s (at + w))) (add-one i)
    ∙ ap₂ (λ (x y : ℕ). sets row i (x ∷ numbers_at (formats_by (d / 16)) s (at + y))) e f
    ∙ sym (ap (λ (ks : List Format). sets row i (numbers_at ks s at)) (first_format d h some))

-- ---- stored

pub stored_none : (d : ℕ) (ns : List ℕ) (i : ℕ) (buf : List ℕ) (at : ℕ) → d ≡ 0 → run_stored (formats_by d) ns i buf at ≡ buf
unfolding run_stored
stored_none d ns i buf at e = ap (λ (ks : List Format). run_stored ks ns i buf at) (no_formats d e)

pub stored_more : (d : ℕ) (ns : List ℕ) (i : ℕ) (buf : List ℕ) (at : ℕ) → d < 2 ^ 64 → (d ≡ 0 → ⊥) → {n w : ℕ} {after : List ℕ}
    → n ≡ get_or ns i 0 → after ≡ stored_at (width (format_by (d % 16))) n buf at → w ≡ width (format_by (d % 16))
    → run_stored (formats_by (d / 16)) ns (i + 1) after (at + w) ≡ run_stored (formats_by d) ns i buf at
unfolding run_stored
stored_more d ns i buf at h some {n} {w} {after} e f g =
    ap (λ (j : ℕ). run_stored (formats_by (d / 16)) ns j after (at + w)) (add-one i)
    ∙ ap₂ (λ (t : List ℕ) (y : ℕ). run_stored (formats_by (d / 16)) ns (suc i) t (at + y)) (f ∙ ap (λ (x : ℕ). stored_at (width (format_by (d % 16))) x buf at) e) g
    ∙ sym (ap (λ (ks : List Format). run_stored ks ns i buf at) (first_format d h some))

pub length-run_stored : (ks : List Format) (ns : List ℕ) (i : ℕ) (buf : List ℕ) (at : ℕ) → length (run_stored ks ns i buf at) ≡ length buf
unfolding run_stored
length-run_stored [] ns i buf at = refl
length-run_stored (k ∷ ks) ns i buf at = length-run_stored ks ns (suc i) (stored_at (width k) (get_or ns i 0) buf at) (at + width k) ∙ length-stored (width k) (get_or ns i 0) buf at
