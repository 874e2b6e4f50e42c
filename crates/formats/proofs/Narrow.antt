-- Numbers of 64 bits stored as fields: where each fits its field, a run of formats stores what the row that they stand for stores, and that
-- row's values are held by their types and settled.
use mathlib.Core.Path.{◌≡◌, refl, sym, ap, ap₂, ◌∙◌, subst⁻¹}
use mathlib.Core.Bool.{Bool, true, false, ◌&&◌, ◌||◌, cond, false≢true, and_assoc, and-eq-true_iff}
use mathlib.Core.List.{List, [], ◌∷◌, ◌++◌, map}
use Prim.Native.Nat.{ℕ, zero, suc, ◌+◌, ◌-◌, ◌*◌, ◌/◌, ◌%◌, ◌^◌, ◌≤◌, ◌<◌}
use native.Mathlib.Nat.{add-zero, add-suc, suc-add, add_assoc, mul_assoc, pow-suc}
use native.Mathlib.Omega.{arith}
use lib.IntN.{ℤ, negsuc}
use lib.Dec.{lit<, leb, ltb}
use lib.Ieee.{binary64, nan_bits}
use lib.Ieee.Bits.{of_bits-fits}
use lib.ListN.{length, get_or, take, drop, length-drop}
use lib.Seq.{sets, drop-cons, get_or-drop, length-take-le}
use mir.Syntax.{Width, w8, w16, w32, w64, w128}
use mir.Val.{bits, hbits, SFits, to_z, of_z}
use mir.ValLaws.{to_z_pos, to_z-neg, of_z-to_z}
use borrow.Author.Tests.{leb-true, ltb-true}
use Rattle.wire.specs.Number.{bytes_of, stored_at}
use Rattle.wire.specs.Double.{double_of}
use Rattle.wire.specs.Value.{Format, unsigned, signed, double, width, Held, Settled, bits_of}
use Rattle.layouts.specs.Field.{Field, format_of, HeldRow, SettledRow, row_stored}
use Rattle.wire.proofs.Numbers.{length-bytes_of, stored_sets, length-stored, sets-append, sets-lent}
use Rattle.wire.proofs.Doubles.{bits_double_of}
use Rattle.layouts.proofs.Fields.{signed_settled}
use Rattle.formats.specs.Wide.{wide_of, narrow_to, fits_in, wide_row, narrow_row, fits_row}
use Rattle.formats.specs.Digits.{size_of, run_fits, run_stored}

-- every number has 64 bits, as those of a lent slice have
abbrev pub Words : List ℕ → Type 0
Words ns = (i : ℕ) → get_or ns i 0 < 2 ^ 64

-- a format that a number of 64 bits can fill
abbrev pub within : Format → Bool
within k = leb (width k) 8

abbrev pub within_all : List Field → Bool
within_all [] = true
within_all (f ∷ fs) = within (format_of f) && within_all fs

-- ---- one value

-- what is above its w bytes does not count
bytes_above : (w m q : ℕ) → bytes_of w (m + q * 256 ^ w) ≡ bytes_of w m
unfolding bytes_of
bytes_above zero m q = refl
bytes_above (suc w) m q =
    let digit : q * 256 ^ suc w ≡ q * 256 ^ w * 256 = ap (λ (x : ℕ). q * x) (pow-suc 256 w) ∙ sym (mul_assoc q (256 ^ w) 256) in
    let low : (m + q * 256 ^ suc w) % 256 ≡ m % 256 = omega arith in
    let high : (m + q * 256 ^ suc w) / 256 ≡ m / 256 + q * 256 ^ w = omega arith in
    ap₂ (λ (x : ℕ) (t : List ℕ). x ∷ t) low (ap (bytes_of w) high ∙ bytes_above w (m / 256) q)

-- the half of a width's numbers, and all of them among those of 64 bits
powers : (w : Width) → within (signed w) ≡ true
    → (q : ℕ) × (2 ^ 64 ≡ 2 ^ bits w + q * 256 ^ (bits w / 8)) × (2 ^ (bits w - 1) ≡ 2 ^ hbits w) × (2 ^ bits w ≡ 2 * 2 ^ hbits w) × (2 ^ hbits w ≤ 2 ^ 63)
powers w8 h = (2 ^ 56 - 1, refl, refl, refl, leb-true (2 ^ 7) (2 ^ 63) refl)
powers w16 h = (2 ^ 48 - 1, refl, refl, refl, leb-true (2 ^ 15) (2 ^ 63) refl)
powers w32 h = (2 ^ 32 - 1, refl, refl, refl, leb-true (2 ^ 31) (2 ^ 63) refl)
powers w64 h = (0, refl, refl, refl, leb-true (2 ^ 63) (2 ^ 63) refl)
powers w128 h = absurd (false≢true h)

-- a number whose upper bits are all like the sign is in the width's range, and has its bytes
abbrev Narrowed : Width → ℕ → ℤ → Type 0
Narrowed w n z = SFits w z × (bytes_of (bits w / 8) (of_z w z) ≡ bytes_of (bits w / 8) n)

narrow_signed : (w : Width) (n : ℕ) → within (signed w) ≡ true → n < 2 ^ 64 → fits_in (signed w) n ≡ true → Narrowed w n (to_z w64 n)
narrow_signed w n short h fits = by (ltb n (2 ^ (bits w - 1))) refl fits
  where
    by : (t : Bool) → ltb n (2 ^ (bits w - 1)) ≡ t → (t || leb (2 ^ 64 - 2 ^ (bits w - 1)) n) ≡ true → Narrowed w n (to_z w64 n)
    by true e f =
        let p = powers w short in
        let small = ltb-true n (2 ^ (bits w - 1)) e in
        subst⁻¹ (Narrowed w n) (to_z_pos w64 n (omega (arith, p.2, p.4))) (record { sfits = omega (arith, p.2) }, refl)
    by false e f =
        let p = powers w short in
        let large = leb-true (2 ^ 64 - 2 ^ (bits w - 1)) n f in
        let m = 2 ^ 64 - suc n in
        let few : m < 2 ^ hbits w = omega (arith, p.2, p.4) in
        let back : n ≡ 2 ^ 64 - suc m = omega arith in
        let z : to_z w64 n ≡ negsuc m = ap (to_z w64) back ∙ to_z-neg w64 m (omega (arith, p.4)) in
        let upper : n ≡ 2 ^ bits w - suc m + p.0 * 256 ^ (bits w / 8) = omega (arith, p.1, p.3) in
        subst⁻¹ (Narrowed w n) z (record { sfits = few }, sym (ap (bytes_of (bits w / 8)) upper ∙ bytes_above (bits w / 8) (2 ^ bits w - suc m) p.0))

module _ (k : Format) (n : ℕ) (short : within k ≡ true) (h : n < 2 ^ 64) (fits : fits_in k n ≡ true) where
  same_bytes : bytes_of (width k) (bits_of k (narrow_to k n)) ≡ bytes_of (width k) n
  same_bytes = by k short fits
    where
      by : (k : Format) → within k ≡ true → fits_in k n ≡ true → bytes_of (width k) (bits_of k (narrow_to k n)) ≡ bytes_of (width k) n
      by (unsigned w) short fits = refl
      by (signed w) short fits = (narrow_signed w n short h fits).1
      by double short fits = ap (bytes_of 8) (bits_double_of n h)

  same_stored : (buf : List ℕ) (at : ℕ) → stored_at (width k) n buf at ≡ stored_at (width k) (bits_of k (narrow_to k n)) buf at
  unfolding stored_at
  same_stored buf at = ap (λ (bs : List ℕ). cond (leb (at + width k) (length buf)) (sets buf at bs) buf) (sym same_bytes)

  held : Held k (narrow_to k n)
  unfolding double_of
  held = by k short fits
    where
      nan : (t : Bool) → cond t n 0 < 2 ^ 64
      nan true = h
      nan false = lit< tt

      by : (k : Format) → within k ≡ true → fits_in k n ≡ true → Held k (narrow_to k n)
      by (unsigned w) short fits = record { fits = ltb-true n (2 ^ bits w) fits }
      by (signed w) short fits = (narrow_signed w n short h fits).0
      by double short fits = (of_bits-fits binary64 n, nan (nan_bits binary64 n))

  settled : Settled k (narrow_to k n)
  settled = by k short fits
    where
      by : (k : Format) → within k ≡ true → fits_in k n ≡ true → Settled k (narrow_to k n)
      by (unsigned w) short fits = refl
      by (signed w) short fits = signed_settled w (to_z w64 n) (narrow_signed w n short h fits).0
      by double short fits = ap double_of (bits_double_of n h)

-- it stands for that number alone
same_wide : (k : Format) (n : ℕ) → n < 2 ^ 64 → wide_of k (narrow_to k n) ≡ n
same_wide (unsigned w) n h = refl
same_wide (signed w) n h = of_z-to_z w64 n (record { fits = h })
same_wide double n h = bits_double_of n h

-- ---- a row

pub fits_row_lem : (fs : List Field) (ns : List ℕ) (i : ℕ) → run_fits (map format_of fs) ns i ≡ fits_row fs ns i
unfolding run_fits
fits_row_lem [] ns i = refl
fits_row_lem (f ∷ fs) ns i = ap (λ (t : Bool). fits_in (format_of f) (get_or ns i 0) && t) (fits_row_lem fs ns (suc i))

module _ (ns : List ℕ) (words : Words ns) where
  pub stored_narrow : (fs : List Field) (i : ℕ) (buf : List ℕ) (at : ℕ) → within_all fs ≡ true → fits_row fs ns i ≡ true
      → run_stored (map format_of fs) ns i buf at ≡ row_stored fs (narrow_row fs ns i) buf at
  unfolding run_stored
  stored_narrow [] i buf at short fits = refl
  stored_narrow (f ∷ fs) i buf at short fits =
      let k = format_of f in
      let s = (and-eq-true_iff _ _).0 short in
      let h = (and-eq-true_iff _ _).0 fits in
      ap (λ (t : List ℕ). run_stored (map format_of fs) ns (suc i) t (at + width k)) (same_stored k (get_or ns i 0) s.0 (words i) h.0 buf at)
      ∙ stored_narrow fs (suc i) (stored_at (width k) (bits_of k (narrow_to k (get_or ns i 0))) buf at) (at + width k) s.1 h.1

  pub held_narrow : (fs : List Field) (i : ℕ) → within_all fs ≡ true → fits_row fs ns i ≡ true → HeldRow fs (narrow_row fs ns i)
  held_narrow [] i short fits = tt
  held_narrow (f ∷ fs) i short fits =
      let s = (and-eq-true_iff _ _).0 short in
      let h = (and-eq-true_iff _ _).0 fits in
      (held (format_of f) (get_or ns i 0) s.0 (words i) h.0, held_narrow fs (suc i) s.1 h.1)

  pub settled_narrow : (fs : List Field) (i : ℕ) → within_all fs ≡ true → fits_row fs ns i ≡ true → SettledRow fs (narrow_row fs ns i)
  settled_narrow [] i short fits = tt
  settled_narrow (f ∷ fs) i short fits =
      let s = (and-eq-true_iff _ _).0 short in
      let h = (and-eq-true_iff _ _).0 fits in
      (settled (format_of f) (get_or ns i 0) s.0 (words i) h.0, settled_narrow fs (suc i) s.1 h.1)

  -- and as a row they are the numbers again
  pub wide_narrow : (fs : List Field) (i : ℕ) → i + length fs ≤ length ns → wide_row fs (narrow_row fs ns i) ≡ take (length fs) (drop i ns)
  wide_narrow [] i long = refl
  wide_narrow (f ∷ fs) i long =
      ap₂ (λ (n : ℕ) (t : List ℕ). n ∷ t) (same_wide (format_of f) (get_or ns i 0) (words i)) (wide_narrow fs (suc i) (omega arith))
      ∙ ap (take (length (f ∷ fs))) (sym (drop-cons ns i 0 (omega arith)))

-- ---- two runs as one

module _ (js : List Format) (ns : List ℕ) where
  pub fits_joined : (ks : List Format) (i : ℕ) → run_fits (ks ++ js) ns i ≡ (run_fits ks ns i && run_fits js ns (i + length ks))
  unfolding run_fits
  fits_joined [] i = ap (run_fits js ns) (sym (add-zero i))
  fits_joined (k ∷ ks) i =
      let rest = fits_joined ks (suc i) ∙ ap (λ (n : ℕ). run_fits ks ns (suc i) && run_fits js ns n) (suc-add i (length ks) ∙ sym (add-suc i (length ks))) in
      ap (λ (t : Bool). fits_in k (get_or ns i 0) && t) rest ∙ sym (and_assoc (fits_in k (get_or ns i 0)) (run_fits ks ns (suc i)) (run_fits js ns (i + suc (length ks))))

  pub stored_joined : (ks : List Format) (i : ℕ) (buf : List ℕ) (at : ℕ)
      → run_stored (ks ++ js) ns i buf at ≡ run_stored js ns (i + length ks) (run_stored ks ns i buf at) (at + size_of ks)
  unfolding run_stored size_of
  stored_joined [] i buf at = ap₂ (λ (n o : ℕ). run_stored js ns n buf o) (sym (add-zero i)) (sym (add-zero at))
  stored_joined (k ∷ ks) i buf at =
      let t = stored_at (width k) (get_or ns i 0) buf at in
      stored_joined ks (suc i) t (at + width k)
      ∙ ap₂ (λ (n o : ℕ). run_stored js ns n (run_stored ks ns (suc i) t (at + width k)) o) (suc-add i (length ks) ∙ sym (add-suc i (length ks))) (add_assoc at (width k) (size_of ks))

-- ---- the numbers from n on

module _ (n : ℕ) (ns : List ℕ) where
  pub fits_drop : (ks : List Format) (i : ℕ) → run_fits ks (drop n ns) i ≡ run_fits ks ns (n + i)
  unfolding run_fits
  fits_drop [] i = refl
  fits_drop (k ∷ ks) i = ap₂ (λ (x : ℕ) (t : Bool). fits_in k x && t) (get_or-drop n ns i 0) (fits_drop ks (suc i) ∙ ap (run_fits ks ns) (add-suc n i))

  pub stored_drop : (ks : List Format) (i : ℕ) (buf : List ℕ) (at : ℕ) → run_stored ks (drop n ns) i buf at ≡ run_stored ks ns (n + i) buf at
  unfolding run_stored
  stored_drop [] i buf at = refl
  stored_drop (k ∷ ks) i buf at =
      let next = at + width k in
      stored_drop ks (suc i) (stored_at (width k) (get_or (drop n ns) i 0) buf at) next
      ∙ ap₂ (λ (x j : ℕ). run_stored ks ns j (stored_at (width k) x buf at) next) (get_or-drop n ns i 0) (add-suc n i)

-- ---- a run that has room is its bytes stored

-- the numbers' bytes one after the other
abbrev run_bytes : List Format → List ℕ → ℕ → List ℕ
run_bytes [] ns i = []
run_bytes (k ∷ ks) ns i = bytes_of (width k) (get_or ns i 0) ++ run_bytes ks ns (suc i)

module _ (ns : List ℕ) where
  run_sets : (ks : List Format) (i : ℕ) (buf : List ℕ) (at : ℕ) → at + size_of ks ≤ length buf → run_stored ks ns i buf at ≡ sets buf at (run_bytes ks ns i)
  unfolding run_stored size_of
  run_sets [] i buf at h = refl
  run_sets (k ∷ ks) i buf at h =
      let w = width k in
      let n = get_or ns i 0 in
      let room : at + w + size_of ks ≤ length (stored_at w n buf at) = rw length-stored (omega arith) in
      run_sets ks (suc i) (stored_at w n buf at) (at + w) room
      ∙ ap₂ (λ (t : List ℕ) (o : ℕ). sets t o (run_bytes ks ns (suc i))) (stored_sets w n buf at (omega arith)) (ap (λ (x : ℕ). at + x) (sym (length-bytes_of w n)))
      ∙ sym (sets-append buf at (bytes_of w n) (run_bytes ks ns (suc i)))

  pub length_run : (ks : List Format) (i : ℕ) (buf : List ℕ) (at : ℕ) → length (run_stored ks ns i buf at) ≡ length buf
  unfolding run_stored
  length_run [] i buf at = refl
  length_run (k ∷ ks) i buf at = length_run ks (suc i) (stored_at (width k) (get_or ns i 0) buf at) (at + width k) ∙ length-stored (width k) (get_or ns i 0) buf at

  -- stored in what is lent of a buffer from an offset on, it is stored in the whole
  pub run_lent : (ks : List Format) (i : ℕ) (buf : List ℕ) (at : ℕ) {t : List ℕ} → at + size_of ks ≤ length buf
      → t ≡ run_stored ks ns i (take (length buf - at) (drop at buf)) 0 → take at buf ++ (t ++ drop (length buf - at) (drop at buf)) ≡ run_stored ks ns i buf at
  run_lent ks i buf at h e =
      let lent = take (length buf - at) (drop at buf) in
      let long : length lent ≡ length buf - at = length-take-le (length buf - at) (drop at buf) (rw length-drop (omega arith)) in
      sets-lent at buf 0 (run_bytes ks ns i) (omega arith) (e ∙ run_sets ks i lent 0 (omega arith))
      ∙ ap (λ (o : ℕ). sets buf o (run_bytes ks ns i)) (add-zero at)
      ∙ sym (run_sets ks i buf at h)
