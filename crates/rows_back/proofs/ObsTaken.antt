-- Numbers that the fields of OBS hold are written.
use mathlib.Core.Path.{◌≡◌, refl, sym, ap, ◌∙◌, subst}
use mathlib.Core.Bool.{Bool, true, false, ◌||◌}
use mathlib.Core.List.{List, map}
use mathlib.Core.Logic.{◌⊎◌, inl, inr}
use Prim.Native.Nat.{ℕ, zero, suc, ◌+◌, ◌*◌, ◌/◌, ◌%◌, ◌≤◌, ◌<◌}
use native.Mathlib.Nat.{zero-add, add-zero}
use native.Mathlib.Omega.{arith}
use lib.Dec.{leb, ltb}
use lib.ListN.{length, get_or, drop}
use borrow.Author.Tests.{lt-ltb, le-leb, eq-eqb}
use Rattle.refusals.specs.Refusals.{given}
use Rattle.layouts.specs.Field.{Field, format_of}
use Rattle.formats.specs.Wide.{fits_row, fits_rows}
use Rattle.formats.specs.Digits.{run_fits}
use Rattle.formats.proofs.Narrow.{fits_row_lem, fits_drop}
use Rattle.observation.specs.Edition.{observation, is_obs}
use Rattle.row_writer.specs.WriteObsRow.{write_obs_row}
use Rattle.rows_back.specs.ObsRows.{InHead, InEight}

abbrev fs : List Field
fs = observation.fields

-- low or high, as a sign allows
either_way : (n low high : ℕ) → (n < low) ⊎ (high ≤ n) → (ltb n low || leb high n) ≡ true
either_way n low high (inl h) = rw (lt-ltb n low h)
either_way n low high (inr h) = by (ltb n low) (le-leb high n h)
  where
    by : (t : Bool) → leb high n ≡ true → (t || leb high n) ≡ true
    by true e = refl
    by false e = e

eight_fit : (ns : List ℕ) → InEight ns → fits_row fs ns 0 ≡ true
eight_fit ns h =
    rw (
      lt-ltb (get_or ns 0 0) 0x100000000 h.0,
      either_way (get_or ns 1 0) 0x80000000 0xffffffff80000000 h.1,
      lt-ltb (get_or ns 2 0) 0x100 h.2,
      lt-ltb (get_or ns 3 0) 0x100 h.3,
      lt-ltb (get_or ns 4 0) 0x10000 h.4,
      lt-ltb (get_or ns 5 0) 0x10000 h.5,
      lt-ltb (get_or ns 6 0) 0x100 h.6,
      lt-ltb (get_or ns 7 0) 0x100 h.7,
    )

-- from any number on
abbrev Fit : List ℕ → ℕ → Type 0
Fit ns j = InEight (drop j ns)

fit_from : (ns : List ℕ) (j : ℕ) → fits_row fs (drop j ns) 0 ≡ fits_row fs ns j
fit_from ns j =
    sym (fits_row_lem fs (drop j ns) 0) ∙ fits_drop j ns (map format_of fs) 0 ∙ ap (run_fits (map format_of fs) ns) (add-zero j) ∙ fits_row_lem fs ns j

all_fit : (ns : List ℕ) (k j : ℕ) → ((i : ℕ) → i < k → Fit ns (j + 8 * i)) → fits_rows fs k ns j ≡ true
all_fit ns zero j h = refl
all_fit ns (suc k) j h =
    let here = eight_fit (drop j ns) (subst (Fit ns) (add-zero j) (h 0 (omega arith))) in
    rw (sym (fit_from ns j) ∙ here) (all_fit ns k (j + 8) (λ i below. subst (Fit ns) (next i) (h (suc i) (omega arith))))
  where
    next : (i : ℕ) → j + 8 * suc i ≡ j + 8 + 8 * i
    next i = omega arith

pub taken : (hs ns : List ℕ) (k room : ℕ) → length hs ≡ 3 → InHead hs → length ns ≡ 8 * k → ((i : ℕ) → i < k → InEight (drop (8 * i) ns)) → k ≤ 15
    → 16 * k + 15 ≤ room → write_obs_row 0x0049 hs ns room ≡ given (16 * k + 15)
unfolding write_obs_row is_obs
taken hs ns k room three head eights each few enough =
    let whole : length ns % 8 ≡ 0 = omega arith in
    let count : length ns / 8 ≡ k = omega arith in
    let size : 7 + k * 16 + 8 ≡ 16 * k + 15 = omega arith in
    let rows_fit = all_fit ns k 0 (λ i below. subst (Fit ns) (sym (zero-add (8 * i))) (each i below)) in
    rw (
      eq-eqb (length hs) 3 three,
      eq-eqb (length ns % 8) 0 whole,
      lt-ltb (get_or hs 0 0) 0x100000000 head.0,
      lt-ltb (get_or hs 1 0) 0x10000 head.1,
      lt-ltb (get_or hs 2 0) 0x100 head.2,
      count,
      rows_fit,
      le-leb k 15 few,
      le-leb (7 + k * 16) 255 (omega arith),
      le-leb (7 + k * 16 + 8) room (omega arith),
    )
    (ap given size)
