-- One observation's row: the eight numbers from its start on, and what is answered case by case.
use mathlib.Core.Path.{◌≡◌, refl, sym, ap, ◌∙◌}
use mathlib.Core.Bool.{Bool, true, false, cond}
use mathlib.Core.List.{List}
use Prim.Native.Nat.{ℕ, ◌+◌, ◌-◌, ◌*◌, ◌^◌, ◌≤◌, ◌<◌}
use native.Mathlib.Omega.{arith}
use lib.Dec.{ltb}
use mir.Syntax.{Width, w32, w64}
use mir.Val.{bits, hbits, to_z, of_z}
use mir.ValLaws.{to_z_pos}
use borrow.Author.Tests.{ltb-true, ltb-false, leb-true, lt-ltb, le-ltb, le-leb, lt-leb, ne_eqb}
use Rattle.refusals.specs.Refusals.{refused, given}
use Rattle.wire.specs.Number.{Bytes, number_at}
use Rattle.wire.proofs.Numbers.{number_lt}
use Rattle.layouts.specs.Field.{decode}
use Rattle.formats.specs.Wide.{wide_row}
use Rattle.observation.specs.Edition.{observation, is_obs}
use Rattle.row_reader.specs.ReadRow.{read_one}
use Rattle.rows_back.specs.ObsRows.{Holds, widened, eight_at}
use Rattle.rows_back.proofs.ObsRead.{no_fit, fits, counted}

-- ---- the numbers

-- a signed number's bits as those of a wider type: from the half on, all upper bits are set
pub extended : (w : Width) (n : ℕ) → 2 ^ bits w ≤ 2 ^ 64 → 2 ^ hbits w ≤ n → n < 2 ^ bits w → n + (2 ^ 64 - 2 ^ bits w) ≡ of_z w64 (to_z w n)
extended w n wide high f = rw (le-ltb n (2 ^ hbits w) high) (omega arith)

pub widens : (n : ℕ) → n < 2 ^ 32 → of_z w64 (to_z w32 n) ≡ widened n
widens n h = by (ltb n 0x80000000) refl
  where
    by : (t : Bool) → ltb n 0x80000000 ≡ t → of_z w64 (to_z w32 n) ≡ cond t n (n + 0xffffffff00000000)
    by true e = ap (of_z w64) (to_z_pos w32 n (ltb-true n 0x80000000 e))
    by false e = sym (extended w32 n (leb-true (2 ^ 32) (2 ^ 64) refl) (ltb-false n 0x80000000 e) h)

eight : (s : List ℕ) (b : ℕ) → Bytes s → wide_row observation.fields (decode observation.fields s b) ≡ eight_at s b
eight s b bytes =
    let at_8 : b + 4 + 4 ≡ b + 8 = omega arith in
    let at_9 : b + 8 + 1 ≡ b + 9 = omega arith in
    let at_10 : b + 9 + 1 ≡ b + 10 = omega arith in
    let at_12 : b + 10 + 2 ≡ b + 12 = omega arith in
    let at_14 : b + 12 + 2 ≡ b + 14 = omega arith in
    let at_15 : b + 14 + 1 ≡ b + 15 = omega arith in
    rw (at_8, at_9, at_10, at_12, at_14, at_15, widens (number_at 4 s (b + 4)) (number_lt 4 s (b + 4) bytes))

-- ---- answers

pub one_21 : (kind : ℕ) (s : List ℕ) (i room : ℕ) → (kind ≡ 0x0049 → ⊥) → read_one kind s i room ≡ refused 21
unfolding read_one is_obs
one_21 kind s i room other = rw (ne_eqb kind 0x0049 other)

module _ (s : List ℕ) (i room : ℕ) where
  pub one_22 : ((k : ℕ) → Holds s k → ⊥) → read_one 0x0049 s i room ≡ refused 22
  unfolding read_one is_obs
  one_22 none = rw (no_fit s none)

  module _ (k : ℕ) (h : Holds s k) where
    pub one_25 : k ≤ i → read_one 0x0049 s i room ≡ refused 25
    unfolding read_one is_obs
    one_25 past = rw (fits s k h, counted s k h, le-ltb i k past)

    module _ (below : i < k) where
      pub one_32 : room < 8 → read_one 0x0049 s i room ≡ refused 32
      unfolding read_one is_obs
      one_32 few = rw (fits s k h, counted s k h, lt-ltb i k below, lt-leb 8 room few)

      pub one_given : Bytes s → 8 ≤ room → read_one 0x0049 s i room ≡ given (eight_at s (7 + 16 * i))
      unfolding read_one is_obs
      one_given bytes enough =
          let start : 7 + i * 16 ≡ 7 + 16 * i = omega arith in
          rw (fits s k h, counted s k h, lt-ltb i k below, le-leb 8 room enough)
          (ap given (ap (λ (b : ℕ). wide_row observation.fields (decode observation.fields s b)) start ∙ eight s (7 + 16 * i) bytes))
