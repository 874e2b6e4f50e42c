-- What the functions of flags answer, type by type, as numbers.
use mathlib.Core.Path.{◌≡◌, refl, sym}
use mathlib.Core.Bool.{Bool, true, false, cond}
use Prim.Native.Nat.{ℕ, ◌/◌, ◌%◌, ◌^◌}
use native.Mathlib.Omega.{arith}
use lib.Dec.{eqb}
use borrow.Author.Tests.{eqb-true, eqb-false, ne_eqb}
use Rattle.wire.specs.Number.{flag_at}
use Rattle.flags.specs.Flags.{chosen}
use Rattle.flags.specs.declared.flags.Fix.{Fix}
use Rattle.flags.specs.declared.flags.Fix.TheVariants.{Reserved}
use Rattle.flag_numbers.specs.Flagged.{table_for, fix_number, bit_number, above_sea_answer}
use Rattle.std.specs.Prelude.{None}
use Rattle.demands.specs.Exported.{mode_of, Flags, FlagsByType}

-- a bit as a number is the bit
bit : (n k : ℕ) → bit_number (flag_at n k) ≡ n / 2 ^ k % 2
unfolding flag_at
bit n k = by (eqb (n / 2 ^ k % 2) 1) refl
  where
    by : (t : Bool) → eqb (n / 2 ^ k % 2) 1 ≡ t → bit_number t ≡ n / 2 ^ k % 2
    by true e = sym (eqb-true (n / 2 ^ k % 2) 1 e)
    by false e = omega (arith, eqb-false (n / 2 ^ k % 2) 1 e)

-- a mode's number, table by table
mode : (flags : ℕ) (a b c : Fix) → fix_number (chosen (flags % 8) a b c) ≡ mode_of flags (fix_number a) (fix_number b) (fix_number c)
unfolding chosen
mode flags a b c = by (eqb (flags % 8) 0) (eqb (flags % 8) 1) (eqb (flags % 8) 2)
  where
    by : (t u v : Bool) → fix_number (cond t a (cond u b (cond v c Reserved))) ≡ cond t (fix_number a) (cond u (fix_number b) (cond v (fix_number c) 3))
    by true u v = refl
    by false true v = refl
    by false false true = refl
    by false false false = refl

answers : {kind flags : ℕ} → table_for kind ≡ None → Flags kind flags 21 21 21
answers none = record { mode = rw none; raim = rw none; repair = rw none }

no_table : (kind flags : ℕ) → (kind ≡ 0x0200 → ⊥) → (kind ≡ 0x0201 → ⊥) → (kind ≡ 0x0202 → ⊥) → (kind ≡ 0x0203 → ⊥) → (kind ≡ 0x0207 → ⊥) → Flags kind flags 21 21 21
unfolding table_for
no_table kind flags a b c d e =
    let none : table_for kind ≡ None = rw (ne_eqb kind 0x0200 a, ne_eqb kind 0x0201 b, ne_eqb kind 0x0202 c, ne_eqb kind 0x0203 d, ne_eqb kind 0x0207 e) in
    answers none

not_llh : (kind flags : ℕ) → (kind ≡ 0x0201 → ⊥) → above_sea_answer kind flags ≡ 21
not_llh kind flags h = rw (ne_eqb kind 0x0201 h)

pub flags_by_type : FlagsByType
unfolding table_for
flags_by_type = record {
  pos_ecef = λ flags. record { mode = mode flags _ _ _; raim = bit flags 3; repair = bit flags 4 };
  pos_llh = λ flags. record { mode = mode flags _ _ _; raim = bit flags 4; repair = bit flags 5 };
  baseline_ecef = λ flags. record { mode = mode flags _ _ _; raim = bit flags 3; repair = bit flags 4 };
  baseline_ned = λ flags. record { mode = mode flags _ _ _; raim = bit flags 3; repair = bit flags 4 };
  baseline_heading = λ flags. record { mode = mode flags _ _ _; raim = bit flags 3; repair = bit flags 4 };
  others = no_table;
  above_sea = λ flags. bit flags 3;
  above_sea_others = not_llh;
}
