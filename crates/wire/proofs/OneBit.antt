-- One bit of a number: by shift and mask, and none past the number's width.
use mathlib.Core.Path.{◌≡◌, sym, ap}
use mathlib.Core.Bool.{false}
use Prim.Native.Nat.{ℕ, ◌/◌, ◌%◌, ◌^◌, ◌≤◌, ◌<◌}
use native.Mathlib.Nat.{div-eq_of_lt, lt_of_lt_of_le}
use lib.Bits.{bit_and, and_mask}
use lib.Dec.{eqb}
use lib.Pow.{pow_mono}
use Rattle.wire.specs.Number.{flag_at}

pub flag_masked : (n k : ℕ) → eqb (bit_and (n / 2 ^ k) 1) 1 ≡ flag_at n k
unfolding flag_at
flag_masked n k = ap (λ (x : ℕ). eqb x 1) (and_mask (n / 2 ^ k) 1)

pub flag_past : (w n k : ℕ) → n < 2 ^ w → w ≤ k → false ≡ flag_at n k
unfolding flag_at
flag_past w n k h l = sym (ap (λ (x : ℕ). eqb (x % 2) 1) (div-eq_of_lt (lt_of_lt_of_le h (pow_mono l))))
