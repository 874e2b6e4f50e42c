-- What the formats of fields mean, in numerals. It stands once more on purpose: with another meaning in wire's definitions and its code together,
-- every table of fields is still the same.
use Rattle.std.specs.Prelude.{◌≡◌, true, false, List, ℕ, suc, ◌+◌, ◌*◌, ◌/◌, ◌%◌, ◌^◌, ◌≤◌, ◌<◌, eqb, pos, ◌-ℤ◌, get_or}
use Rattle.std.specs.Float.{binary64}
use Rattle.std.specs.Float.Ieee.{of_bits, to_bits, is_nan, nan_bits}
use Rattle.wire.specs.Number.{Bytes, number_at, flag_at}
use Rattle.wire.specs.Value.{value_at, bits_of, u8, u16, u32, u64, s16, s32, double}
use Rattle.wire.specs.declared.double.Double.{Double}

pub record Formats : Type 0 where
  -- little_endian; a byte past the end counts 0
  pub no_bytes : (s : List ℕ) (at : ℕ) → number_at 0 s at ≡ 0
  pub little_endian : (w : ℕ) (s : List ℕ) (at : ℕ) → number_at (suc w) s at ≡ get_or s at 0 + 256 * number_at w s (suc at)
  -- unsigned
  pub u8_at : (s : List ℕ) (at : ℕ) → value_at u8 s at ≡ number_at 1 s at
  pub u16_at : (s : List ℕ) (at : ℕ) → value_at u16 s at ≡ number_at 2 s at
  pub u32_at : (s : List ℕ) (at : ℕ) → value_at u32 s at ≡ number_at 4 s at
  pub u64_at : (s : List ℕ) (at : ℕ) → value_at u64 s at ≡ number_at 8 s at
  -- signed, in two's complement: below the half as it is, from the half on less the power of two
  pub s16_low : (s : List ℕ) (at : ℕ) → number_at 2 s at < 0x8000 → value_at s16 s at ≡ pos (number_at 2 s at)
  pub s16_high : (s : List ℕ) (at : ℕ) → Bytes s → 0x8000 ≤ number_at 2 s at → value_at s16 s at ≡ pos (number_at 2 s at) -ℤ pos 0x10000
  pub s32_low : (s : List ℕ) (at : ℕ) → number_at 4 s at < 0x80000000 → value_at s32 s at ≡ pos (number_at 4 s at)
  pub s32_high : (s : List ℕ) (at : ℕ) → Bytes s → 0x80000000 ≤ number_at 4 s at → value_at s32 s at ≡ pos (number_at 4 s at) -ℤ pos 0x100000000
  -- a double: the value of its 64 bits; of a NaN the pattern is kept beside it
  pub double_value : (s : List ℕ) (at : ℕ) → (value_at double s at).value ≡ of_bits binary64 (number_at 8 s at)
  pub double_nan : (s : List ℕ) (at : ℕ) → nan_bits binary64 (number_at 8 s at) ≡ true → (value_at double s at).nan ≡ number_at 8 s at
  pub double_number : (s : List ℕ) (at : ℕ) → nan_bits binary64 (number_at 8 s at) ≡ false → (value_at double s at).nan ≡ 0
  -- the 64 bits of a double; a NaN without a NaN's pattern has the plain one
  pub bits_number : (d : Double) → is_nan d.value ≡ false → bits_of double d ≡ to_bits binary64 d.value
  pub bits_nan : (d : Double) → is_nan d.value ≡ true → nan_bits binary64 d.nan ≡ true → bits_of double d ≡ d.nan
  pub bits_plain_nan : (d : Double) → is_nan d.value ≡ true → nan_bits binary64 d.nan ≡ false → bits_of double d ≡ 0x7ff8000000000000
  -- bit k of flags, the lowest being bit 0
  pub flag_bit : (n k : ℕ) → flag_at n k ≡ eqb (n / 2 ^ k % 2) 1
