-- What the formats mean: by unfolding, but for one byte more, which goes by the list, and a signed number, by its half.
use mathlib.Core.Path.{◌≡◌, refl, sym, ap, ◌∙◌}
use mathlib.Core.List.{List, [], ◌∷◌}
use Prim.Native.Nat.{ℕ, zero, suc, ◌+◌, ◌*◌, ◌/◌, ◌%◌, ◌^◌, ◌≤◌, ◌<◌}
use borrow.Author.Tests.{lt-ltb, le-ltb}
use lib.Dec.{eqb}
use lib.IntN.{pos, ◌-ℤ◌}
use lib.Ieee.{binary64, of_bits}
use lib.ListN.{get_or}
use lib.Seq.{take-nil}
use mir.Syntax.{w16, w32}
use mir.Val.{to_z}
use mir.ValLaws.{to_z_pos}
use Rattle.wire.specs.Number.{little, number_at, flag_at}
use Rattle.wire.specs.Double.{double_of}
use Rattle.wire.proofs.Numbers.{number_lt}
use Rattle.wire.proofs.Doubles.{of_nan, of_number, bits_of_number, bits_of_nan, bits_of_other_nan}
use Rattle.wire.specs.declared.double.Double.{Double}
use Rattle.named_fields.specs.Formats.{Formats}

none_read : (s : List ℕ) (at : ℕ) → number_at 0 s at ≡ 0
unfolding number_at little
none_read s at = refl

past_end : (w at : ℕ) → number_at w [] at ≡ 0
unfolding number_at little
past_end w zero = rw take-nil
past_end w (suc at) = rw take-nil

one_more : (w : ℕ) (s : List ℕ) (at : ℕ) → number_at (suc w) s at ≡ get_or s at 0 + 256 * number_at w s (suc at)
unfolding number_at little
one_more w [] at = past_end (suc w) at ∙ sym (ap (λ (x : ℕ). 0 + 256 * x) (past_end w (suc at)))
one_more w (b ∷ s) zero = refl
one_more w (b ∷ s) (suc at) = one_more w s at

high_16 : (n : ℕ) → n < 0x10000 → 0x8000 ≤ n → to_z w16 n ≡ pos n -ℤ pos 0x10000
high_16 n h high = rw (le-ltb n 0x8000 high, lt-ltb n 0x10000 h) refl

high_32 : (n : ℕ) → n < 0x100000000 → 0x80000000 ≤ n → to_z w32 n ≡ pos n -ℤ pos 0x100000000
high_32 n h high = rw (le-ltb n 0x80000000 high, lt-ltb n 0x100000000 h) refl

value_of : (n : ℕ) → (double_of n).value ≡ of_bits binary64 n
unfolding double_of
value_of n = refl

bit : (n k : ℕ) → flag_at n k ≡ eqb (n / 2 ^ k % 2) 1
unfolding flag_at
bit n k = refl

pub formats : Formats
formats = record {
  no_bytes = none_read;
  little_endian = one_more;
  u8_at = λ s at. refl;
  u16_at = λ s at. refl;
  u32_at = λ s at. refl;
  u64_at = λ s at. refl;
  s16_low = λ s at h. to_z_pos w16 (number_at 2 s at) h;
  s16_high = λ s at b h. high_16 (number_at 2 s at) (number_lt 2 s at b) h;
  s32_low = λ s at h. to_z_pos w32 (number_at 4 s at) h;
  s32_high = λ s at b h. high_32 (number_at 4 s at) (number_lt 4 s at b) h;
  double_value = λ s at. value_of (number_at 8 s at);
  double_nan = λ s at e. ap (λ (d : Double). d.nan) (of_nan (number_at 8 s at) e);
  double_number = λ s at e. ap (λ (d : Double). d.nan) (of_number (number_at 8 s at) e);
  bits_number = bits_of_number;
  bits_nan = bits_of_nan;
  bits_plain_nan = bits_of_other_nan;
  flag_bit = bit;
}
