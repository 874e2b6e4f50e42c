-- One value: formats, the bits of a value as a number, and both ways between a value and bytes.
use Rattle.std.specs.Prelude.{ℕ, ◌/◌, ◌^◌, ◌<◌, ◌≡◌, List, ℤ, T}
use Rattle.std.specs.Float.{binary64}
use Rattle.std.specs.Float.Ieee.{fits}
use Rattle.std.specs.Int.{Width, w8, w16, w32, w64}
use mir.Val.{bits, Fits, SFits, to_z, of_z}
use Rattle.wire.specs.Number.{number_at, stored_at}
use Rattle.wire.specs.Double.{double_of, double_bits}
use Rattle.wire.specs.declared.double.Double.{Double}

pub data Format : Type 0 where
  unsigned signed : Width → Format
  double : Format

abbrev pub u8 : Format
u8 = unsigned w8

abbrev pub u16 : Format
u16 = unsigned w16

abbrev pub u32 : Format
u32 = unsigned w32

abbrev pub u64 : Format
u64 = unsigned w64

abbrev pub s16 : Format
s16 = signed w16

abbrev pub s32 : Format
s32 = signed w32

-- how many bytes a format takes
abbrev pub width : Format → ℕ
width (unsigned w) = bits w / 8
width (signed w) = bits w / 8
width double = 8

abbrev pub Value : Format → Type 0
Value (unsigned w) = ℕ
Value (signed w) = ℤ
Value double = Double

-- what a value's type holds: every value that a program can have
abbrev pub Held : (k : Format) → Value k → Type 0
Held (unsigned w) n = Fits w n
Held (signed w) z = SFits w z
Held double d = T (fits binary64 d.value) × (d.nan < 2 ^ 64)

-- the bits of a value as a number, and back; signed numbers are in two's complement
abbrev pub bits_of : (k : Format) → Value k → ℕ
bits_of (unsigned w) n = n
bits_of (signed w) z = of_z w z
bits_of double d = double_bits d

abbrev pub value_of : (k : Format) → ℕ → Value k
value_of (unsigned w) n = n
value_of (signed w) n = to_z w n
value_of double n = double_of n

-- what its own bits stand for: every whole number is, and every double that was read
abbrev pub Settled : (k : Format) → Value k → Type 0
Settled k v = value_of k (bits_of k v) ≡ v

-- the value at an offset, and s with a value stored at an offset
abbrev pub value_at : (k : Format) → List ℕ → ℕ → Value k
value_at k s at = value_of k (number_at (width k) s at)

abbrev pub value_stored : (k : Format) → Value k → List ℕ → ℕ → List ℕ
value_stored k v s at = stored_at (width k) (bits_of k v) s at
