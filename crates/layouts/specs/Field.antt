-- Fields: runs of them, a row of their values, and both ways between a row and bytes.
use Rattle.std.specs.Prelude.{ℕ, ◌+◌, Bool, true, ◌&&◌, List, [], ◌∷◌, ◌++◌, ℤ}
use Rattle.std.specs.Int.{Width}
use Rattle.wire.specs.Number.{bytes_of}
use Rattle.wire.specs.Value.{Format, unsigned, signed, width, Value, Held, bits_of, Settled, value_at, value_stored}

-- a field takes any value of its format, or a whole number that passes a range test
pub data Field : Type 0 where
  any : Format → Field
  ranged : Width → (ℕ → Bool) → Field
  ranged_signed : Width → (ℤ → Bool) → Field

abbrev pub format_of : Field → Format
format_of (any k) = k
format_of (ranged w ok) = unsigned w
format_of (ranged_signed w ok) = signed w

abbrev pub allowed : (f : Field) → Value (format_of f) → Bool
allowed (any k) v = true
allowed (ranged w ok) n = ok n
allowed (ranged_signed w ok) z = ok z

abbrev pub Row : List Field → Type 0
Row [] = Unit {0}
Row (f ∷ fs) = Value (format_of f) × Row fs

abbrev pub HeldRow : (fs : List Field) → Row fs → Type 0
HeldRow [] v = Unit {0}
HeldRow (f ∷ fs) v = Held (format_of f) v.0 × HeldRow fs v.1

abbrev pub SettledRow : (fs : List Field) → Row fs → Type 0
SettledRow [] v = Unit {0}
SettledRow (f ∷ fs) v = Settled (format_of f) v.0 × SettledRow fs v.1

-- every ranged field is in its range
abbrev pub allowed_row : (fs : List Field) → Row fs → Bool
allowed_row [] v = true
allowed_row (f ∷ fs) v = allowed f v.0 && allowed_row fs v.1

-- the bits of each value
abbrev pub row_bits : (fs : List Field) → Row fs → List ℕ
row_bits [] v = []
row_bits (f ∷ fs) v = bits_of (format_of f) v.0 ∷ row_bits fs v.1

-- how many bytes a row takes
abbrev pub size : List Field → ℕ
size [] = 0
size (f ∷ fs) = width (format_of f) + size fs

-- the bytes of a row: its values one after the other
abbrev pub encode : (fs : List Field) → Row fs → List ℕ
encode [] v = []
encode (f ∷ fs) v = bytes_of (width (format_of f)) (bits_of (format_of f) v.0) ++ encode fs v.1

-- the row at an offset
abbrev pub decode : (fs : List Field) → List ℕ → ℕ → Row fs
decode [] s at = tt
decode (f ∷ fs) s at = (value_at (format_of f) s at, decode fs s (at + width (format_of f)))

-- s with a row stored at an offset, value after value
abbrev pub row_stored : (fs : List Field) → Row fs → List ℕ → ℕ → List ℕ
row_stored [] v s at = s
row_stored (f ∷ fs) v s at = row_stored fs v.1 (value_stored (format_of f) v.0 s at) (at + width (format_of f))
