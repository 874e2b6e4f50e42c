-- A field as a number of 64 bits, by its format, in numerals; and which types are written from a row.
use Rattle.std.specs.Prelude.{ℕ, ◌+◌, ◌≡◌, true, cond, ◌&&◌, ◌||◌, List, [], ◌∷◌, ltb, leb}
use Rattle.wire.specs.Number.{Bytes, number_at}
use Rattle.wire.specs.Value.{u8, u16, u32, s16, s32, double, value_at}
use Rattle.formats.specs.Wide.{wide_of, fits_in}
use Rattle.payloads.specs.Payloads.{known_for, layout_for}
use Rattle.row_writer.specs.WriteRow.{alone}
use Rattle.rows_back.specs.ObsRows.{widened}

-- 16 bits in two's complement as 64
abbrev pub widened16 : ℕ → ℕ
widened16 n = cond (ltb n 0x8000) n (n + 0xffffffffffff0000)

-- the types of 24 but OBS and LOG
abbrev pub row_types : List ℕ
row_types =
    0x0100 ∷ 0x0206 ∷ 0x0200 ∷ 0x0201 ∷ 0x0202 ∷ 0x0204 ∷ 0x0203 ∷ 0x0205 ∷ 0x0207 ∷ 0x0044 ∷ 0x0048 ∷
    0x0081 ∷ 0x0082 ∷ 0x0083 ∷ 0x0090 ∷ 0x0091 ∷ 0x0092 ∷ 0x00a1 ∷ 0x00a6 ∷ 0x00a2 ∷ 0xff00 ∷ 0xffff ∷ []

abbrev pub AllWritten : List ℕ → Type 0
AllWritten [] = Unit {0}
AllWritten (kind ∷ kinds) = ((known_for kind && alone (layout_for kind)) ≡ true) × AllWritten kinds

pub record FieldRows : Type 0 where
  -- what stands in a row for the field at an offset
  pub shown_u8 : (s : List ℕ) (at : ℕ) → wide_of u8 (value_at u8 s at) ≡ number_at 1 s at
  pub shown_u16 : (s : List ℕ) (at : ℕ) → wide_of u16 (value_at u16 s at) ≡ number_at 2 s at
  pub shown_u32 : (s : List ℕ) (at : ℕ) → wide_of u32 (value_at u32 s at) ≡ number_at 4 s at
  pub shown_s16 : (s : List ℕ) (at : ℕ) → Bytes s → wide_of s16 (value_at s16 s at) ≡ widened16 (number_at 2 s at)
  pub shown_s32 : (s : List ℕ) (at : ℕ) → Bytes s → wide_of s32 (value_at s32 s at) ≡ widened (number_at 4 s at)
  pub shown_double : (s : List ℕ) (at : ℕ) → Bytes s → wide_of double (value_at double s at) ≡ number_at 8 s at
  -- which numbers a field takes
  pub takes_u8 : (n : ℕ) → fits_in u8 n ≡ ltb n 0x100
  pub takes_u16 : (n : ℕ) → fits_in u16 n ≡ ltb n 0x10000
  pub takes_u32 : (n : ℕ) → fits_in u32 n ≡ ltb n 0x100000000
  pub takes_s16 : (n : ℕ) → fits_in s16 n ≡ ltb n 0x8000 || leb 0xffffffffffff8000 n
  pub takes_s32 : (n : ℕ) → fits_in s32 n ≡ ltb n 0x80000000 || leb 0xffffffff80000000 n
  pub takes_double : (n : ℕ) → fits_in double n ≡ true
  -- every message without a tail is written from its row
  pub written : AllWritten row_types
