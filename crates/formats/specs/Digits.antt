-- A run of fields as one number that code can carry: a hexadecimal digit for each field's format, that of the first field lowest. 1, 2 and 4 are
-- unsigned numbers of so many bytes, 10 and 12 signed ones of 2 and 4, and 8 is a double, as every other digit is; a format that no message has
-- gets 8 too. And what such a run makes of bytes and of numbers, for any digits at all.
use Rattle.std.specs.Prelude.{ℕ, zero, suc, ◌+◌, ◌*◌, ◌/◌, ◌%◌, Bool, true, cond, ◌&&◌, List, [], ◌∷◌, eqb, get_or, take, drop}
use Rattle.std.specs.Int.{w8, w16, w32, w64, w128}
use Rattle.wire.specs.Number.{stored_at}
use Rattle.wire.specs.Value.{Format, unsigned, signed, double, u8, u16, u32, s16, s32, width, value_at}
use Rattle.layouts.specs.Field.{Field, format_of}
use Rattle.layouts.specs.Layout.{Layout, run, then, bytes, text, rows}
use Rattle.formats.specs.Wide.{wide_of, fits_in}
use Rattle.formats.specs.declared.Shape.{Shape}

-- ---- a format's digit

abbrev pub format_by : ℕ → Format
format_by d = cond (eqb d 1) u8 (cond (eqb d 2) u16 (cond (eqb d 4) u32 (cond (eqb d 10) s16 (cond (eqb d 12) s32 double))))

abbrev pub digit_of : Format → ℕ
digit_of (unsigned w8) = 1
digit_of (unsigned w16) = 2
digit_of (unsigned w32) = 4
digit_of (unsigned w64) = 8
digit_of (unsigned w128) = 8
digit_of (signed w8) = 8
digit_of (signed w16) = 10
digit_of (signed w32) = 12
digit_of (signed w64) = 8
digit_of (signed w128) = 8
digit_of double = 8

-- ---- a run's digits: sixteen formats at most

abbrev pub digits_of : List Field → ℕ
digits_of [] = 0
digits_of (f ∷ fs) = digit_of (format_of f) + 16 * digits_of fs

unfoldable pub up_to : ℕ → ℕ → List Format
up_to zero digits = []
up_to (suc most) digits = cond (eqb digits 0) [] (format_by (digits % 16) ∷ up_to most (digits / 16))

abbrev pub formats_by : ℕ → List Format
formats_by digits = up_to 16 digits

-- ---- what a run of formats makes of bytes, and of the numbers from an index on

unfoldable pub size_of : List Format → ℕ
size_of [] = 0
size_of (k ∷ ks) = width k + size_of ks

-- the numbers in the bytes from an offset on
unfoldable pub numbers_at : List Format → List ℕ → ℕ → List ℕ
numbers_at [] s at = []
numbers_at (k ∷ ks) s at = wide_of k (value_at k s at) ∷ numbers_at ks s (at + width k)

unfoldable pub run_fits : List Format → List ℕ → ℕ → Bool
run_fits [] ns i = true
run_fits (k ∷ ks) ns i = fits_in k (get_or ns i 0) && run_fits ks ns (suc i)

-- a buffer with the numbers stored from an offset on, each in its format's bytes
unfoldable pub run_stored : List Format → List ℕ → ℕ → List ℕ → ℕ → List ℕ
run_stored [] ns i buf at = buf
run_stored (k ∷ ks) ns i buf at = run_stored ks ns (suc i) (stored_at (width k) (get_or ns i 0) buf at) (at + width k)

-- ---- a layout's shape: the digits of its first sixteen fields, of those after, and of what is repeated to the end, which for bytes is one byte

-- a text with its zeros, in place of what is repeated: no format has this digit
abbrev pub text_digit : ℕ
text_digit = 15

abbrev pub repeated : Layout → ℕ
repeated (run fs) = 0
repeated (then fs l) = repeated l
repeated (bytes most) = 1
repeated (text most) = text_digit
repeated (rows fs most) = digits_of fs

abbrev pub front_of : Layout → List Field
front_of (run fs) = fs
front_of (then fs l) = fs
front_of (bytes most) = []
front_of (text most) = []
front_of (rows fs most) = []

abbrev pub shape_of : Layout → Shape
shape_of l = record { head = digits_of (take 16 (front_of l)); more = digits_of (drop 16 (front_of l)); each = repeated l }
