-- Values as numbers of 64 bits, as C and Rust have them in a row: unsigned as they are, signed sign-extended, doubles as their bits.
use Rattle.std.specs.Prelude.{ℕ, zero, suc, ◌+◌, ◌-◌, ◌^◌, Bool, true, ◌&&◌, ◌||◌, List, [], ◌∷◌, ◌++◌, leb, ltb, length, get_or}
use Rattle.std.specs.Int.{w64}
use mir.Val.{bits, to_z, of_z}
use Rattle.wire.specs.Double.{double_of, double_bits}
use Rattle.wire.specs.Value.{Format, unsigned, signed, double, Value}
use Rattle.layouts.specs.Field.{Field, format_of, Row}
use Rattle.layouts.specs.Layout.{Layout, run, then, bytes, text, rows, Body}

-- ---- one value

abbrev pub wide_of : (k : Format) → Value k → ℕ
wide_of (unsigned w) n = n
wide_of (signed w) z = of_z w64 z
wide_of double d = double_bits d

-- the value that a number stands for
abbrev pub narrow_to : (k : Format) → ℕ → Value k
narrow_to (unsigned w) n = n
narrow_to (signed w) n = to_z w64 n
narrow_to double n = double_of n

-- the format has that value: unsigned below its power of two, signed with all upper bits like the sign
abbrev pub fits_in : Format → ℕ → Bool
fits_in (unsigned w) n = ltb n (2 ^ bits w)
fits_in (signed w) n = ltb n (2 ^ (bits w - 1)) || leb (2 ^ 64 - 2 ^ (bits w - 1)) n
fits_in double n = true

-- ---- a row

abbrev pub wide_row : (fs : List Field) → Row fs → List ℕ
wide_row [] v = []
wide_row (f ∷ fs) v = wide_of (format_of f) v.0 ∷ wide_row fs v.1

-- the row of the numbers from an index on
abbrev pub narrow_row : (fs : List Field) → List ℕ → ℕ → Row fs
narrow_row [] ns i = tt
narrow_row (f ∷ fs) ns i = (narrow_to (format_of f) (get_or ns i 0), narrow_row fs ns (suc i))

abbrev pub fits_row : List Field → List ℕ → ℕ → Bool
fits_row [] ns i = true
fits_row (f ∷ fs) ns i = fits_in (format_of f) (get_or ns i 0) && fits_row fs ns (suc i)

-- ---- k rows one after the other

abbrev pub narrow_rows : (fs : List Field) → ℕ → List ℕ → ℕ → List (Row fs)
narrow_rows fs zero ns i = []
narrow_rows fs (suc k) ns i = narrow_row fs ns i ∷ narrow_rows fs k ns (i + length fs)

abbrev pub fits_rows : List Field → ℕ → List ℕ → ℕ → Bool
fits_rows fs zero ns i = true
fits_rows fs (suc k) ns i = fits_row fs ns i && fits_rows fs k ns (i + length fs)

-- ---- a layout's value: of the bytes or rows at its end, how many; of a text its length and that of the zeros after it

abbrev pub wide_body : (l : Layout) → Body l → List ℕ
wide_body (run fs) v = wide_row fs v
wide_body (then fs l) v = wide_row fs v.0 ++ wide_body l v.1
wide_body (bytes most) v = length v ∷ []
wide_body (text most) v = length v.0 ∷ length v.1 ∷ []
wide_body (rows fs most) v = length v ∷ []

-- how many numbers that are
abbrev pub number_count : Layout → ℕ
number_count (run fs) = length fs
number_count (then fs l) = length fs + number_count l
number_count (bytes most) = 1
number_count (text most) = 2
number_count (rows fs most) = 1
