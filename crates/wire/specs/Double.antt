-- A double kept to the bit. The logic has one NaN, so the pattern of a NaN stands beside the value.
use Rattle.std.specs.Prelude.{ℕ, cond}
use Rattle.std.specs.Float.{binary64}
use Rattle.std.specs.Float.Ieee.{of_bits, to_bits, is_nan, nan_bits}
use Rattle.wire.specs.declared.double.Double.{Double}

-- what 64 bits stand for: their value, and the bits themselves where that is a NaN
unfoldable pub double_of : ℕ → Double
double_of n = record { value = of_bits binary64 n; nan = cond (nan_bits binary64 n) n 0 }

-- the pattern of a NaN that no reading made
abbrev pub plain_nan : ℕ
plain_nan = 0x7ff8000000000000

-- the 64 bits of a double
unfoldable pub double_bits : Double → ℕ
double_bits d =
    cond (is_nan d.value)
    (cond (nan_bits binary64 d.nan) d.nan plain_nan)
    (to_bits binary64 d.value)
