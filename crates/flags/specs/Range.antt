-- The ranges of document 01.
use Rattle.std.specs.Prelude.{ℕ, ◌%◌, Bool, ◌&&◌, leb, ℤ, pos, negsuc}
use Rattle.std.specs.Int.Signed.{le_z}

-- GPS_TIME's ns: from -500000 to 500000
unfoldable pub in_ns : ℤ → Bool
in_ns ns = le_z (negsuc 499999) ns && le_z ns (pos 500000)

-- the fix mode, the low three bits of flags, from 0 to the last
unfoldable pub fix_up_to : ℕ → ℕ → Bool
fix_up_to last flags = leb (flags % 8) last
