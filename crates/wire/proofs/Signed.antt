-- A signed number as the machine carries it.
use mathlib.Core.Path.{◌≡◌, ◌∙◌}
use Prim.Native.Nat.{◌^◌, ◌≤◌, ◌<◌}
use native.Mathlib.Nat.{lt_of_lt_of_le}
use lib.IntN.{ℤ}
use lib.Signed.{mag}
use lib.Pow.{pow_mono}
use mir.Syntax.{Width}
use mir.Val.{hbits, SFits, to_z, of_z}
use mir.ValLaws.{to_z-of_z}

-- a cast to a wider signed type
pub widened : (w v : Width) (z : ℤ) → hbits w ≤ hbits v → SFits w z → SFits v (to_z w (of_z w z))
widened w v z h f = rw (to_z-of_z w z f) (record { sfits = lt_of_lt_of_le f.sfits (pow_mono h) })

-- a signed result, as the machine carries it
pub came_back : (w : Width) {z y : ℤ} → mag z < 2 ^ hbits w → z ≡ y → to_z w (of_z w z) ≡ y
came_back w {z} h e = to_z-of_z w z (record { sfits = h }) ∙ e
