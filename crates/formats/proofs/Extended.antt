-- A signed number as the bits of 64, extended by its sign.
use mathlib.Core.Path.{◌≡◌, ap, ◌∙◌}
use Prim.Native.Nat.{ℕ, ◌^◌, ◌≤◌, ◌<◌}
use lib.IntN.{ℤ}
use lib.Signed.{mag}
use mir.Syntax.{Width, w64}
use mir.Val.{hbits, to_z, of_z}
use Rattle.wire.proofs.Signed.{came_back, widened}

pub extended : (w : Width) {r : ℕ} {z y : ℤ} → hbits w ≤ hbits w64 → mag z < 2 ^ hbits w → r ≡ of_z w64 (to_z w64 (of_z w64 (to_z w (of_z w z)))) → z ≡ y → r ≡ of_z w64 y
extended w {z = z} wide h e same = e ∙ ap (of_z w64) (came_back w64 (widened w w64 z wide (record { sfits = h })).sfits (came_back w h same))
