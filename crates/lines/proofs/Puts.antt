-- Where no epoch ends nothing is put.
use mathlib.Core.Path.{◌≡◌, refl}
use mathlib.Core.Bool.{Bool, true, false, cond}
use mathlib.Core.List.{List, []}
use Prim.Native.Nat.{ℕ, ◌+◌}
use lib.Dec.{leb}
use lib.ListN.{length}
use Rattle.wire.specs.Number.{bytes_stored}

pub nothing_stored : (buf : List ℕ) (at : ℕ) → buf ≡ bytes_stored [] buf at
unfolding bytes_stored
nothing_stored buf at = either (leb (at + 0) (length buf))
  where
    either : (t : Bool) → buf ≡ cond t buf buf
    either true = refl
    either false = refl
