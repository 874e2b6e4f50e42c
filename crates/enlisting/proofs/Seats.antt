-- The three ways to a new seat, which is one of eight. What an edit of the number of seats changes with it stands here, apart from Seating.antt,
-- which refuses it.
use mathlib.Core.Path.{◌≡◌, refl}
use mathlib.Core.Bool.{Bool, true, false, cond, not, ◌&&◌}
use mathlib.Core.List.{List}
use Prim.Native.Nat.{ℕ, ◌≤◌, ◌<◌}
use native.Mathlib.Omega.{arith}
use lib.Dec.{ltb}
use lib.ListN.{take}
use borrow.Author.Tests.{ltb-true, lt-ltb, le-ltb}
use Rattle.epochs.specs.Search.{names}
use Rattle.std.specs.Prelude.{Some, None}
use Rattle.enlisting.specs.Enlisting.{new_seat}

module _ (roster : List ℕ) (count sender : ℕ) where
  pub seat_had : names (take count roster) sender ≡ true → new_seat roster count sender ≡ None
  seat_had n = rw n

  module _ (n : names (take count roster) sender ≡ false) where
    pub seat_full : 8 ≤ count → new_seat roster count sender ≡ None
    seat_full h = rw (n, le-ltb count 8 h)

    pub seat_free : count < 8 → new_seat roster count sender ≡ Some count
    seat_free h = rw (n, lt-ltb count 8 h)

  -- it is one of eight
  pub seat_eight : {i : ℕ} → new_seat roster count sender ≡ Some i → i < 8
  seat_eight {i} e = by (not (names (take count roster) sender)) (ltb count 8) refl e
    where
      by : (new room : Bool) → ltb count 8 ≡ room → cond (new && room) (Some count) None ≡ Some i → i < 8
      by true true q e = let same : count ≡ i = cc in omega (arith, ltb-true count 8 q)
      by true false q e = let z : ◌≡◌ {A = ℕ} 0 1 = cc in absurd (omega arith)
      by false room q e = let z : ◌≡◌ {A = ℕ} 0 1 = cc in absurd (omega arith)
