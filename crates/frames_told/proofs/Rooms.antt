-- A row that has room is stored at the front of what is lent; else the answer is 32, and nothing is stored.
use mathlib.Core.Path.{◌≡◌, refl}
use mathlib.Core.Bool.{Bool, true, false}
use mathlib.Core.List.{List}
use mathlib.Core.Logic.{◌↔◌}
use Prim.Native.Nat.{ℕ, ◌≤◌, ◌<◌}
use native.Mathlib.Omega.{arith}
use lib.Dec.{leb}
use lib.ListN.{length, drop, length-append, length-drop}
use lib.Seq.{drop_at}
use borrow.Author.Tests.{le-leb, lt-leb, leb-true, leb-false}
use Rattle.refusals.specs.Refusals.{ordered, leaves, as_number, room_for}
use Rattle.layouts.specs.Field.{Field, Row, size, encode}
use Rattle.layouts.proofs.Fields.{length-encode}
use Rattle.lent_rows.specs.Lent.{at_front}
use Rattle.frames_told.specs.FramesTold.{OnlyFirst}

module _ {A : Type 0} (x : A) where
  -- ---- the number

  module _ (number : A → ℕ) (n room : ℕ) where
    abbrev answer : ℕ
    answer = as_number number (ordered (room_for n room) x)

    pub with_room : n ≤ room → answer ≡ number x
    with_room h = rw (le-leb n room h)

    without_room : room < n → answer ≡ 32
    without_room h = rw (lt-leb n room h)

    -- 32 is no number of its own
    pub exactly_32 : number x < 32 → (answer ≡ 32) ↔ (room < n)
    exactly_32 own = (by (leb n room) refl, without_room)
      where
        by : (t : Bool) → leb n room ≡ t → answer ≡ 32 → room < n
        by true q e = absurd (omega (arith, with_room (leb-true n room q)))
        by false q e = leb-false n room q

    pub exactly_0 : number x ≡ 0 → (answer ≡ 0) ↔ (n ≤ room)
    exactly_0 own = (by (leb n room) refl, λ h. omega (arith, with_room h))
      where
        by : (t : Bool) → leb n room ≡ t → answer ≡ 0 → n ≤ room
        by true q e = leb-true n room q
        by false q e = absurd (omega (arith, without_room (leb-false n room q)))

  -- ---- the row

  module _ (fs : List Field) (values : A → Row fs) (buf : List ℕ) where
    abbrev left : List ℕ
    left = leaves (λ y. at_front fs (values y)) (ordered (room_for (size fs) (length buf)) x) buf

    pub only_first : size fs ≤ length buf → OnlyFirst (size fs) buf left
    only_first h =
        let row = encode fs (values x) in
        let long = length-encode fs (values x) in
        rw (le-leb (size fs) (length buf) h) (
          drop_at row (drop (size fs) buf) (size fs) long,
          omega (arith, long, length-append row (drop (size fs) buf), length-drop (size fs) buf),
        )

    pub untouched : length buf < size fs → left ≡ buf
    untouched h = rw (lt-leb (size fs) (length buf) h)
