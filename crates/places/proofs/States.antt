-- What the bytes of a collator stand for after a place, or a whole collator, is stored among them.
use mathlib.Core.Path.{◌≡◌, refl, sym, ap, ◌∙◌}
use mathlib.Core.Bool.{Bool, true, false}
use mathlib.Core.List.{List}
use Prim.Native.Nat.{ℕ, ◌+◌, ◌^◌, ◌≤◌, ◌<◌}
use native.Mathlib.Omega.{arith}
use lib.Dec.{ltb}
use lib.ListN.{length, get_or, set}
use borrow.Author.Rules.{rules}
use borrow.Author.Tests.{ltb-true, ltb-false}
use Rattle.layouts.specs.Field.{HeldRow, SettledRow, Row, size}
use Rattle.layouts.proofs.Fields.{length-row}
use Rattle.wire.specs.Tabulated.{tabulated}
use Rattle.epochs.specs.Collator.{idle}
use Rattle.groups.specs.declared.grouping.Part.{Part}
use Rattle.std.specs.Prelude.{Option, Some, None}
use Rattle.epochs.specs.declared.collating.Place.{Place}
use Rattle.epochs.specs.declared.collating.Collator.{Collator}
use Rattle.places.specs.State.{count_fields, seat_fields, slot, slot_fields, seats_at, places_at, state_size, seat_at, slot_at, place_of, slot_for, slot_of, place_in, place_stored, senders_in, seat_in, seats_in, state_in, count_stored, seat_row, seats_stored, place_row, collator_stored}
use Rattle.lent_rows.proofs.Parts.{decode_stored, decode_before, decode_after}
use Rattle.wire.proofs.Tables.{tabulated_set, tabulated_same, tabulated_all}
use Rattle.lent_rows.proofs.Tables.{rows_own, rows_before, length-stored}

-- ---- a place that its bytes hold

pub record SmallPart (x : Part) : Type 0 where
  pub tow : x.key.tow < 2 ^ 32
  pub wn : x.key.wn < 65536
  pub n : x.key.n < 256
  pub come : x.come < 65536
  pub total : x.total < 65536

abbrev pub SmallGroup : Option Part → Type 0
SmallGroup None = Unit {0}
SmallGroup (Some part) = SmallPart part

abbrev pub Small : Place → Type 0
Small place = SmallGroup place.group

held : (g : Option Part) → SmallGroup g → HeldRow slot_fields (slot.row (slot_for g))
held None h = search rules
held (Some part) h = search rules

settled : (g : Option Part) → SettledRow slot_fields (slot.row (slot_for g))
settled g = search rules

-- a place comes back from its numbers
back : (g : Option Part) → place_of (slot_for g) ≡ record { group = g }
back None = refl
back (Some part) = refl

-- ---- one place stored

module _ (s : List ℕ) (long : state_size ≤ length s) (i : ℕ) (h : i < 8) (place : Place) where
  room : slot_at i + size slot_fields ≤ length s
  room = omega arith

  pub own_place : Small place → place_in (place_stored s i place) i ≡ place
  own_place small =
      ap (λ (v : Row slot_fields). place_of (slot.make v))
      (decode_stored slot_fields (slot.row (slot_of place)) s (slot_at i) room (held place.group small) (settled place.group))
      ∙ back place.group

  pub other_place : (j : ℕ) → (j ≡ i → ⊥) → place_in (place_stored s i place) j ≡ place_in s j
  other_place j other = by (ltb j i) refl
    where
      by : (t : Bool) → ltb j i ≡ t → place_in (place_stored s i place) j ≡ place_in s j
      by true e =
          let below : j < i = ltb-true j i e in
          ap (λ (v : Row slot_fields). place_of (slot.make v)) (decode_before slot_fields (slot.row (slot_of place)) s (slot_at i) room slot_fields (slot_at j) (omega arith))
      by false e =
          let above : i ≤ j = ltb-false j i e in
          let apart : i < j = omega arith in
          ap (λ (v : Row slot_fields). place_of (slot.make v)) (decode_after slot_fields (slot.row (slot_of place)) s (slot_at i) room slot_fields (slot_at j) (omega arith))

  same_count : senders_in (place_stored s i place) ≡ senders_in s
  same_count = ap (λ (v : Row count_fields). v.0) (decode_before slot_fields (slot.row (slot_of place)) s (slot_at i) room count_fields 0 (omega arith))

  same_seats : seats_in (place_stored s i place) ≡ seats_in s
  same_seats =
      tabulated_same (seat_in (place_stored s i place)) (seat_in s) 8
      λ j b.
      ap (λ (v : Row seat_fields). v.0) (decode_before slot_fields (slot.row (slot_of place)) s (slot_at i) room seat_fields (seat_at j) (omega arith))

  -- the bytes stand for the same collator with that place
  pub state_place : Small place
      → state_in (place_stored s i place) ≡ record { places = set (state_in s).places i place; roster = (state_in s).roster; count = (state_in s).count }
  state_place small =
      let places : tabulated (place_in (place_stored s i place)) 8 ≡ set (tabulated (place_in s) 8) i place
      = tabulated_set (place_in s) (place_in (place_stored s i place)) 8 i h (λ k b. other_place k) ∙ ap (set (tabulated (place_in s) 8) i) (own_place small) in
      λ k. record { places = places k; roster = same_seats k; count = same_count k }

-- ---- a whole collator stored

-- a collator that its bytes hold
pub record Held (c : Collator) : Type 0 where
  pub count : c.count < 256
  pub seats : length c.roster ≡ 8
  pub senders : (i : ℕ) → i < 8 → get_or c.roster i 0 < 65536
  pub eight : length c.places ≡ 8
  pub small : (i : ℕ) → i < 8 → Small (get_or c.places i idle)

pub length-collator : (c : Collator) (s : List ℕ) → length (collator_stored c s) ≡ length s
length-collator c s =
    length-stored slot_fields (place_row c.places) (seats_stored c.roster (count_stored c.count s)) places_at 8
    ∙ length-stored seat_fields (seat_row c.roster) (count_stored c.count s) seats_at 8
    ∙ length-row count_fields (c.count, tt) s 0

module _ (c : Collator) (h : Held c) (s : List ℕ) (long : state_size ≤ length s) where
  counted_long : state_size ≤ length (count_stored c.count s)
  counted_long = omega (arith, length-row count_fields (c.count, tt) s 0)

  seated_long : state_size ≤ length (seats_stored c.roster (count_stored c.count s))
  seated_long = omega (arith, counted_long, length-stored seat_fields (seat_row c.roster) (count_stored c.count s) seats_at 8)

  count_back : senders_in (collator_stored c s) ≡ c.count
  count_back =
      let first = count_stored c.count s in
      ap (λ (v : Row count_fields). v.0)
      (rows_before slot_fields (place_row c.places) (seats_stored c.roster first) places_at count_fields 0 8 (omega (arith, seated_long)) (omega arith)
      ∙ rows_before seat_fields (seat_row c.roster) first seats_at count_fields 0 8 (omega (arith, counted_long)) (omega arith)
      ∙ decode_stored count_fields (c.count, tt) s 0 (omega arith) (record { fits = h.count }, tt) (refl, tt))

  seat_back : (j : ℕ) → j < 8 → seat_in (collator_stored c s) j ≡ get_or c.roster j 0
  seat_back j b =
      let first = count_stored c.count s in
      ap (λ (v : Row seat_fields). v.0)
      (rows_before slot_fields (place_row c.places) (seats_stored c.roster first) places_at seat_fields (seat_at j) 8 (omega (arith, seated_long)) (omega arith)
      ∙ rows_own seat_fields (seat_row c.roster) first seats_at 8 (omega (arith, counted_long)) (λ k d. ((record { fits = h.senders k d }, tt), (refl, tt))) j b)

  place_back : (j : ℕ) → j < 8 → place_in (collator_stored c s) j ≡ get_or c.places j idle
  place_back j b =
      let group : ℕ → Option Part = λ k. (get_or c.places k idle).group in
      ap (λ (v : Row slot_fields). place_of (slot.make v))
      (rows_own slot_fields (place_row c.places) (seats_stored c.roster (count_stored c.count s)) places_at 8 (omega (arith, seated_long))
      (λ k d. (held (group k) (h.small k d), settled (group k))) j b)
      ∙ back (group j)

  -- the bytes stand for that collator
  pub state_stored : state_in (collator_stored c s) ≡ c
  state_stored =
      let t = collator_stored c s in
      let seats : tabulated (seat_in t) 8 ≡ c.roster
      = ap (tabulated (seat_in t)) (sym h.seats) ∙ tabulated_all (seat_in t) c.roster 0 (λ j b. seat_back j (omega (arith, h.seats))) in
      let places : tabulated (place_in t) 8 ≡ c.places
      = ap (tabulated (place_in t)) (sym h.eight) ∙ tabulated_all (place_in t) c.places idle (λ j b. place_back j (omega (arith, h.eight))) in
      λ k. record { places = places k; roster = seats k; count = count_back k }
