-- A collator in 113 bytes: how many senders are listed, the eight seats of the roster, the eight places.
use Rattle.std.specs.Prelude.{ℕ, ◌+◌, ◌*◌, refl, cond, List, [], ◌∷◌, eqb, get_or, Option, Some, None}
use Rattle.wire.specs.Number.{number_at}
use Rattle.wire.specs.Value.{u8, u16, u32}
use Rattle.layouts.specs.Field.{Field, any, Row, size, row_stored}
use Rattle.layouts.specs.Description.{Part}
use Rattle.layouts.specs.Together.{taken_at, put_at}
use Rattle.wire.specs.Tabulated.{tabulated}
use Rattle.epochs.specs.Collator.{idle}
use Rattle.groups.specs.declared.grouping.Part as groups
use Rattle.epochs.specs.declared.collating.Place.{Place}
use Rattle.epochs.specs.declared.collating.Collator.{Collator}
use Rattle.lent_rows.specs.Lent.{first_rows_stored}

-- ---- where the parts stand

abbrev pub count_fields : List Field
count_fields = any u8 ∷ []

abbrev pub seat_fields : List Field
seat_fields = any u16 ∷ []

-- a place as numbers; opened is 0 for one that is idle
pub record Slot : Type 0 where
  pub opened : ℕ
  pub tow : ℕ
  pub wn : ℕ
  pub n : ℕ
  pub come : ℕ
  pub total : ℕ

abbrev pub slot : Part Slot
slot = record {
  fields = any u8 ∷ any u32 ∷ any u16 ∷ any u8 ∷ any u16 ∷ any u16 ∷ [];
  row = λ r. (r.opened, (r.tow, (r.wn, (r.n, (r.come, (r.total, tt))))));
  make = λ v. record { opened = v.0; tow = v.1.0; wn = v.1.1.0; n = v.1.1.1.0; come = v.1.1.1.1.0; total = v.1.1.1.1.1.0 };
  row_make = λ v. refl;
  make_row = λ r. refl;
}

abbrev pub slot_fields : List Field
slot_fields = slot.fields

abbrev pub seats_at : ℕ
seats_at = size count_fields

abbrev pub places_at : ℕ
places_at = seats_at + 8 * size seat_fields

abbrev pub state_size : ℕ
state_size = places_at + 8 * size slot_fields

-- where seat i and place i begin
abbrev pub seat_at : ℕ → ℕ
seat_at i = seats_at + i * size seat_fields

abbrev pub slot_at : ℕ → ℕ
slot_at i = places_at + i * size slot_fields

-- ---- one place

-- idle where opened is 0
abbrev pub place_of : Slot → Place
place_of x =
    cond (eqb x.opened 0) idle
    (record { group = Some (record { key = record { tow = x.tow; wn = x.wn; n = x.n }; come = x.come; total = x.total }) })

abbrev pub slot_for : Option groups.Part → Slot
slot_for None = record { opened = 0; tow = 0; wn = 0; n = 0; come = 0; total = 0 }
slot_for (Some part) = record { opened = 1; tow = part.key.tow; wn = part.key.wn; n = part.key.n; come = part.come; total = part.total }

abbrev pub slot_of : Place → Slot
slot_of place = slot_for place.group

abbrev pub slot_in : List ℕ → ℕ → Slot
slot_in s i = taken_at slot s (slot_at i)

abbrev pub slot_stored : List ℕ → ℕ → Slot → List ℕ
slot_stored s i x = put_at slot x s (slot_at i)

abbrev pub place_in : List ℕ → ℕ → Place
place_in s i = place_of (slot_in s i)

abbrev pub place_stored : List ℕ → ℕ → Place → List ℕ
place_stored s i place = slot_stored s i (slot_of place)

-- ---- what the bytes stand for; `tabulated f 8` is f at 0, 1, .. 7

abbrev pub senders_in : List ℕ → ℕ
senders_in s = number_at 1 s 0

abbrev pub seat_in : List ℕ → ℕ → ℕ
seat_in s i = number_at 2 s (seat_at i)

abbrev pub seats_in : List ℕ → List ℕ
seats_in s = tabulated (seat_in s) 8

abbrev pub state_in : List ℕ → Collator
state_in s = record { places = tabulated (place_in s) 8; roster = seats_in s; count = senders_in s }

-- ---- a collator stored

abbrev pub count_stored : ℕ → List ℕ → List ℕ
count_stored n s = row_stored count_fields (n, tt) s 0

abbrev pub seat_row : List ℕ → ℕ → Row seat_fields
seat_row roster i = (get_or roster i 0, tt)

abbrev pub seats_stored : List ℕ → List ℕ → List ℕ
seats_stored roster s = first_rows_stored seat_fields (seat_row roster) 8 s seats_at

abbrev pub place_row : List Place → ℕ → Row slot_fields
place_row places i = slot.row (slot_of (get_or places i idle))

abbrev pub places_stored : List Place → List ℕ → List ℕ
places_stored places s = first_rows_stored slot_fields (place_row places) 8 s places_at

abbrev pub collator_stored : Collator → List ℕ → List ℕ
collator_stored c s = places_stored c.places (seats_stored c.roster (count_stored c.count s))
