-- Document 01, "Order" and "Numbers given back", number by number: of each call the numbers of its refusals in order, and when each is given.
-- A call is refused exactly when one of its own cases holds, by the first (`in_order`, Demand1.antt).
use Rattle.std.specs.Prelude.{ℕ, ◌+◌, ◌-◌, ◌*◌, ◌/◌, ◌%◌, ◌^◌, ◌≤◌, ◌<◌, ◌≡◌, Bool, true, false, cond, ◌&&◌, List, [], ◌∷◌, ◌++◌, ◌↔◌, ◌⊎◌, ℤ, pos, neg_ℤ, leb, eqb, length, get_or, drop, Option, Some, None}
use Rattle.std.specs.Int.Signed.{le_z}
use Rattle.wire.specs.Number.{number_at}
use Rattle.refusals.specs.Refusals.{Tests, Call}
use Rattle.layouts.specs.Layout.{LengthOf, allowed_body, decode_body, few_enough, body_size}
use Rattle.layouts.specs.Description.{Description, reading}
use Rattle.frames.specs.Frame.{Content}
use Rattle.frames.specs.Reading.{steps, frames_of}
use Rattle.frame_writer.specs.Writer.{planning}
use Rattle.frame_writer.specs.Faithful.{writing}
use Rattle.phases.specs.Phase.{reading_phase}
use Rattle.observation.specs.Edition.{first}
use Rattle.observation.specs.Obs.{one_observation, one_of_frame, reading_obs}
use Rattle.obs_writer.specs.ObsWriter.{writing_obs}
use Rattle.payloads.specs.Payloads.{known_for, layout_for, reading_any}
use Rattle.padded.specs.Padded.{all_zero, from_zero}
use Rattle.wire.specs.Value.{u8, s32, value_at}
use Rattle.payloads.specs.declared.check.Check.{Check}
use Rattle.payloads.specs.declared.check.Check.TheVariants as C
use Rattle.formats.specs.Wide.{fits_row, fits_rows, number_count}
use Rattle.formats.specs.Digits.{front_of}
use Rattle.row_reader.specs.ReadRow.{reading_row, reading_one}
use Rattle.row_writer.specs.WriteRow.{alone, body_of, writing_row}
use Rattle.row_writer.specs.WriteObsRow.{writing_obs_row}
use Rattle.epochs.specs.Search.{seat_of}
use Rattle.groups.specs.declared.grouping.Part.{Part}
use Rattle.epochs.specs.Collator.{seat_number, placing, idle, feeding, rostering, roster_of}
use Rattle.epochs.specs.declared.collating.Collator.{Collator}
use Rattle.listing.specs.Listing.{text_of, listing}
use Rattle.frame_rows.specs.Found.{finding}
use Rattle.frame_rows.specs.Totals.{totalling}
use Rattle.index.specs.Index.{extending, asking, counting}
use Rattle.index.specs.declared.entry.Entry.{Entry}
use Rattle.index.specs.declared.index.Index.{Index}
use Rattle.lent_index.specs.Bytes.{in_bytes}
use Rattle.indexed.specs.Growing.{counted_kinds}
use Rattle.indexed.specs.Asking.{Among}
use Rattle.places.specs.State.{state_in}
use Rattle.states.specs.Feed.{making, feeding_in}
use Rattle.states.specs.Enlist.{growing, enlisting}

-- a number, and the case in which a call is refused by it
abbrev pub Cases : Type 1
Cases = List (ℕ × Type 0)

-- the tests of a call are these cases, in this order
abbrev pub InOrder : Cases → Tests → Type 0
InOrder [] [] = Unit {0}
InOrder [] (t ∷ ts) = ⊥
InOrder (c ∷ cs) [] = ⊥
InOrder (c ∷ cs) (t ∷ ts) = (t.1 ≡ c.0) × ((t.0 ≡ false) ↔ c.1) × InOrder cs ts

-- ---- the cases of several calls

abbrev pub Not : Type 0 → Type 0
Not P = P → ⊥

-- "16k + 7, k 0..15"
abbrev pub ObsLength : ℕ → Type 0
ObsLength n = (k : ℕ) × (k ≤ 15) × (n ≡ 16 * k + 7)

-- "names a sender twice"
abbrev pub NamesTwice : List ℕ → Type 0
NamesTwice roster = (i : ℕ) × (j : ℕ) × (i < j) × (j < length roster) × (get_or roster i 0 ≡ get_or roster j 0)

-- "sender not on the roster"
abbrev pub Unlisted : List ℕ → ℕ → Type 0
Unlisted roster sender = (i : ℕ) → i < length roster → get_or roster i 0 ≡ sender → ⊥

-- n_obs is byte 6: its upper four bits are n, the lower four i
abbrev pub n_in : List ℕ → ℕ
n_in payload = number_at 1 payload 6 / 16

abbrev pub counter_in : List ℕ → ℕ
counter_in payload = number_at 1 payload 6 % 16

-- a roster, and a frame to a roster
abbrev pub roster_cases : List ℕ → Cases
roster_cases roster = (41, (length roster ≡ 0) ⊎ (8 < length roster)) ∷ (42, NamesTwice roster) ∷ []

abbrev pub frame_cases : List ℕ → Content → Cases
frame_cases roster x =
    (46, Not (x.kind ≡ 0x0049)) ∷
    (22, Not (ObsLength (length x.payload))) ∷
    (43, Unlisted roster x.sender) ∷
    (44, n_in x.payload ≡ 0) ∷
    (45, n_in x.payload ≤ counter_in x.payload) ∷
    []

-- document 02, P7: "whose counter has come already", at the sender's own place, which is open with the frame's tow, wn and n; bit i is counter i
pub record HasCome (c : Collator) (x : Content) : Type 0 where
  pub part : Part
  pub open_there : (get_or c.places (seat_number (seat_of (roster_of c) x.sender 0)) idle).group ≡ Some part
  pub tow : part.key.tow ≡ number_at 4 x.payload 0
  pub wn : part.key.wn ≡ number_at 2 x.payload 4
  pub n : part.key.n ≡ n_in x.payload
  pub bit : part.come / 2 ^ counter_in x.payload % 2 ≡ 1

abbrev pub feed_cases : Collator → Content → Cases
feed_cases c x = frame_cases (roster_of c) x ++ (47, HasCome c x) ∷ []

-- one observation, of a payload of k
abbrev pub index_cases : List ℕ → ℕ → Cases
index_cases s i = (22, Not (ObsLength (length s))) ∷ (25, (length s - 7) / 16 ≤ i) ∷ []

-- bytes for a buffer
abbrev pub buffer_cases : ℕ → ℕ → Cases
buffer_cases n room = (31, 255 < n) ∷ (32, room < n + 8) ∷ []

abbrev pub room_cases : ℕ → ℕ → Cases
room_cases n room = (32, room < n) ∷ []

-- document 01's columns Type and Length, and where its ranges lie, once more: no contract cites these. ns or flags stand at the offset that is named
-- second, and the fix mode goes up to what is named third
abbrev pub columns : List (ℕ × Check)
columns =
    (0x0049, C.Obs) ∷
    (0x0100, C.Ns 11 6) ∷
    (0x0206, C.Length 14) ∷
    (0x0200, C.Fix 32 31 2) ∷
    (0x0201, C.Fix 34 33 2) ∷
    (0x0202, C.Fix 20 19 1) ∷
    (0x0204, C.Length 20) ∷
    (0x0203, C.Fix 22 21 1) ∷
    (0x0205, C.Length 22) ∷
    (0x0207, C.Fix 10 9 1) ∷
    (0x0044, C.Length 24) ∷
    (0x0048, C.Length 24) ∷
    (0x0081, C.Length 185) ∷
    (0x0082, C.Length 112) ∷
    (0x0083, C.Length 112) ∷
    (0x0090, C.Length 70) ∷
    (0x0091, C.Length 10) ∷
    (0x0092, C.Length 14) ∷
    (0x00a1, C.Length 0) ∷
    (0x00a6, C.Length 0) ∷
    (0x00a2, C.Length 2) ∷
    (0xff00, C.Length 4) ∷
    (0xffff, C.Length 4) ∷
    (0x0401, C.Log) ∷
    []

unfoldable pub column_of : List (ℕ × Check) → ℕ → Option Check
column_of [] kind = None
column_of (c ∷ cs) kind = cond (eqb kind c.0) (Some c.1) (column_of cs kind)

-- what a payload is tested for by its column: 21 for a type that is not there
abbrev pub column_tests : Option Check → List ℕ → Tests
column_tests None s = (false, 21) ∷ []
column_tests (Some (C.Length n)) s = (true, 21) ∷ (eqb (length s) n, 22) ∷ (true, 23) ∷ []
column_tests (Some (C.Ns n at)) s =
    let ns = value_at s32 s at in (true, 21) ∷ (eqb (length s) n, 22) ∷ (le_z (neg_ℤ (pos 500000)) ns && le_z ns (pos 500000), 23) ∷ []
column_tests (Some (C.Fix n at last)) s = (true, 21) ∷ (eqb (length s) n, 22) ∷ (leb (value_at u8 s at % 8) last, 23) ∷ []
column_tests (Some C.Obs) s = (true, 21) ∷ (eqb (length s % 16) 7 && leb (length s) 247, 22) ∷ (true, 23) ∷ []
column_tests (Some C.Log) s = (true, 21) ∷ (leb 1 (length s) && leb (length s) 255, 22) ∷ (all_zero (from_zero (drop 1 s)), 23) ∷ []

pub record Order : Type 1 where
  -- "Reading: 21, 22, 23." By document 01's table; and of the reader of one type
  pub any_payload : (kind : ℕ) (s : List ℕ) → (reading_any kind s).tests ≡ column_tests (column_of columns kind) s
  pub payload : (R : Type 0) (d : Description R) (s : List ℕ)
      → InOrder ((22, Not (LengthOf d.layout (length s))) ∷ (23, allowed_body d.layout (decode_body d.layout s) ≡ false) ∷ []) (reading d s).tests
  pub obs_payload : (s : List ℕ) → InOrder ((22, Not (ObsLength (length s))) ∷ []) (reading_obs s).tests
  -- "One observation: 22, 25."; of a frame's payload 21 before them
  pub index : (s : List ℕ) (i : ℕ) → InOrder (index_cases s i) (one_observation first s i).tests
  pub frame_index : (kind : ℕ) (s : List ℕ) (i : ℕ) → InOrder ((21, Not (kind ≡ 0x0049)) ∷ index_cases s i) (one_of_frame kind s i).tests
  -- "Writing: 23, 31, 32."; 31 is for too many bytes or rows too
  pub record_buffer : (R : Type 0) (d : Description R) (r : R) (room : ℕ)
      → let v = d.row r in
      InOrder ((23, allowed_body d.layout v ≡ false) ∷ (31, few_enough d.layout v ≡ false) ∷ buffer_cases (body_size d.layout v) room) (writing d r room).tests
  pub obs_buffer : (k room : ℕ) → InOrder ((31, 15 < k) ∷ buffer_cases (16 * k + 7) room) (writing_obs first k room).tests
  pub bytes_buffer : (n room : ℕ) → InOrder (buffer_cases n room) (planning n room).tests
  -- "Roster: 41, 42."
  pub roster : (roster : List ℕ) → InOrder (roster_cases roster) (rostering roster).tests
  -- "Feeding: 46, 22, 43, 44, 45.", then 47, which looks at the collator's place
  pub frame : (c : Collator) (x : Content) → InOrder (feed_cases c x) (feeding c x).tests
  pub frame_place : (roster : List ℕ) (x : Content) → InOrder (frame_cases roster x) (placing roster x).tests
  -- 33: outside -549755813888 to 549755813887
  pub phase : (z : ℤ) → InOrder ((33, (le_z (neg_ℤ (pos 549755813888)) z && le_z z (pos 549755813887)) ≡ false) ∷ []) (reading_phase z).tests
  -- 11, then 32 for the text
  pub capture : (s : List ℕ) (room : ℕ) → InOrder ((11, 65536 < length s) ∷ room_cases (length (text_of s)) room) (listing s room).tests

-- the calls of the linked functions, which have a buffer of their own: 32 where it is too short
pub record LinkedOrder : Type 1 where
  pub next : (s : List ℕ) (at : ℕ) (opened : Bool) (room : ℕ) → InOrder (room_cases 53 room) (finding s at opened room).tests
  pub totals : (s : List ℕ) (room : ℕ) → InOrder (room_cases 32 room) (totalling s room).tests
  pub collator : (roster : List ℕ) (room : ℕ) → InOrder (roster_cases roster ++ room_cases 113 room) (making roster room).tests
  pub growing_collator : (room : ℕ) → InOrder (room_cases 113 room) (growing room).tests
  pub enlist : (state : List ℕ) (kind sender : ℕ) → InOrder (room_cases 113 (length state)) (enlisting state kind sender).tests
  pub feed : (state : List ℕ) (room : ℕ) (x : Content)
      → InOrder (room_cases 113 (length state) ++ room_cases 11 room ++ feed_cases (state_in state) x) (feeding_in state room x).tests
  pub observation : (kind : ℕ) (s : List ℕ) (i room : ℕ)
      → InOrder ((21, Not (kind ≡ 0x0049)) ∷ index_cases s i ++ room_cases 8 room) (reading_one kind s i room).tests
  -- a payload's own tests come before the room for its numbers
  pub read : (kind : ℕ) (s : List ℕ) (room : ℕ) → (reading_row kind s room).tests ≡ (reading_any kind s).tests ++ (leb (number_count (layout_for kind)) room, 32) ∷ []
  -- 21 for a type that it does not write, 22 for another number of fields, 23 for one that its field cannot hold or that is outside its range
  pub write : (kind : ℕ) (ns : List ℕ) (room : ℕ)
      → let l = layout_for kind in
      InOrder
      ((21, (known_for kind && alone l) ≡ false) ∷
      (22, Not (length ns ≡ number_count l)) ∷
      (23, (fits_row (front_of l) ns 0 && allowed_body l (body_of l ns)) ≡ false) ∷
      buffer_cases (body_size l (body_of l ns)) room)
      (writing_row kind ns room).tests
  -- three numbers of the header, eight for each observation
  pub write_obs : (kind : ℕ) (hs ns : List ℕ) (room : ℕ)
      → let k = length ns / 8 in
      InOrder
      ((21, Not (kind ≡ 0x0049)) ∷
      (22, Not ((length hs ≡ 3) × (length ns % 8 ≡ 0))) ∷
      (23, (fits_row first.header.fields hs 0 && fits_rows first.row.fields k ns 0) ≡ false) ∷
      (31, 15 < k) ∷
      buffer_cases (16 * k + 7) room)
      (writing_obs_row kind hs ns room).tests

-- the calls of an index (document 02, P5): "52 comes first"; 51 also where nothing new came
pub record IndexOrder : Type 2 where
  pub extension : (x : Index) (s : List ℕ) (most : ℕ)
      → InOrder ((52, length s < x.reached) ∷ (51, most < x.held + length (frames_of (steps true s x.reached))) ∷ []) (extending x s most).tests
  pub search : (x : Index) (list : List Entry) (kind sender offset : ℕ) → InOrder ((51, length list < x.held) ∷ []) (asking x list kind sender offset).tests
  pub count : (x : Index) (kind : ℕ) → InOrder ((21, Not (Among kind counted_kinds)) ∷ []) (counting x kind).tests
  -- with the index in lent bytes 32 comes before
  pub in_bytes : (A : Type 0) (bytes : List ℕ) (c : Call A) (cs : Cases) → InOrder cs c.tests → InOrder (room_cases 208 (length bytes) ++ cs) (in_bytes bytes c).tests
