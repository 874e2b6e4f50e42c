-- What each linked function hands back, and what it leaves of what it is lent, by its inputs. Both are read off one call, so that a refusal hands
-- back its number and leaves all as it was. When a call is refused stands in the demands (Order.antt), what they come to in Demand2.antt, Demand3.antt
-- and Exported.antt. A sender comes as the number that the frame gets.
use Rattle.std.specs.Prelude.{Bool, List, ℕ, eqb, cond, ℤ, length, Result}
use Rattle.std.specs.Borrow.{Bor, MutBor}
use Rattle.refusals.specs.Refusals.{Call, reply, leaves, as_number, zero_or}
use Rattle.refusals.specs.declared.Refusal.{Refusal}
use Rattle.layouts.specs.Layout.{encode_body}
use Rattle.frames.specs.Frame.{Content, frame_bytes}
use Rattle.frame_writer.specs.Writer.{planning}
use Rattle.frame_writer.specs.Faithful.{writing}
use Rattle.flags.specs.Flags.{raim_available, raim_repaired, llh_above_sea, llh_raim_available, llh_raim_repaired}
use Rattle.flags.specs.declared.flags.Fix.{Fix}
use Rattle.phases.specs.Phase.{reading_phase}
use Rattle.observation.specs.Edition.{first, obs}
use Rattle.logs.specs.Log.{log, logged}
use Rattle.payloads.specs.Payloads.{layout_for, reading_any}
use Rattle.row_reader.specs.ReadRow.{beginning, reading_row, reading_one}
use Rattle.row_writer.specs.WriteRow.{body_of, writing_row}
use Rattle.row_writer.specs.WriteObsRow.{observed_of, writing_obs_row}
use Rattle.listing.specs.Listing.{text_of, listing}
use Rattle.lent_rows.specs.Lent.{at_front}
use Rattle.frame_rows.specs.Found.{found_fields, found_values, found_in, number_in, finding}
use Rattle.frame_rows.specs.declared.reading.Found.{Found}
use Rattle.frame_rows.specs.declared.reading.Found.TheVariants as Found
use Rattle.frame_rows.specs.Totals.{totals_fields, totals_row, totalling}
use Rattle.flag_numbers.specs.Flagged.{table_for, is_table, fix_by, raim_by, fix_number, bit_number, flagging}
use Rattle.places.specs.State.{place_stored, collator_stored}
use Rattle.states.specs.Feed.{making, happened_number, happened_stored, feeding_in}
use Rattle.states.specs.Enlist.{growing, enlisting}
use Rattle.calls.specs.Replies.{told_by, hands, fills, sends}

-- lent bytes or numbers, to be read; and to be changed
abbrev pub Lent : Type 0
Lent = Bor (List ℕ)

abbrev pub Buffer : Type 0
Buffer = MutBor (List ℕ)

-- a number; and with it what is left of one thing that was lent, or of two
abbrev pub Number : Type 0
Number = ℕ × Unit {0}

abbrev pub Filled : Type 0
Filled = ℕ × (List ℕ × Unit {0})

abbrev pub Sent : Type 0
Sent = ℕ × (List ℕ × (ℕ × Unit {0}))

-- ---- frames, their counts, the listing

-- 0 a frame, 1 the end, 2 more bytes are needed, and the row of what is found
abbrev pub next_gives : Lent → ℕ → Bool → Buffer → Filled
next_gives capture at opened found =
    fills number_in (λ x. at_front found_fields (found_values (found_in x))) (finding capture.now at opened (length found.now)) found.now

abbrev pub totals_gives : Lent → Buffer → Filled
totals_gives capture counts = fills (λ c. 0) (λ c. at_front totals_fields (totals_row c)) (totalling capture.now (length counts.now)) counts.now

abbrev pub list_gives : Lent → Buffer → MutBor ℕ → Sent
list_gives capture text size = sends (listing capture.now (length text.now)) (text_of capture.now) text.now size.now

-- ---- payloads, as an answer alone and as numbers

abbrev pub answer_gives : ℕ → Lent → Number
answer_gives kind payload = hands (λ m. 0) (reading_any kind payload.now)

abbrev pub read_gives : ℕ → Lent → Buffer → Filled
read_gives kind payload row = fills (λ ns. 0) beginning (reading_row kind payload.now (length row.now)) row.now

abbrev pub observation_gives : ℕ → Lent → ℕ → Buffer → Filled
observation_gives kind payload index row = fills (λ ns. 0) beginning (reading_one kind payload.now index (length row.now)) row.now

-- ---- frames written

-- the frame of a row of that type
abbrev pub row_bytes : ℕ → ℕ → List ℕ → List ℕ
row_bytes kind sender row = frame_bytes kind sender (encode_body (layout_for kind) (body_of (layout_for kind) row))

abbrev pub write_gives : Buffer → ℕ → ℕ → Lent → MutBor ℕ → Sent
write_gives out kind sender row size = sends (writing_row kind row.now (length out.now)) (row_bytes kind sender row.now) out.now size.now

-- and that of a header and the observations' rows
abbrev pub obs_row_bytes : ℕ → ℕ → List ℕ → List ℕ → List ℕ
obs_row_bytes kind sender head rows = frame_bytes kind sender (encode_body (obs first).layout ((obs first).row (observed_of head rows)))

abbrev pub write_obs_gives : Buffer → ℕ → ℕ → Lent → Lent → MutBor ℕ → Sent
write_obs_gives out kind sender head rows size =
    sends (writing_obs_row kind head.now rows.now (length out.now)) (obs_row_bytes kind sender head.now rows.now) out.now size.now

abbrev pub write_log_gives : Buffer → ℕ → ℕ → Lent → ℕ → MutBor ℕ → Sent
write_log_gives out sender level text padding size =
    let r = logged level text.now padding in
    sends (writing log r (length out.now)) (frame_bytes log.kind sender (encode_body log.layout (log.row r))) out.now size.now

abbrev pub write_frame_gives : Buffer → ℕ → ℕ → Lent → MutBor ℕ → Sent
write_frame_gives out kind sender payload size =
    sends (planning (length payload.now) (length out.now)) (frame_bytes kind sender payload.now) out.now size.now

-- ---- a collator in the caller's bytes

abbrev pub collator_gives : Buffer → Lent → Filled
collator_gives state roster = fills (λ c. 0) collator_stored (making roster.now (length state.now)) state.now

abbrev pub growing_gives : Buffer → Filled
growing_gives state = fills (λ c. 0) collator_stored (growing (length state.now)) state.now

abbrev pub enlist_gives : Buffer → ℕ → ℕ → Filled
enlist_gives state kind sender = fills (λ t. 0) (λ t was. t) (enlisting state.now kind sender) state.now

-- the frame is that of the type, sender and payload handed in: its own place moves, and an epoch that ends is reported
abbrev pub feed_gives : Buffer → ℕ → ℕ → Lent → Buffer → ℕ × (List ℕ × (List ℕ × Unit {0}))
feed_gives state kind sender payload report =
    let x : Content = record { kind = kind; sender = sender; payload = payload.now } in
    let a = reply (feeding_in state.now (length report.now) x) in (
      as_number (λ m. happened_number m.happened) a,
      (leaves (λ m s. place_stored s m.seat m.place) a state.now, (leaves (λ m. happened_stored m.happened) a report.now, tt)),
    )

-- ---- phases and flags

abbrev pub parts_gives : ℤ → MutBor ℤ → MutBor ℕ → ℕ × (ℤ × (ℕ × Unit {0}))
parts_gives phase cycles parts =
    let a = reply (reading_phase phase) in (zero_or a, (leaves (λ p was. p.l_i) a cycles.now, (leaves (λ p was. p.l_f) a parts.now, tt)))

-- by each message's own table
abbrev pub asking_fix : ℕ → ℕ → Call Fix
asking_fix kind flags = let t = table_for kind in flagging (is_table t) (fix_by t flags)

abbrev pub asking_available : ℕ → ℕ → Call Bool
asking_available kind flags = let t = table_for kind in flagging (is_table t) (raim_by t (llh_raim_available flags) (raim_available flags))

abbrev pub asking_repaired : ℕ → ℕ → Call Bool
asking_repaired kind flags = let t = table_for kind in flagging (is_table t) (raim_by t (llh_raim_repaired flags) (raim_repaired flags))

abbrev pub asking_above_sea : ℕ → ℕ → Call Bool
asking_above_sea kind flags = flagging (eqb kind 0x0201) (llh_above_sea flags)

abbrev pub fix_gives : ℕ → ℕ → Number
fix_gives kind flags = hands fix_number (asking_fix kind flags)

abbrev pub available_gives : ℕ → ℕ → Number
available_gives kind flags = hands bit_number (asking_available kind flags)

abbrev pub repaired_gives : ℕ → ℕ → Number
repaired_gives kind flags = hands bit_number (asking_repaired kind flags)

abbrev pub above_sea_gives : ℕ → ℕ → Number
above_sea_gives kind flags = hands bit_number (asking_above_sea kind flags)

-- ---- the functions behind these, in Rattle: what a call gives, or its refusal, by the number that C and Rust are handed

abbrev pub handed : {A B : Type 0} → (ℕ → A) → ℕ × B → Result A Refusal × B
handed of v = (told_by of v.0, v.1)

-- nothing but that it is done
abbrev pub done : {B : Type 0} → ℕ × B → Result (Unit {0}) Refusal × B
done = handed (λ n. tt)

-- what was found
abbrev pub found_by : ℕ → Found
found_by n = cond (eqb n 0) Found.Frame (cond (eqb n 1) Found.End Found.Needs)

-- whether an epoch ended
abbrev pub ended_by : ℕ → Bool
ended_by n = eqb n 1
