-- The demands of the functions that C and Rust link, which live on lent bytes: the frames are those of the reading, an epoch is reported exactly
-- where document 02 says, senders don't mix, and what is read and written as numbers is what 003 has. That each function does what is said here is
-- in `linked_calls`, by its own contract; how it refuses, and that a refusal leaves all as it was, in demand 1.
use Rattle.std.specs.Prelude.{◌≡◌, true, cond, List, [], ◌++◌, ◌↔◌, ℕ, ◌/◌, ◌%◌, ◌≤◌, eqb, length, drop}
use Rattle.frames.specs.Frame.{Content}
use Rattle.row_reader.specs.ReadsTyped.{AllRead}
use Rattle.row_writer.specs.WritesTyped.{AllWritten}
use Rattle.epochs.specs.Search.{names}
use Rattle.groups.specs.AnyOrder.{Reordered}
use Rattle.epochs.specs.Epoch.{reports_in, reports_of, SameFrames, EndsEpoch, BringsCopy, Epochs}
use Rattle.epochs.specs.Arrival.{OneGroup}
use Rattle.epochs.specs.declared.collating.Report.{Report}
use Rattle.epochs.specs.Happened as H
use Rattle.senders.specs.Carries.{CarriesLinked}
use Rattle.flag_numbers.specs.Flagged.{fix_answer, available_answer, repaired_answer, above_sea_answer}
use Rattle.places.specs.State.{state_in}
use Rattle.states.specs.Feed.{made_stored, fed_in}
use Rattle.states.specs.Enlist.{growing_stored, enlist_stored}
use Rattle.told.specs.Told.{AsSent, told, told_in, after_in, Filled}
use Rattle.told.specs.Growing.{Grows}
use Rattle.frames_told.specs.FramesTold.{FramesTold}
use Rattle.frames_told.specs.RowByRow.{RowsFollow}
use Rattle.rows_back.specs.RowsBack.{AllBack}
use Rattle.rows_back.specs.RowsStored.{RowsStored}
use Rattle.rows_back.specs.FieldRows.{FieldRows}
use Rattle.rows_back.specs.ObsRows.{ObsRows}
use Rattle.rows_back.specs.LogRows.{LogRows}

-- ---- flags

-- the number for a fix mode, the low three bits of flags; 3 for one that the table leaves out
abbrev pub mode_of : ℕ → ℕ → ℕ → ℕ → ℕ
mode_of flags zeroth first second = let mode = flags % 8 in cond (eqb mode 0) zeroth (cond (eqb mode 1) first (cond (eqb mode 2) second 3))

-- what the three functions answer of a type's flags
pub record Flags (kind flags : ℕ) (fix available repaired : ℕ) : Type 0 where
  pub mode : fix_answer kind flags ≡ fix
  pub raim : available_answer kind flags ≡ available
  pub repair : repaired_answer kind flags ≡ repaired

-- each message's flags by its own table, 0 being single point, 1 float, 2 fixed; 21 for a message that has none
pub record FlagsByType : Type 0 where
  -- "In POS_ECEF 1 is float and 2 is fixed. In POS_LLH 1 is fixed and 2 is float."; both baselines and the heading: 0 is float, 1 fixed.
  -- "RAIM availability is bit 3 in POS_ECEF and bit 4 in POS_LLH", and repair the bit after it
  pub pos_ecef : (flags : ℕ) → Flags 0x0200 flags (mode_of flags 0 1 2) (flags / 8 % 2) (flags / 16 % 2)
  pub pos_llh : (flags : ℕ) → Flags 0x0201 flags (mode_of flags 0 2 1) (flags / 16 % 2) (flags / 32 % 2)
  pub baseline_ecef : (flags : ℕ) → Flags 0x0202 flags (mode_of flags 1 2 3) (flags / 8 % 2) (flags / 16 % 2)
  pub baseline_ned : (flags : ℕ) → Flags 0x0203 flags (mode_of flags 1 2 3) (flags / 8 % 2) (flags / 16 % 2)
  pub baseline_heading : (flags : ℕ) → Flags 0x0207 flags (mode_of flags 1 2 3) (flags / 8 % 2) (flags / 16 % 2)
  pub others : (kind flags : ℕ) → (kind ≡ 0x0200 → ⊥) → (kind ≡ 0x0201 → ⊥) → (kind ≡ 0x0202 → ⊥) → (kind ≡ 0x0203 → ⊥) → (kind ≡ 0x0207 → ⊥)
      → Flags kind flags 21 21 21
  -- "where bit 3 is the height mode"
  pub above_sea : (flags : ℕ) → above_sea_answer 0x0201 flags ≡ flags / 8 % 2
  pub above_sea_others : (kind flags : ℕ) → (kind ≡ 0x0201 → ⊥) → above_sea_answer kind flags ≡ 21

-- ---- a collator has 113 bytes, and no other byte that is lent for it changes

pub record OtherBytes : Type 0 where
  pub collator : (roster s : List ℕ) → drop 113 (made_stored roster s) ≡ drop 113 s
  pub growing_collator : (s : List ℕ) → drop 113 (growing_stored s) ≡ drop 113 s
  pub enlist : (s : List ℕ) (kind sender : ℕ) → drop 113 (enlist_stored s kind sender) ≡ drop 113 s
  pub feed : (s : List ℕ) (x : Content) (report : List ℕ) → drop 113 (fed_in s x report).state ≡ drop 113 s

-- ---- all of them

pub record Exported : Type 0 where
  -- demand 2: what `sbp_next` and `sbp_totals` tell by their numbers and rows, and that calls of `sbp_next` from row to row hand out the frames of
  -- the reading, with counts that add up to those of `sbp_totals`
  pub frames_told : FramesTold
  pub rows_follow : RowsFollow
  -- `sbp_feed` tells of an epoch, by 1 and the report that the lent bytes show, exactly where the frame ends it
  pub epochs_told : (roster s report : List ℕ) (xs : List Content) → Filled roster s report xs → (x : Content) → AsSent x → (lent : List ℕ) → 11 ≤ length lent
      → (e : Report) → (told (fed_in (after_in (made_stored roster s) report xs) x lent) ≡ H.Epoch e) ↔ EndsEpoch roster xs x e
  pub other_bytes : OtherBytes
  -- a report has 11 bytes, and no other byte that is lent for it changes; where no epoch is told none does
  pub report_alone : (state lent : List ℕ) (x : Content) → drop 11 (fed_in state x lent).report ≡ drop 11 lent
  pub report_kept : (state lent : List ℕ) (x : Content) → ((fed_in state x lent).answer ≡ 1 → ⊥) → (fed_in state x lent).report ≡ lent
  -- so the reports that are told are demand 2's epochs in order
  pub epochs_read : (roster s report : List ℕ) (xs : List Content) → Filled roster s report xs → (es : List Report) → Epochs roster [] xs es
      → es ≡ reports_in (told_in (made_stored roster s) report xs)
  -- demand 3: with the same frames of every listed sender, each of them gets the same reports in the same order, and the two end states are equal
  pub same_reports : (roster s t report other : List ℕ) (xs ys : List Content) → Filled roster s report xs → Filled roster t other ys → SameFrames roster xs ys
      → (sender : ℕ) → names roster sender ≡ true
      → reports_of sender (reports_in (told_in (made_stored roster s) report xs)) ≡ reports_of sender (reports_in (told_in (made_stored roster t) other ys))
  pub same_state : (roster s t report other : List ℕ) (xs ys : List Content) → Filled roster s report xs → Filled roster t other ys → SameFrames roster xs ys
      → state_in (after_in (made_stored roster s) report xs) ≡ state_in (after_in (made_stored roster t) other ys)
  -- the packets of one group in any other order: the same reports, and the same end
  pub any_order : (roster s t report other : List ℕ) (xs ys zs : List Content) → Filled roster s report (xs ++ ys) → Filled roster t other (xs ++ zs)
      → (sender : ℕ) → names roster sender ≡ true → OneGroup sender xs ys → Reordered ys zs
      → (reports_in (told_in (made_stored roster s) report (xs ++ ys)) ≡ reports_in (told_in (made_stored roster t) other (xs ++ zs)))
      × (state_in (after_in (made_stored roster s) report (xs ++ ys)) ≡ state_in (after_in (made_stored roster t) other (xs ++ zs)))
  -- a copy is told by 47
  pub copies_told : (roster s report : List ℕ) (xs : List Content) → Filled roster s report xs → (x : Content) → AsSent x → (lent : List ℕ) → 11 ≤ length lent
      → ((fed_in (after_in (made_stored roster s) report xs) x lent).answer ≡ 47) ↔ BringsCopy roster xs x
  -- a roster that grows: frame by frame the bytes tell what a collator tells that was made of the first eight senders
  pub growing : Grows
  -- who sends: a sender of 16 bits is written as it is, 0 too; any number above stands for none, and then the own number is written
  pub senders : CarriesLinked
  -- messages as numbers: each is read as the fields of the typed record and written as the typed writer writes it, and what was written comes back;
  -- OBS and LOG number by number
  pub rows_read : AllRead
  pub field_rows : FieldRows
  pub rows_stored : RowsStored
  pub rows_written : AllWritten
  pub rows_back : AllBack
  pub obs_rows : ObsRows
  pub log_rows : LogRows
  pub flags : FlagsByType
