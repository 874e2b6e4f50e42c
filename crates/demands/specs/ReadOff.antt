-- The demands speak of names, and the lines of calls (`typed_calls`, `capture_calls`, `linked_calls`) say outright what a call hands back and leaves.
-- Each name is read off its call, so that what is said of the one is said of the other.
use Rattle.std.specs.Prelude.{◌≡◌, Bool, List, ◌++◌, ◌↔◌, ℕ, ◌≤◌, ℤ, length, drop}
use Rattle.refusals.specs.Refusals.{reply, leaves, as_number, zero_or, FirstFails}
use Rattle.layouts.specs.Layout.{encode_body}
use Rattle.layouts.specs.Description.{Description, reading, read_as}
use Rattle.frames.specs.Frame.{frame_bytes, Content}
use Rattle.frames.specs.Cursors.{reached_in}
use Rattle.frames.specs.declared.step.Frame.{Frame}
use Rattle.frames.specs.declared.cursor.Cursor.{Cursor}
use Rattle.frames.specs.declared.cursor.Next.TheVariants as Next
use Rattle.senders.specs.Senders.{carried}
use Rattle.senders.specs.declared.Writer.{Writer}
use Rattle.frame_writer.specs.Writer.{planning, planned, with_frame}
use Rattle.frame_writer.specs.Faithful.{writing, write_answer, written_as}
use Rattle.phases.specs.Phase.{reading_phase, read_phase}
use Rattle.observation.specs.Edition.{obs, first}
use Rattle.payloads.specs.Payloads.{layout_for}
use Rattle.row_reader.specs.ReadRow.{reading_row, read_row, reading_one, read_one}
use Rattle.row_writer.specs.WriteRow.{body_of, writing_row, write_row, row_written}
use Rattle.row_writer.specs.WriteObsRow.{observed_of, writing_obs_row, write_obs_row, obs_row_written}
use Rattle.epochs.specs.Collator.{feeding, fed_frame, rostering, made}
use Rattle.epochs.specs.declared.collating.Collator.{Collator}
use Rattle.epochs.specs.Happened as H
use Rattle.listing.specs.Listing.{text_of, listing, list_answer, with_listing}
use Rattle.lent_rows.specs.Lent.{at_front}
use Rattle.frame_rows.specs.Found.{found_fields, found_values, found_in, number_in, finding, next_answer, next_stored}
use Rattle.frame_rows.specs.Totals.{totals_fields, totals_row, totalling, totals_stored}
use Rattle.places.specs.State.{place_stored, collator_stored}
use Rattle.states.specs.Feed.{making, made_stored, happened_number, happened_stored, feeding_in, fed_in}
use Rattle.states.specs.Enlist.{growing, growing_stored, enlisting, enlist_stored}

-- a frame at the start of a buffer, whose sender is the number that its type and its writer say, and the bytes after it as they were
abbrev pub sent : ℕ → Writer → List ℕ → ℕ → List ℕ → List ℕ
sent kind w payload n was = frame_bytes kind (carried kind w) payload ++ drop n was

pub record ReadOff : Type 1 where
  -- records, listings, rows and phases
  pub record_read : (R : Type 0) (d : Description R) (s : List ℕ) → read_as d s ≡ reply (reading d s)
  pub listed : (s : List ℕ) (room : ℕ) → list_answer s room ≡ reply (listing s room)
  pub listed_in : (s buf : List ℕ) → with_listing s buf ≡ leaves (λ n was. text_of s ++ drop n was) (reply (listing s (length buf))) buf
  pub row_read : (kind : ℕ) (s : List ℕ) (room : ℕ) → read_row kind s room ≡ reply (reading_row kind s room)
  pub one_read : (kind : ℕ) (s : List ℕ) (i room : ℕ) → read_one kind s i room ≡ reply (reading_one kind s i room)
  pub phase_read : (z : ℤ) → read_phase z ≡ reply (reading_phase z)
  -- frames written
  pub frame_planned : (n room : ℕ) → planned n room ≡ reply (planning n room)
  pub frame_in : (kind : ℕ) (w : Writer) (payload buf : List ℕ)
      → with_frame kind w payload buf ≡ leaves (sent kind w payload) (reply (planning (length payload) (length buf))) buf
  pub record_planned : (R : Type 0) (d : Description R) (r : R) (room : ℕ) → write_answer d r room ≡ reply (writing d r room)
  pub record_in : (R : Type 0) (d : Description R) (w : Writer) (r : R) (buf : List ℕ)
      → written_as d w r buf ≡ leaves (sent d.kind w (encode_body d.layout (d.row r))) (reply (writing d r (length buf))) buf
  pub row_planned : (kind : ℕ) (ns : List ℕ) (room : ℕ) → write_row kind ns room ≡ reply (writing_row kind ns room)
  pub row_in : (kind : ℕ) (w : Writer) (ns buf : List ℕ)
      → row_written kind w ns buf ≡ leaves (sent kind w (encode_body (layout_for kind) (body_of (layout_for kind) ns))) (reply (writing_row kind ns (length buf))) buf
  pub obs_planned : (kind : ℕ) (hs ns : List ℕ) (room : ℕ) → write_obs_row kind hs ns room ≡ reply (writing_obs_row kind hs ns room)
  pub obs_in : (kind : ℕ) (w : Writer) (hs ns buf : List ℕ)
      → obs_row_written kind w hs ns buf
      ≡ leaves (sent kind w (encode_body (obs first).layout ((obs first).row (observed_of hs ns)))) (reply (writing_obs_row kind hs ns (length buf))) buf
  -- a cursor's answer in numbers: 0 and the frame, 1 at the end, 2 and the bytes that are needed
  pub reached_frame : (f : Frame) (c : Cursor) → reached_in (Next.Frame f c) ≡ record { number = 0; needed = 0; frame = f; cursor = c }
  pub reached_end : (c : Cursor)
      → reached_in (Next.End c) ≡ record { number = 1; needed = 0; frame = record { at = 0; kind = 0; sender = 0; length = 0 }; cursor = c }
  pub reached_needs : (n : ℕ) (c : Cursor)
      → reached_in (Next.Needs n c) ≡ record { number = 2; needed = n; frame = record { at = 0; kind = 0; sender = 0; length = 0 }; cursor = c }
  -- what a collator refuses, by value and in lent bytes
  pub made_number : (roster : List ℕ) → (made roster).number ≡ zero_or (reply (rostering roster))
  pub fed_refused : (c : Collator) (x : Content) (n : ℕ) → ((fed_frame c x).happened ≡ H.Refused n) ↔ FirstFails (feeding c x).tests n
  pub fed_number : (state report : List ℕ) (x : Content) (n : ℕ) → 11 ≤ n → ((fed_in state x report).answer ≡ n) ↔ FirstFails (feeding_in state (length report) x).tests n
  -- frames, counts and collators in lent bytes
  pub next_number : (s : List ℕ) (at : ℕ) (opened : Bool) (room : ℕ) → next_answer s at opened room ≡ as_number number_in (reply (finding s at opened room))
  pub next_in : (s : List ℕ) (at : ℕ) (opened : Bool) (row : List ℕ)
      → next_stored s at opened row ≡ leaves (λ x. at_front found_fields (found_values (found_in x))) (reply (finding s at opened (length row))) row
  pub totals_in : (s row : List ℕ) → totals_stored s row ≡ leaves (λ c. at_front totals_fields (totals_row c)) (reply (totalling s (length row))) row
  pub made_in : (roster s : List ℕ) → made_stored roster s ≡ leaves collator_stored (reply (making roster (length s))) s
  pub grown_in : (s : List ℕ) → growing_stored s ≡ leaves collator_stored (reply (growing (length s))) s
  pub enlisted_in : (s : List ℕ) (kind sender : ℕ) → enlist_stored s kind sender ≡ leaves (λ t was. t) (reply (enlisting s kind sender)) s
  pub fed_in_lem : (state report : List ℕ) (x : Content)
      → let a = reply (feeding_in state (length report) x) in
      fed_in state x report ≡ record {
        state = leaves (λ m s. place_stored s m.seat m.place) a state;
        report = leaves (λ m. happened_stored m.happened) a report;
        answer = as_number (λ m. happened_number m.happened) a;
      }
  pub fed_untouched : (state report : List ℕ) (x : Content) (n : ℕ) → FirstFails (feeding_in state (length report) x).tests n
      → ((fed_in state x report).state ≡ state) × ((fed_in state x report).report ≡ report)
