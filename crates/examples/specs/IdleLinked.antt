-- The five idle programs as functions that C and Rust could link, over lent bytes: what each would have to meet, and that it doesn't
-- (`LinkedShutOut`). That the linked functions meet the rules is their contract.
use Rattle.std.specs.Prelude.{ℕ, ◌-◌, ◌^◌, ◌≤◌, ◌<◌, ◌≡◌, Bool, true, false, cond, List, [], ◌∷◌, ◌↔◌, leb, length, get_or}
use Rattle.wire.specs.Number.{Bytes}
use Rattle.refusals.specs.Refusals.{Answer, ordered, leaves, as_number, zero_or, room_for}
use Rattle.frames.specs.Frame.{Content}
use Rattle.frames.specs.Cursors.{begun, next_of}
use Rattle.frames.specs.declared.cursor.Next as Next
use Rattle.epochs.specs.Collator.{made}
use Rattle.epochs.specs.Epoch.{EndsEpoch}
use Rattle.epochs.specs.declared.collating.Report.{Report}
use Rattle.epochs.specs.Happened as H
use Rattle.lent_rows.specs.Lent.{at_front}
use Rattle.frame_rows.specs.Found.{found_fields, found_values, found_in, number_in, next_answer, next_stored}
use Rattle.frame_rows.specs.Totals.{totals_fields, totals_row, totals_answer, totals_stored}
use Rattle.frame_rows.specs.Shown.{CountsShown}
use Rattle.states.specs.Feed.{made_answer, made_stored, report_size, FedIn, fed_in}
use Rattle.told.specs.Told.{AsSent, told, Filled}
use Rattle.examples.specs.Idle.{invented}

-- what a call can be lent: bytes, as many as 64 bits count
abbrev pub Lent : List ℕ → Type 0
Lent s = Bytes s × (length s < 2 ^ 64)

-- ---- readers: capture, position, whether the reading is open, buffer; the number handed back, and the buffer after

abbrev pub LinkedReader : Type 0
LinkedReader = List ℕ → ℕ → Bool → List ℕ → ℕ × List ℕ

-- the contract of `sbp_next`
abbrev pub by_next : LinkedReader
by_next s at opened buf = (next_answer s at opened (length buf), next_stored s at opened buf)

abbrev pub NextRule : LinkedReader → Type 0
NextRule read = (s : List ℕ) (at : ℕ) (opened : Bool) (buf : List ℕ) → Lent s → at < 2 ^ 64 → Lent buf → read s at opened buf ≡ by_next s at opened buf

-- never answering 0, a frame, where its row of 53 bytes has room
abbrev pub FindsNone : LinkedReader → Type 0
FindsNone read = (s : List ℕ) (at : ℕ) (opened : Bool) (buf : List ℕ) → length buf ≡ 53 → (read s at opened buf).0 ≡ 0 → ⊥

-- refusing everything
abbrev pub refusing_all : LinkedReader
refusing_all s at opened buf = (32, buf)

-- answering always the same number there, whatever it leaves in the buffer
abbrev pub AnswersAlike : ℕ → LinkedReader → Type 0
AnswersAlike n read = (s : List ℕ) (at : ℕ) (opened : Bool) (buf : List ℕ) → length buf ≡ 53 → (read s at opened buf).0 ≡ n

-- where the first frame ends, or after that
abbrev pub past_frame : Next.Next → ℕ → Bool
past_frame (Next.TheVariants.Frame f c) at = leb c.at at
past_frame (Next.TheVariants.End c) at = false
past_frame (Next.TheVariants.Needs n c) at = false

abbrev pub past_first : List ℕ → Bool → ℕ → Bool
past_first s opened at = past_frame (next_of s (begun opened)) at

-- honest for the first frame, and from there on answering 1, the end
pub record HonestOnce (read : LinkedReader) : Type 0 where
  pub first : (s : List ℕ) (at : ℕ) (opened : Bool) (buf : List ℕ) → past_first s opened at ≡ false → read s at opened buf ≡ by_next s at opened buf
  pub rest : (s : List ℕ) (at : ℕ) (opened : Bool) (buf : List ℕ) → past_first s opened at ≡ true → length buf ≡ 53 → (read s at opened buf).0 ≡ 1

-- one such reader: it stores that all bytes to the end are junk
abbrev pub all_junk : List ℕ → ℕ → Bool → Next.Next
all_junk s at opened = Next.TheVariants.End (record { at = length s; opened = opened; framed = 0; junk = length s - at; bad = 0; short = 0 })

abbrev pub shown_as : Answer Next.Next → List ℕ → ℕ × List ℕ
shown_as a buf = (as_number number_in a, leaves (λ x. at_front found_fields (found_values (found_in x))) a buf)

abbrev pub junk_after_first : LinkedReader
junk_after_first s at opened buf =
    cond (past_first s opened at) (shown_as (ordered (room_for 53 (length buf)) (all_junk s at opened)) buf) (by_next s at opened buf)

-- ---- totals: capture, buffer; the number handed back, and the buffer after

abbrev pub LinkedTotals : Type 0
LinkedTotals = List ℕ → List ℕ → ℕ × List ℕ

-- the contract of `sbp_totals`
abbrev pub TotalsRule : LinkedTotals → Type 0
TotalsRule totals = (s buf : List ℕ) → Lent s → Lent buf → totals s buf ≡ (totals_answer s (length buf), totals_stored s buf)

-- invented: all of the capture is frames, in a row of 32 bytes
abbrev pub Invents : LinkedTotals → Type 0
Invents totals = (s buf : List ℕ) → length s < 2 ^ 64 → length buf ≡ 32 → CountsShown (totals s buf).1 (invented s)

-- one such
abbrev pub all_frames : LinkedTotals
all_frames s buf =
    let a = ordered (room_for 32 (length buf)) (invented s) in
    (zero_or a, leaves (λ c. at_front totals_fields (totals_row c)) a buf)

-- ---- collators in lent bytes: made of a roster, fed with a frame

pub record LinkedCollator : Type 0 where
  pub make : List ℕ → List ℕ → ℕ × List ℕ
  pub feed : List ℕ → Content → List ℕ → FedIn

-- the state's bytes after some frames
abbrev pub bytes_after : LinkedCollator → List ℕ → List ℕ → List Content → List ℕ
bytes_after m state report [] = state
bytes_after m state report (x ∷ xs) = let out = m.feed state x report in bytes_after m out.state out.report xs

-- demand 2: from the making on an epoch is told exactly where a frame ends it
abbrev pub TellsEpochs : List ℕ → LinkedCollator → Type 0
TellsEpochs roster m =
    (s report : List ℕ) (xs : List Content) → Lent s → Lent report → Filled roster s report xs
    → (x : Content) → AsSent x → (lent : List ℕ) → Lent lent → report_size ≤ length lent → (e : Report)
    → (told (m.feed (bytes_after m (m.make roster s).1 report xs) x lent) ≡ H.Epoch e) ↔ EndsEpoch roster xs x e

-- never moving: feeding leaves the state's bytes as they are, whatever it answers and reports
abbrev pub KeepsItsBytes : LinkedCollator → Type 0
KeepsItsBytes m = (state : List ℕ) (x : Content) (report : List ℕ) → (m.feed state x report).state ≡ state

-- the linked functions themselves
abbrev pub linked : LinkedCollator
linked = record { make = λ roster s. (made_answer roster (length s), made_stored roster s); feed = fed_in }

-- ---- each is shut out, by what document 01 names for it

pub record LinkedShutOut : Type 0 where
  -- "One refusing everything, and one answering always alike: by the frame rule of demand 2."
  pub finding_none : (read : LinkedReader) → FindsNone read → NextRule read → ⊥
  pub refusing_everything : NextRule refusing_all → ⊥
  pub answering_alike : (n : ℕ) (read : LinkedReader) → AnswersAlike n read → NextRule read → ⊥
  -- "A collator that never moves: by demand 2's epochs of two packets or more." For every roster that is accepted; the linked functions meet it
  pub never_moving : (m : LinkedCollator) → KeepsItsBytes m → (roster : List ℕ) → (made roster).number ≡ 0 → ((i : ℕ) → get_or roster i 0 < 65536)
      → TellsEpochs roster m → ⊥
  pub moving : (roster : List ℕ) → TellsEpochs roster linked
  -- "A reader honest for its first frame and calling the rest junk: by step 5 holding at every position reached."
  pub honest_first : HonestOnce junk_after_first
  pub once_honest_lem : (read : LinkedReader) → HonestOnce read → NextRule read → ⊥
  -- "Invented totals: by counts tied to steps."
  pub invented_shown : Invents all_frames
  pub inventing : (totals : LinkedTotals) → Invents totals → TotalsRule totals → ⊥
