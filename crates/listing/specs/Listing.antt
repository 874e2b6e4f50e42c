-- The text of document 01's `sbplist`, from a capture's bytes, read closed.
use Rattle.std.specs.Prelude.{ℕ, ◌+◌, ◌*◌, cond, List, [], ◌∷◌, ◌++◌, leb, length}
use Rattle.refusals.specs.Refusals.{Answer, leaves, Call, reply}
use Rattle.frame_writer.specs.Writer.{starting_with}
use Rattle.frames.specs.Step.{payload_in}
use Rattle.frames.specs.Reading.{closed_steps, frames_of, counts_of}
use Rattle.frames.specs.declared.step.Frame.{Frame}
use Rattle.payloads.specs.Payloads.{answer_for}
use Rattle.epochs.specs.Collator.{made}
use Rattle.epochs.specs.Epoch.{contents_of, outcomes}
use Rattle.epochs.specs.Happened.{Happened}
use Rattle.text.specs.Line.{line}
use Rattle.enlisting.specs.FirstEight.{roster_in}
use Rattle.lines.specs.Lines.{frame_shown, totals_shown, epoch_part}

-- of a frame of the capture
abbrev pub frame_line : List ℕ → Frame → List ℕ
frame_line s f = frame_shown f (answer_for f.kind (payload_in s f))

-- of the whole capture
abbrev pub totals_line : List ℕ → List ℕ
totals_line s = totals_shown (length s) (counts_of (closed_steps s))

-- each frame's line, and after it the epoch's where the frame came to one
unfoldable pub frames_text : List ℕ → List Frame → List Happened → List ℕ
frames_text s [] hs = []
frames_text s (f ∷ fs) [] = []
frames_text s (f ∷ fs) (h ∷ hs) = frame_line s f ++ (epoch_part h ++ frames_text s fs hs)

-- what the frames of a capture come to in a collator of its roster. Where that is empty the collator lists nobody, and reports nothing
abbrev pub outcomes_in : List ℕ → List Happened
outcomes_in s = outcomes (made (roster_in s)).collator (contents_of s)

-- a whole capture
abbrev pub text_of : List ℕ → List ℕ
text_of s = frames_text s (frames_of (closed_steps s)) (outcomes_in s) ++ totals_line s

-- the longest capture that has a listing, and the number for a longer one
abbrev pub most_listed : ℕ
most_listed = 65536

abbrev pub over_long : ℕ
over_long = 11

-- a text is never longer: at most eight bytes for each byte of a capture, and 32
abbrev pub longest_text : ℕ
longest_text = 8 * most_listed + 32

-- 11 for a longer capture, then 32 where the text has no room
abbrev pub listing : List ℕ → ℕ → Call ℕ
listing s room = record { tests = (leb (length s) most_listed, over_long) ∷ (leb (length (text_of s)) room, 32) ∷ []; value = length (text_of s) }

unfoldable pub list_answer : List ℕ → ℕ → Answer ℕ
list_answer s room = reply (listing s room)

-- the buffer after it: the text and the bytes after it as they were, or all as it was
abbrev pub with_listing : List ℕ → List ℕ → List ℕ
with_listing s buf = leaves (starting_with (text_of s)) (list_answer s (length buf)) buf

-- the whole output of `sbplist`: `R 11` alone for an over-long capture
abbrev pub output : List ℕ → List ℕ
output s = cond (leb (length s) most_listed) (text_of s) (line 0x52 (over_long ∷ []))
