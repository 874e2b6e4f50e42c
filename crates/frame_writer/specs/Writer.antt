-- What a frame writer answers, and what it leaves in the buffer.
use Rattle.std.specs.Prelude.{ℕ, ◌+◌, List, [], ◌∷◌, ◌++◌, leb, length, take, drop, Result, Ok, Err}
use Rattle.refusals.specs.Refusals.{Answer, given, refused, Tests, leaves, Call, reply}
use Rattle.senders.specs.Senders.{carried}
use Rattle.senders.specs.declared.Writer.{Writer}
use Rattle.frames.specs.Frame.{frame_bytes, Content}
use Rattle.frames.specs.Reading.{Positioned}
use Rattle.frames.specs.declared.step.Frame.{Frame}
use Rattle.frames.specs.declared.step.Step.TheVariants.{Found}

-- a payload of n bytes into a buffer of some length: 31 over 255, then 32 for a buffer shorter than N + 8
abbrev pub writing_frame : ℕ → ℕ → Tests
writing_frame n room = (leb n 255, 31) ∷ (leb (n + 8) room, 32) ∷ []

abbrev pub planning : ℕ → ℕ → Call ℕ
planning n room = record { tests = writing_frame n room; value = n + 8 }

unfoldable pub planned : ℕ → ℕ → Answer ℕ
planned n room = reply (planning n room)

-- the number that a caller lends for the size: how many bytes were written, or what stood there
-- by the number of a refusal, whichever it is
abbrev pub written_answer : Result ℕ ℕ → Answer ℕ
written_answer (Ok n) = given n
written_answer (Err n) = refused n

abbrev pub size_left : Answer ℕ → ℕ → ℕ
size_left a before = leaves (λ n size. n) a before

-- a buffer whose first n bytes are replaced
abbrev pub starting_with : List ℕ → ℕ → List ℕ → List ℕ
starting_with bs n buf = bs ++ drop n buf

-- the frame that a writer makes of a payload
abbrev pub framed_by : ℕ → Writer → List ℕ → List ℕ
framed_by kind w payload = frame_bytes kind (carried kind w) payload

-- the buffer with a frame at its start, the bytes after untouched; as it was where the frame is refused
unfoldable pub with_frame : ℕ → Writer → List ℕ → List ℕ → List ℕ
with_frame kind w payload buf = leaves (starting_with (framed_by kind w payload)) (planned (length payload) (length buf)) buf

-- the same, of the n payload bytes that stand in the buffer at 6
unfoldable pub sealed : ℕ → Writer → ℕ → List ℕ → List ℕ
sealed kind w n buf = leaves (starting_with (framed_by kind w (take n (drop 6 buf)))) (planned n (length buf)) buf

-- what a written frame reads back as, at a position
abbrev pub as_read : ℕ → Content → Frame
as_read p m = record { at = p; kind = m.kind; sender = m.sender; length = length m.payload }

-- the steps over frames that stand one after the other
unfoldable pub found_from : ℕ → List Content → List Positioned
found_from p [] = []
found_from p (m ∷ ms) = record { at = p; step = Found (as_read p m) } ∷ found_from (p + (length m.payload + 8)) ms
