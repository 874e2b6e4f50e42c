-- A message as a frame: what writing a record answers, what it leaves in the buffer, and what is promised of every message.
use Rattle.std.specs.Prelude.{ℕ, ◌+◌, ◌≡◌, false, List, ◌∷◌, ◌↔◌, length}
use Rattle.wire.specs.Number.{Bytes}
use Rattle.layouts.specs.Layout.{HeldBody, SettledBody, allowed_body, few_enough, body_bits, body_size, LengthOf, encode_body, decode_body}
use Rattle.layouts.specs.Description.{Description, read_as}
use Rattle.refusals.specs.Refusals.{refused, given, Answer, leaves, Call, reply}
use Rattle.senders.specs.Senders.{carried, HeldWriter}
use Rattle.senders.specs.declared.Writer.{Writer}
use Rattle.frames.specs.Step.{step_at, payload_in}
use Rattle.frame_writer.specs.Writer.{writing_frame, starting_with, framed_by, with_frame}
use Rattle.frames.specs.declared.step.Frame.{Frame}
use Rattle.frames.specs.declared.step.Step.TheVariants.{Found}

-- a record into a buffer of some length: 23 for a field outside its range, 31 for more bytes or rows than the most, then 31 and 32 as every frame
abbrev pub writing : {R : Type 0} → Description R → R → ℕ → Call ℕ
writing d r room =
    record {
      tests = (allowed_body d.layout (d.row r), 23) ∷ (few_enough d.layout (d.row r), 31) ∷ writing_frame (body_size d.layout (d.row r)) room;
      value = body_size d.layout (d.row r) + 8;
    }

unfoldable pub write_answer : {R : Type 0} → Description R → R → ℕ → Answer ℕ
write_answer d r room = reply (writing d r room)

-- the buffer after it: the frame and the bytes after it as they were, or all as it was
unfoldable pub written_as : {R : Type 0} → Description R → Writer → R → List ℕ → List ℕ
written_as d w r buf = leaves (starting_with (framed_by d.kind w (encode_body d.layout (d.row r)))) (write_answer d r (length buf)) buf

-- the frame of a record at the start of a buffer: its sender is the number that its type and its writer say
abbrev pub frame_written : {R : Type 0} → Description R → Writer → R → Frame
frame_written d w r = record { at = 0; kind = d.kind; sender = carried d.kind w; length = body_size d.layout (d.row r) }

-- what is promised of every message
pub record Faithful {R : Type 0} (d : Description R) : Type 0 where
  -- a record written is found as its frame, whose payload gives the record back bit for bit
  pub found : (w : Writer) (r : R) (buf : List ℕ) {n : ℕ} → HeldWriter w → write_answer d r (length buf) ≡ given n
      → step_at (written_as d w r buf) 0 ≡ Found (frame_written d w r)
  pub back : (w : Writer) (r : R) (buf : List ℕ) {n : ℕ} → HeldWriter w → write_answer d r (length buf) ≡ given n → HeldBody d.layout (d.row r)
      → (q : R) × (read_as d (payload_in (written_as d w r buf) (frame_written d w r)) ≡ given q) × (body_bits d.layout (d.row q) ≡ body_bits d.layout (d.row r))
  -- the very record, where it is such as reading makes
  pub same : (w : Writer) (r : R) (buf : List ℕ) {n : ℕ} → HeldWriter w → write_answer d r (length buf) ≡ given n → HeldBody d.layout (d.row r)
      → SettledBody d.layout (d.row r) → read_as d (payload_in (written_as d w r buf) (frame_written d w r)) ≡ given r
  pub settled : (s : List ℕ) (r : R) → Bytes s → read_as d s ≡ given r → SettledBody d.layout (d.row r)
  -- an accepted payload written again gives a frame of the same bytes
  pub again : (w : Writer) (r : R) (buf s : List ℕ) → Bytes s → read_as d s ≡ given r → written_as d w r buf ≡ with_frame d.kind w s buf
  -- a payload is refused exactly when one of its cases holds, by the first
  pub refused_22 : (s : List ℕ) → (read_as d s ≡ refused 22) ↔ (LengthOf d.layout (length s) → ⊥)
  pub refused_23 : (s : List ℕ) → (read_as d s ≡ refused 23) ↔ (LengthOf d.layout (length s) × (allowed_body d.layout (decode_body d.layout s) ≡ false))
