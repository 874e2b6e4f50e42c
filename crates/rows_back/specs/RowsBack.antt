-- Numbers that were written come back: the frame is found, and its payload is read as those very numbers.
use Rattle.std.specs.Prelude.{ℕ, ◌^◌, ◌≤◌, ◌<◌, ◌≡◌, true, List, length, get_or}
use Rattle.refusals.specs.Refusals.{given}
use Rattle.senders.specs.Senders.{carried, HeldWriter}
use Rattle.senders.specs.declared.Writer.{Writer}
use Rattle.frames.specs.Step.{step_at, payload_in}
use Rattle.frames.specs.declared.step.Frame.{Frame}
use Rattle.frames.specs.declared.step.Step.TheVariants.{Found}
use Rattle.payloads.specs.Payloads.{Described, messages, AllOf}
use Rattle.row_reader.specs.ReadRow.{read_row}
use Rattle.row_writer.specs.WriteRow.{alone, write_row, row_written}

-- every number has 64 bits, as those of a lent row have
abbrev pub Words : List ℕ → Type 0
Words ns = (i : ℕ) → get_or ns i 0 < 2 ^ 64

-- a frame at the start of a buffer
abbrev pub framed : ℕ → ℕ → ℕ → Frame
framed kind sender n = record { at = 0; kind = kind; sender = sender; length = n }

-- of a message without a tail, where its numbers are written at all
abbrev pub RowsBack : Described → Type 0
RowsBack m =
    let d = m.description in
    (w : Writer) (ns buf : List ℕ) (n : ℕ) → alone d.layout ≡ true → HeldWriter w → Words ns → write_row d.kind ns (length buf) ≡ given n
    → (room : ℕ) → length ns ≤ room
    → (f : Frame) × (step_at (row_written d.kind w ns buf) 0 ≡ Found f) × (f.sender ≡ carried d.kind w)
    × (read_row f.kind (payload_in (row_written d.kind w ns buf) f) room ≡ given ns)

abbrev pub AllBack : Type 0
AllBack = AllOf RowsBack messages
