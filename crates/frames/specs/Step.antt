-- The step at a position: document 01, "Finding frames and resuming", line by line.
use Rattle.std.specs.Prelude.{ℕ, ◌+◌, cond, not, List, length, take, drop, ◌==◌, nat_lt, slice_index}
use Rattle.wire.specs.Number.{number_at}
use Rattle.crc.specs.Crc.{crc_from}
use Rattle.frames.specs.declared.step.Frame.{Frame}
use Rattle.frames.specs.declared.step.Step.{Step}
use Rattle.frames.specs.declared.step.Step.TheVariants.{Finished, Junk, Short, Bad, Found}

-- the payload length that a frame at the front of t states
abbrev pub stated : List ℕ → ℕ
stated t = number_at 1 t 5

-- the frame at position p, t being what stands from there on
abbrev pub frame_at : ℕ → List ℕ → Frame
frame_at p t = record { at = p; kind = number_at 2 t 1; sender = number_at 2 t 3; length = stated t }

-- the step at position p, t being what stands from there on
unfoldable pub step_of : ℕ → List ℕ → Step
step_of p t =
    cond (length t == 0) Finished
    (cond (not (slice_index t 0 == 0x55)) Junk
    (cond (nat_lt (length t) 6) (Short 6)
    (cond (nat_lt (length t) (stated t + 8)) (Short (stated t + 8))
    (cond (not (crc_from 0 (take (stated t + 5) (drop 1 t)) == number_at 2 t (stated t + 6))) Bad
    (Found (frame_at p t))))))

abbrev pub step_at : List ℕ → ℕ → Step
step_at s p = step_of p (drop p s)

-- a frame's payload: that part of the capture
unfoldable pub payload_in : List ℕ → Frame → List ℕ
payload_in s f = take f.length (drop (f.at + 6) s)

-- how many bytes a step goes on by
abbrev pub passed : Step → ℕ
passed Finished = 0
passed Junk = 1
passed (Short n) = 1
passed Bad = 1
passed (Found f) = f.length + 8

-- where the step at p ends
abbrev pub ends : List ℕ → ℕ → ℕ
ends s p = p + passed (step_at s p)
