-- Document 01, "Finding frames and resuming", in the capture's own positions: the first of the five lines that holds at p decides the step
-- there. Each line stands with what the lines before it left; the third has two cases.
use Rattle.std.specs.Prelude.{◌≡◌, ℕ, ◌+◌, ◌-◌, ◌<◌, ◌≤◌, List, length, take, drop, ◌≢◌, slice_index, slice_index_or}
use Rattle.wire.specs.Number.{number_at}
use Rattle.crc.specs.Crc.{crc_from}
use Rattle.frames.specs.declared.step.Frame.{Frame}
use Rattle.frames.specs.declared.step.Step.{Step}
use Rattle.frames.specs.declared.step.Step.TheVariants.{Finished, Junk, Short, Bad, Found}

module _ (s : List ℕ) (p : ℕ) where
  -- the bytes that remain from p, the payload length N that is stated, the CRC over type through payload, the CRC that was sent, the frame
  abbrev pub left : ℕ
  left = length s - p

  abbrev pub size : ℕ
  size = slice_index s (p + 5)

  abbrev pub sum : ℕ
  sum = crc_from 0 (take (size + 5) (drop (p + 1) s))

  abbrev pub sent : ℕ
  sent = number_at 2 s (p + size + 6)

  abbrev pub frame : Frame
  frame = record { at = p; kind = number_at 2 s (p + 1); sender = number_at 2 s (p + 3); length = size }

  pub data Decides : Step → Type 0 where
    -- 1. p is at or past the end
    finished : length s ≤ p → Decides Finished
    -- 2. the byte is not 0x55
    junk : p < length s → (slice_index s p ≢ 0x55) → Decides Junk
    -- 3. fewer than 6 bytes remain, or fewer than N + 8
    headless : p < length s → slice_index s p ≡ 0x55 → left < 6 → Decides (Short 6)
    cut : slice_index_or s p 0 ≡ 0x55 → 6 ≤ left → left < size + 8 → Decides (Short (size + 8))
    -- 4. the CRC differs
    bad : slice_index_or s p 0 ≡ 0x55 → size + 8 ≤ left → (sum ≢ sent) → Decides Bad
    -- 5. a frame
    found : slice_index_or s p 0 ≡ 0x55 → size + 8 ≤ left → sum ≡ sent → Decides (Found frame)
