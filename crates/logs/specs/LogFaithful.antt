-- What is promised of LOG: it is faithful as every message is, and what the code reads and writes of it is that message, with the refusals and
-- the split in document 02's words.
use Rattle.std.specs.Prelude.{ℕ, ◌+◌, ◌<◌, ◌≡◌, true, List, ◌∷◌, ◌++◌, ◌↔◌, length, get_or, drop}
use Rattle.wire.specs.Number.{Bytes}
use Rattle.padded.specs.Padded.{no_zero, zeros}
use Rattle.refusals.specs.Refusals.{refused, given, ordered}
use Rattle.senders.specs.Senders.{HeldWriter}
use Rattle.senders.specs.declared.Writer.{Writer}
use Rattle.frames.specs.Step.{payload_in}
use Rattle.frame_writer.specs.Writer.{writing_frame, with_frame}
use Rattle.frame_writer.specs.Faithful.{Faithful, write_answer, written_as, frame_written}
use Rattle.logs.specs.Log.{log, logged, text_in, read_log, log_length}
use Rattle.logs.specs.declared.log.Log.{Log}

-- "a nonzero byte after a zero", both after the level
abbrev pub NonzeroAfterZero : List ℕ → Type 0
NonzeroAfterZero s = (i : ℕ) × (j : ℕ) × (0 < i) × (i < j) × (get_or s i 0 ≡ 0) × (get_or s j 0 ≡ 0 → ⊥)

pub record LogFaithful : Type 0 where
  pub message : Faithful log
  -- 23 exactly for such a byte in a payload of 1 to 255 bytes
  pub read_23 : (s : List ℕ) → (read_log s ≡ refused 23) ↔ ((log_length (length s) ≡ true) × NonzeroAfterZero s)
  -- an accepted payload is a text without a zero and then zeros in one way, which the code shows
  pub one_split : (s : List ℕ) (l : Log) → read_log s ≡ given l → (t : List ℕ) (n : ℕ)
      → ((no_zero t ≡ true) × (drop 1 s ≡ t ++ zeros n)) ↔ ((t ≡ text_in s) × (n ≡ l.padding))
  -- "23 for a zero in the text, however long it is; then 31 where 1 + text + padding is over 255; then 32"
  pub written_by : (level : ℕ) (text : List ℕ) (padding room : ℕ)
      → write_answer log (logged level text padding) room ≡ ordered ((no_zero text, 23) ∷ writing_frame (1 + length text + padding) room) (1 + length text + padding + 8)
  -- the frame that is written, which is found as every message's is, has a payload that gives the level, the text and the padding back
  pub back : (w : Writer) (level : ℕ) (text : List ℕ) (padding : ℕ) (buf : List ℕ) {n : ℕ} → HeldWriter w → level < 256 → Bytes text
      → write_answer log (logged level text padding) (length buf) ≡ given n
      → let s = payload_in (written_as log w (logged level text padding) buf) (frame_written log w (logged level text padding)) in
      (read_log s ≡ given (record { level = level; length = length text; padding = padding })) × (text_in s ≡ text)
  -- an accepted payload written again gives a frame of the same bytes: the level and the padding that were read, and the text of the payload
  pub again : (w : Writer) (l : Log) (buf s : List ℕ) → Bytes s → read_log s ≡ given l
      → written_as log w (logged l.level (text_in s) l.padding) buf ≡ with_frame log.kind w s buf
