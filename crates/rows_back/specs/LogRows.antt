-- LOG, 0x0401, as C and Rust read and write it: its level, how long its text is, and how many zeros stand after it. Documents 01, and 02's P1.
use Rattle.std.specs.Prelude.{ℕ, ◌+◌, ◌≤◌, ◌<◌, ◌≡◌, List, [], ◌∷◌, ◌++◌, ◌⊎◌, length, get_or, drop, replicate}
use Rattle.refusals.specs.Refusals.{refused, given}
use Rattle.wire.specs.Number.{number_at}
use Rattle.senders.specs.Senders.{carried, HeldWriter}
use Rattle.senders.specs.declared.Writer.{Writer}
use Rattle.frames.specs.Step.{step_at, payload_in}
use Rattle.frames.specs.declared.step.Step.TheVariants.{Found}
use Rattle.frame_writer.specs.Faithful.{write_answer, written_as}
use Rattle.logs.specs.Log.{log, logged}
use Rattle.logs.specs.LogFaithful.{NonzeroAfterZero}
use Rattle.row_reader.specs.ReadRow.{read_row}
use Rattle.rows_back.specs.RowsBack.{framed}

-- 1 to 255 bytes
abbrev pub Sized : List ℕ → Type 0
Sized s = (1 ≤ length s) × (length s ≤ 255)

abbrev pub NoZero : List ℕ → Type 0
NoZero text = (i : ℕ) → i < length text → get_or text i 0 ≡ 0 → ⊥

-- after the level a text without a zero, then n zeros
abbrev pub Parts : List ℕ → List ℕ → ℕ → Type 0
Parts s text n = (drop 1 s ≡ text ++ replicate n 0) × NoZero text

pub record LogRows : Type 0 where
  -- 22 for the length, 23 for a nonzero byte after a zero, then 32
  pub read : (s text : List ℕ) (n room : ℕ) → Sized s → Parts s text n → 3 ≤ room
      → read_row 0x0401 s room ≡ given (number_at 1 s 0 ∷ length text ∷ n ∷ [])
  pub read_22 : (s : List ℕ) (room : ℕ) → (Sized s → ⊥) → read_row 0x0401 s room ≡ refused 22
  pub read_23 : (s : List ℕ) (room : ℕ) → Sized s → NonzeroAfterZero s → read_row 0x0401 s room ≡ refused 23
  pub read_32 : (s text : List ℕ) (n room : ℕ) → Sized s → Parts s text n → room < 3 → read_row 0x0401 s room ≡ refused 32
  -- there is no other case
  pub either : (s : List ℕ) → Sized s → NonzeroAfterZero s ⊎ ((text : List ℕ) × (n : ℕ) × Parts s text n)
  -- a text without a zero and so many zeros are written where the frame has room
  pub taken : (level : ℕ) (text : List ℕ) (padding room : ℕ) → NoZero text → length text + padding ≤ 254 → length text + padding + 9 ≤ room
      → write_answer log (logged level text padding) room ≡ given (length text + padding + 9)
  -- what was written: the frame is found, with that payload, which gives it back
  pub back : (w : Writer) (level : ℕ) (text : List ℕ) (padding : ℕ) (buf : List ℕ) (n : ℕ) → HeldWriter w → level < 256
      → write_answer log (logged level text padding) (length buf) ≡ given n
      → let s = level ∷ text ++ replicate padding 0 in
      let t = written_as log w (logged level text padding) buf in
      let f = framed 0x0401 (carried 0x0401 w) (length s) in
      (n ≡ length s + 8)
      × (step_at t 0 ≡ Found f)
      × (payload_in t f ≡ s)
      × ((room : ℕ) → 3 ≤ room → read_row 0x0401 (payload_in t f) room ≡ given (level ∷ length text ∷ padding ∷ []))
