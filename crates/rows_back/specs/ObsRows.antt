-- OBS, 0x0049, as C and Rust read and write it: which number stands where, in document 01's own numbers.
use Rattle.std.specs.Prelude.{ℕ, ◌+◌, ◌*◌, ◌/◌, ◌≤◌, ◌<◌, ◌≡◌, cond, List, [], ◌∷◌, ◌++◌, ◌⊎◌, ltb, length, get_or, take, drop}
use Rattle.refusals.specs.Refusals.{refused, given}
use Rattle.wire.specs.Number.{Bytes, number_at}
use Rattle.senders.specs.Senders.{carried, HeldWriter}
use Rattle.senders.specs.declared.Writer.{Writer}
use Rattle.frames.specs.Step.{step_at, payload_in}
use Rattle.frames.specs.declared.step.Step.TheVariants.{Found}
use Rattle.row_reader.specs.ReadRow.{read_row, read_one}
use Rattle.row_writer.specs.WriteObsRow.{write_obs_row, obs_row_written}
use Rattle.rows_back.specs.RowsBack.{Words, framed}

-- "16k + 7, k 0..15"
abbrev pub Holds : List ℕ → ℕ → Type 0
Holds s k = (length s ≡ 16 * k + 7) × (k ≤ 15)

-- tow u32, wn u16, n_obs u8, then how many observations follow
abbrev pub shown : List ℕ → ℕ → List ℕ
shown s k = number_at 4 s 0 ∷ number_at 2 s 4 ∷ number_at 1 s 6 ∷ k ∷ []

-- 32 bits in two's complement as 64: from the half on, all upper bits are set
abbrev pub widened : ℕ → ℕ
widened n = cond (ltb n 0x80000000) n (n + 0xffffffff00000000)

-- the observation at b: P u32, L.i s32, L.f u8, cn0 u8, lock u16, sat u16, code u8, reserved u8
abbrev pub eight_at : List ℕ → ℕ → List ℕ
eight_at s b =
    number_at 4 s b ∷
    widened (number_at 4 s (b + 4)) ∷
    number_at 1 s (b + 8) ∷
    number_at 1 s (b + 9) ∷
    number_at 2 s (b + 10) ∷
    number_at 2 s (b + 12) ∷
    number_at 1 s (b + 14) ∷
    number_at 1 s (b + 15) ∷
    []

-- what the fields of a header hold, and those of an observation
abbrev pub InHead : List ℕ → Type 0
InHead hs = (get_or hs 0 0 < 0x100000000) × (get_or hs 1 0 < 0x10000) × (get_or hs 2 0 < 0x100)

abbrev pub InEight : List ℕ → Type 0
InEight ns =
    (get_or ns 0 0 < 0x100000000)
    × ((get_or ns 1 0 < 0x80000000) ⊎ (0xffffffff80000000 ≤ get_or ns 1 0))
    × (get_or ns 2 0 < 0x100)
    × (get_or ns 3 0 < 0x100)
    × (get_or ns 4 0 < 0x10000)
    × (get_or ns 5 0 < 0x10000)
    × (get_or ns 6 0 < 0x100)
    × (get_or ns 7 0 < 0x100)

pub record ObsRows : Type 0 where
  -- the payload: 22 for any other length, then 32
  pub read : (s : List ℕ) (k room : ℕ) → Holds s k → 4 ≤ room → read_row 0x0049 s room ≡ given (shown s k)
  pub read_22 : (s : List ℕ) (room : ℕ) → ((k : ℕ) → Holds s k → ⊥) → read_row 0x0049 s room ≡ refused 22
  pub read_32 : (s : List ℕ) (k room : ℕ) → Holds s k → room < 4 → read_row 0x0049 s room ≡ refused 32
  -- one observation: 21 for another type, 22, 25 for an index at or past k, then 32
  pub one : (s : List ℕ) (k i room : ℕ) → Bytes s → Holds s k → i < k → 8 ≤ room → read_one 0x0049 s i room ≡ given (eight_at s (7 + 16 * i))
  pub one_21 : (kind : ℕ) (s : List ℕ) (i room : ℕ) → (kind ≡ 0x0049 → ⊥) → read_one kind s i room ≡ refused 21
  pub one_22 : (s : List ℕ) (i room : ℕ) → ((k : ℕ) → Holds s k → ⊥) → read_one 0x0049 s i room ≡ refused 22
  pub one_25 : (s : List ℕ) (k i room : ℕ) → Holds s k → k ≤ i → read_one 0x0049 s i room ≡ refused 25
  pub one_32 : (s : List ℕ) (k i room : ℕ) → Holds s k → i < k → room < 8 → read_one 0x0049 s i room ≡ refused 32
  -- three numbers and eight for each observation are written where the fields hold them and the frame has room
  pub taken : (hs ns : List ℕ) (k room : ℕ) → length hs ≡ 3 → InHead hs → length ns ≡ 8 * k → ((i : ℕ) → i < k → InEight (drop (8 * i) ns)) → k ≤ 15
      → 16 * k + 15 ≤ room → write_obs_row 0x0049 hs ns room ≡ given (16 * k + 15)
  -- what was written: the frame is found, and its payload gives the numbers back
  pub back : (w : Writer) (hs ns buf : List ℕ) (n : ℕ) → HeldWriter w → Words hs → Words ns → write_obs_row 0x0049 hs ns (length buf) ≡ given n
      → let k = length ns / 8 in
      let t = obs_row_written 0x0049 w hs ns buf in
      let f = framed 0x0049 (carried 0x0049 w) (16 * k + 7) in
      let s = payload_in t f in
      (n ≡ 16 * k + 15)
      × (step_at t 0 ≡ Found f)
      × ((room : ℕ) → 4 ≤ room → read_row 0x0049 s room ≡ given (hs ++ k ∷ []))
      × ((i room : ℕ) → i < k → 8 ≤ room → read_one 0x0049 s i room ≡ given (take 8 (drop (8 * i) ns)))
