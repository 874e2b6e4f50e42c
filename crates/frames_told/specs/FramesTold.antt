-- What a call of `sbp_next` or of `sbp_totals` tells by its number and its row, in document 01's words and with the numbers of link/include/sbp.h.
use Rattle.std.specs.Prelude.{ℕ, ◌+◌, ◌^◌, ◌≤◌, ◌<◌, ◌≡◌, Bool, true, false, cond, List, [], ◌∷◌, ◌++◌, ◌↔◌, length, drop}
use Rattle.wire.specs.Number.{Bytes, number_at}
use Rattle.frames.specs.Step.{step_at, passed}
use Rattle.frames.specs.Reading.{Positioned, steps, closed_steps, frames_of}
use Rattle.frames.specs.declared.step.Frame.{Frame}
use Rattle.frames.specs.declared.step.Step.{Step}
use Rattle.frames.specs.declared.step.Step.TheVariants.{Finished, Junk, Short, Bad, Found}
use Rattle.frame_rows.specs.Found.{next_answer, next_stored}
use Rattle.frame_rows.specs.Totals.{totals_answer, totals_stored}
use Rattle.frames_told.specs.Counting.{junks_in, bads_in, shorts_in, frame_bytes_in}

-- ---- the numbers in a row of `sbp_next`

-- the frame that it shows
abbrev pub shown_frame : List ℕ → Frame
shown_frame row = record { at = number_at 8 row 0; kind = number_at 2 row 48; sender = number_at 2 row 50; length = number_at 1 row 52 }

-- where to go on, and the bytes needed from there
abbrev pub goes_on_at : List ℕ → ℕ
goes_on_at row = number_at 8 row 8

abbrev pub needed_in : List ℕ → ℕ
needed_in row = number_at 8 row 16

-- the bytes passed over on the way, for each reason
abbrev pub junk_in : List ℕ → ℕ
junk_in row = number_at 8 row 24

abbrev pub bad_in : List ℕ → ℕ
bad_in row = number_at 8 row 32

abbrev pub short_in : List ℕ → ℕ
short_in row = number_at 8 row 40

-- ---- the way to the first frame

abbrev pub is_frame : Step → Bool
is_frame Finished = false
is_frame Junk = false
is_frame (Short n) = false
is_frame Bad = false
is_frame (Found f) = true

-- the steps before it, which are all where there is none
unfoldable pub before_frame : List Positioned → List Positioned
before_frame [] = []
before_frame (x ∷ xs) = cond (is_frame x.step) [] (x ∷ before_frame xs)

-- where steps from a position on come to
unfoldable pub comes_to : ℕ → List Positioned → ℕ
comes_to p [] = p
comes_to p (x ∷ xs) = comes_to (x.at + passed x.step) xs

-- of the reading of s from at on
module _ (opened : Bool) (s : List ℕ) (at : ℕ) where
  abbrev pub ahead : List Positioned
  ahead = steps opened s at

  -- f is its first frame, and it goes on at next
  pub record FirstFrame (f : Frame) (next : ℕ) : Type 0 where
    pub found : step_at s f.at ≡ Found f
    pub parts : ahead ≡ before_frame ahead ++ record { at = f.at; step = Found f } ∷ steps opened s next
    pub frames : frames_of ahead ≡ f ∷ frames_of (steps opened s next)
    pub size : next ≡ f.at + f.length + 8
    pub within : next ≤ length s

  -- the step where it stops
  abbrev pub stop : Step
  stop = step_at s (comes_to at ahead)

  -- it has no frame, and comes to the end
  abbrev pub Ends : Type 0
  Ends = (frames_of ahead ≡ []) × (stop ≡ Finished)

  -- it has no frame, and waits at a short: open reading alone does so
  abbrev pub Waits : Type 0
  Waits = (frames_of ahead ≡ []) × (opened ≡ true) × ((n : ℕ) × (stop ≡ Short n))

  module _ (row : List ℕ) where
    -- no frame is shown, and the row says twice where the reading stopped
    pub record NoFrame : Type 0 where
      pub shown : shown_frame row ≡ record { at = goes_on_at row; kind = 0; sender = 0; length = 0 }
      pub stopped : goes_on_at row ≡ comes_to at ahead

    -- each count of the row is that of the steps of its kind on the way
    pub record PassedOver : Type 0 where
      pub junk : junk_in row ≡ junks_in (before_frame ahead)
      pub bad : bad_in row ≡ bads_in (before_frame ahead)
      pub short : short_in row ≡ shorts_in (before_frame ahead)

    -- what a call tells by its number and its row
    pub record NextTold (number : ℕ) : Type 0 where
      -- one of three numbers: 0 exactly where a frame is left, 1 where the reading ends, 2 where more bytes are needed
      pub known : number ≤ 2
      pub frame : (number ≡ 0) ↔ (frames_of ahead ≡ [] → ⊥)
      pub end : (number ≡ 1) ↔ Ends
      pub more : (number ≡ 2) ↔ Waits
      -- and what the row shows with each
      pub of_frame : number ≡ 0 → FirstFrame (shown_frame row) (goes_on_at row) × (needed_in row ≡ 0)
      pub of_end : number ≡ 1 → NoFrame × (needed_in row ≡ 0) × (at ≤ length s → goes_on_at row ≡ length s)
      pub of_more : number ≡ 2 → NoFrame × (step_at s (goes_on_at row) ≡ Short (needed_in row))
      pub passed_over : PassedOver

-- ---- the two functions

-- a capture as C lends it: bytes, as many as a size_t tells
abbrev pub AsLent : List ℕ → Type 0
AsLent s = Bytes s × (length s < 2 ^ 64)

-- a row of n bytes at the start of lent memory; all else there is as it was
abbrev pub OnlyFirst : ℕ → List ℕ → List ℕ → Type 0
OnlyFirst n lent left = (drop n left ≡ drop n lent) × (length left ≡ length lent)

-- what a row of `sbp_totals` shows: frame bytes, junk, bad, short of the closed reading
pub record TotalsShown (s row : List ℕ) : Type 0 where
  pub framed : number_at 8 row 0 ≡ frame_bytes_in (closed_steps s)
  pub junk : number_at 8 row 8 ≡ junks_in (closed_steps s)
  pub bad : number_at 8 row 16 ≡ bads_in (closed_steps s)
  pub short : number_at 8 row 24 ≡ shorts_in (closed_steps s)

pub record FramesTold : Type 0 where
  -- `sbp_next`, where the row has room
  pub next : (opened : Bool) (s : List ℕ) → AsLent s → (at : ℕ) → at < 2 ^ 64 → (buf : List ℕ) → 53 ≤ length buf
      → NextTold opened s at (next_stored s at opened buf) (next_answer s at opened (length buf))
      × OnlyFirst 53 buf (next_stored s at opened buf)
  -- 32 exactly where it has none, and nothing is stored
  pub next_32 : (opened : Bool) (s : List ℕ) (at room : ℕ) → (next_answer s at opened room ≡ 32) ↔ (room < 53)
  pub next_untouched : (opened : Bool) (s : List ℕ) (at : ℕ) (buf : List ℕ) → length buf < 53 → next_stored s at opened buf ≡ buf
  -- `sbp_totals`: 0 where the row has room, else 32
  pub totals : (s : List ℕ) → AsLent s → (buf : List ℕ) → 32 ≤ length buf
      → TotalsShown s (totals_stored s buf) × OnlyFirst 32 buf (totals_stored s buf)
  pub totals_0 : (s : List ℕ) (room : ℕ) → (totals_answer s room ≡ 0) ↔ (32 ≤ room)
  pub totals_32 : (s : List ℕ) (room : ℕ) → (totals_answer s room ≡ 32) ↔ (room < 32)
  pub totals_untouched : (s buf : List ℕ) → length buf < 32 → totals_stored s buf ≡ buf
