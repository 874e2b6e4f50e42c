-- What a cursor answers, and what that tells of the whole reading.
use Rattle.std.specs.Prelude.{◌≡◌, ℕ, ◌+◌, ◌%◌, ◌^◌, ◌≤◌, Bool, true, false, cond, not, List, [], ◌∷◌, ◌++◌, length}
use Rattle.frames.specs.Step.{step_at, passed}
use Rattle.frames.specs.Reading.{Positioned, read_from, steps, frames_of, counted, counts_of, added, sum_of}
use Rattle.frames.specs.declared.step.Frame.{Frame}
use Rattle.frames.specs.declared.step.Step.{Step}
use Rattle.frames.specs.declared.step.Step.TheVariants.{Finished, Junk, Short, Bad, Found}
use Rattle.frames.specs.declared.cursor.Counts.{Counts}
use Rattle.frames.specs.declared.cursor.Cursor.{Cursor}
use Rattle.frames.specs.declared.cursor.Next as Next
use Rattle.frames.specs.declared.cursor.Reached.{Reached}

abbrev pub begun : Bool → Cursor
begun opened = record { at = 0; opened = opened; framed = 0; junk = 0; bad = 0; short = 0 }

abbrev pub counts_in : Cursor → Counts
counts_in c = record { framed = c.framed; junk = c.junk; bad = c.bad; short = c.short }

-- a sum that wraps, so that no value of a cursor traps
abbrev pub plus : ℕ → ℕ → ℕ
plus a b = (a + b) % 2 ^ 64

-- further by n bytes, and with what they count
abbrev pub past : Cursor → ℕ → Counts → Cursor
past c n k =
    record { at = plus c.at n; opened = c.opened; framed = plus c.framed k.framed; junk = plus c.junk k.junk; bad = plus c.bad k.bad; short = plus c.short k.short }

-- past a step
abbrev pub over : Cursor → Step → Cursor
over c x = past c (passed x) (counted x)

-- what a cursor passes over on its way to the next frame
abbrev pub passes : Bool → Step → Bool
passes opened Finished = false
passes opened Junk = true
passes opened (Short n) = not opened
passes opened Bad = true
passes opened (Found f) = false

-- its answer at a step that it does not pass over
abbrev pub ended : Cursor → Step → Next.Next
ended c Finished = Next.TheVariants.End c
ended c Junk = Next.TheVariants.End c
ended c (Short n) = Next.TheVariants.Needs n c
ended c Bad = Next.TheVariants.End c
ended c (Found f) = Next.TheVariants.Frame f (over c (Found f))

-- over the steps that are left to the first frame, or to where the reading stops
unfoldable pub answer : List ℕ → Cursor → List Positioned → Next.Next
answer s c [] = ended c (step_at s c.at)
answer s c (x ∷ xs) = cond (passes c.opened x.step) (answer s (over c x.step) xs) (ended c x.step)

unfoldable pub next_of : List ℕ → Cursor → Next.Next
unfolding read_from answer
next_of s c = answer s c (steps c.opened s c.at)

-- an answer in numbers: 0 a frame, 1 the end, 2 more bytes are needed; where there is no frame its numbers are 0
abbrev pub no_frame : Frame
no_frame = record { at = 0; kind = 0; sender = 0; length = 0 }

abbrev pub reached_in : Next.Next → Reached
reached_in (Next.TheVariants.Frame f c) = record { number = 0; needed = 0; frame = f; cursor = c }
reached_in (Next.TheVariants.End c) = record { number = 1; needed = 0; frame = no_frame; cursor = c }
reached_in (Next.TheVariants.Needs n c) = record { number = 2; needed = n; frame = no_frame; cursor = c }

-- the cursor that an answer hands back
abbrev pub after : Next.Next → Cursor
after (Next.TheVariants.Frame f c) = c
after (Next.TheVariants.End c) = c
after (Next.TheVariants.Needs n c) = c

-- ---- what that tells of the whole reading

-- the frames that a cursor has left
abbrev pub remaining : Bool → List ℕ → Cursor → List Frame
remaining opened s c = frames_of (steps opened s c.at)

-- what an answer tells, where fs are the frames that were left: the first of them and a cursor from which the others are left, or that there are none
abbrev pub Says : Bool → List ℕ → List Frame → Next.Next → Type 0
Says opened s fs (Next.TheVariants.Frame f c) = fs ≡ f ∷ remaining opened s c
Says opened s fs (Next.TheVariants.End c) = (fs ≡ []) × (c.at ≡ length s)
Says opened s fs (Next.TheVariants.Needs n c) = (fs ≡ []) × (step_at s c.at ≡ Short n) × (opened ≡ true)

-- a cursor that stands in the capture; its counts are those of the bytes behind it, and with those of the steps left they make the reading's
pub record Honest (opened : Bool) (s : List ℕ) (c : Cursor) : Type 0 where
  pub mode : c.opened ≡ opened
  pub inside : c.at ≤ length s
  pub every : sum_of (counts_in c) ≡ c.at
  pub whole : added (counts_in c) (counts_of (steps opened s c.at)) ≡ counts_of (steps opened s 0)

-- calls of next from the start on have handed out the frames fs, and led to the cursor c
pub data Led (opened : Bool) (s : List ℕ) : List Frame → Cursor → Type 0 where
  start : Led opened s [] (begun opened)
  more : {fs : List Frame} {c d : Cursor} {f : Frame} → Led opened s fs c → next_of s c ≡ Next.TheVariants.Frame f d → Led opened s (fs ++ f ∷ []) d
