-- Whole readings: the steps of a capture, each with its position; closed and open differ only in what a short does. And the counts.
use Rattle.std.specs.Prelude.{ℕ, zero, suc, pred, ◌+◌, ◌<◌, Bool, true, false, cond, ◌&&◌, List, [], ◌∷◌, drop, nat_le, nat_lt}
use Rattle.frames.specs.Step.{step_of, step_at, passed, ends}
use Rattle.frames.specs.declared.step.Frame.{Frame}
use Rattle.frames.specs.declared.step.Step.{Step}
use Rattle.frames.specs.declared.step.Step.TheVariants.{Finished, Junk, Short, Bad, Found}
use Rattle.frames.specs.declared.cursor.Counts.{Counts}

-- ---- the steps

pub record Positioned : Type 0 where
  pub at : ℕ
  pub step : Step

-- where a reading stops: at the end and, in open reading, at a short
abbrev pub stops : Bool → Step → Bool
stops opened Finished = true
stops opened Junk = false
stops opened (Short n) = opened
stops opened Bad = false
stops opened (Found f) = false

-- the steps from position p on, when k bytes of the frame before are still to be skipped
unfoldable pub read_from : Bool → ℕ → ℕ → List ℕ → List Positioned
unfolding step_of
read_from opened k p [] = []
read_from opened zero p (b ∷ t) =
    let step = step_of p (b ∷ t) in
    cond (stops opened step) [] (record { at = p; step = step } ∷ read_from opened (pred (passed step)) (suc p) t)
read_from opened (suc k) p (b ∷ t) = read_from opened k (suc p) t

-- the steps from a position of a capture on
abbrev pub steps : Bool → List ℕ → ℕ → List Positioned
steps opened s p = read_from opened 0 p (drop p s)

abbrev pub closed_steps : List ℕ → List Positioned
closed_steps s = steps false s 0

abbrev pub open_steps : List ℕ → List Positioned
open_steps s = steps true s 0

-- the step at p, with its position
abbrev pub positioned : List ℕ → ℕ → Positioned
positioned s p = record { at = p; step = step_at s p }

-- steps that follow one another from p to e: each is the capture's own at its position, and the next begins where it ends
pub data Tiled (s : List ℕ) : ℕ → ℕ → List Positioned → Type 0 where
  done : {p : ℕ} → Tiled s p p []
  then : {p e : ℕ} {xs : List Positioned} → p < e → Tiled s (ends s p) e xs → Tiled s p e (positioned s p ∷ xs)

-- whether position i lies in a step, and in how many of them
abbrev pub holds : ℕ → Positioned → Bool
holds i x = nat_le x.at i && nat_lt i (x.at + passed x.step)

unfoldable pub holding : ℕ → List Positioned → ℕ
holding i [] = 0
holding i (x ∷ xs) = cond (holds i x) 1 0 + holding i xs

abbrev pub is_short : Step → Bool
is_short Finished = false
is_short Junk = false
is_short (Short n) = true
is_short Bad = false
is_short (Found f) = false

-- the steps before the first short
unfoldable pub before_short : List Positioned → List Positioned
before_short [] = []
before_short (x ∷ xs) = cond (is_short x.step) [] (x ∷ before_short xs)

-- the frames among steps
abbrev pub frames_in : Step → List Frame → List Frame
frames_in Finished fs = fs
frames_in Junk fs = fs
frames_in (Short n) fs = fs
frames_in Bad fs = fs
frames_in (Found f) fs = f ∷ fs

unfoldable pub frames_of : List Positioned → List Frame
frames_of [] = []
frames_of (x ∷ xs) = frames_in x.step (frames_of xs)

-- ---- the counts

-- what a step counts: the bytes that it passes, under its kind
abbrev pub counted : Step → Counts
counted Finished = record { framed = 0; junk = 0; bad = 0; short = 0 }
counted Junk = record { framed = 0; junk = 1; bad = 0; short = 0 }
counted (Short n) = record { framed = 0; junk = 0; bad = 0; short = 1 }
counted Bad = record { framed = 0; junk = 0; bad = 1; short = 0 }
counted (Found f) = record { framed = f.length + 8; junk = 0; bad = 0; short = 0 }

abbrev pub added : Counts → Counts → Counts
added a b = record { framed = a.framed + b.framed; junk = a.junk + b.junk; bad = a.bad + b.bad; short = a.short + b.short }

-- each count is that of the steps of its kind
unfoldable pub counts_of : List Positioned → Counts
counts_of [] = record { framed = 0; junk = 0; bad = 0; short = 0 }
counts_of (x ∷ xs) = added (counted x.step) (counts_of xs)

-- the four counts together
abbrev pub sum_of : Counts → ℕ
sum_of c = c.framed + c.junk + c.bad + c.short
