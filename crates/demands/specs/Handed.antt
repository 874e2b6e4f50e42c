-- All calls of `next` on a capture, one after the other from the start to where it hands out no frame.
use Rattle.std.specs.Prelude.{ℕ, ◌≡◌, Bool, true, List, length}
use Rattle.frames.specs.Step.{step_at}
use Rattle.frames.specs.declared.step.Step.TheVariants.{Short}
use Rattle.frames.specs.Reading.{steps, frames_of, counts_of}
use Rattle.frames.specs.Cursors.{counts_in, next_of, after, Led}
use Rattle.frames.specs.declared.cursor.Cursor.{Cursor}
use Rattle.frames.specs.declared.cursor.Next as Next

-- a reading stops at the end or, open, at a short, and says what that needs
abbrev pub Stops : Bool → List ℕ → Next.Next → Type 0
Stops opened s (Next.TheVariants.Frame f c) = ⊥
Stops opened s (Next.TheVariants.End c) = c.at ≡ length s
Stops opened s (Next.TheVariants.Needs n c) = (opened ≡ true) × (step_at s c.at ≡ Short n)

-- they have handed out the frames of the reading's steps, in order, and end with the counts of these steps
pub record Handed (opened : Bool) (s : List ℕ) : Type 0 where
  pub last : Cursor
  pub frames : Led opened s (frames_of (steps opened s 0)) last
  pub stops : Stops opened s (next_of s last)
  pub counts : counts_in (after (next_of s last)) ≡ counts_of (steps opened s 0)
