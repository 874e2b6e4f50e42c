-- A loop over the frames of a closed reading, one call of next after the other: what holds of the frames that are left goes on to the next
-- cursor, and at the end it holds of none.
use Rattle.std.proofs.Common.{◌≡◌, ℕ, ◌^◌, ◌<◌, false, List, [], ◌∷◌, length, sym, ap, subst, arith}
use mathlib.Core.Bool.{false≢true}
use Rattle.frames.specs.Reading.{closed_steps, frames_of, counts_of}
use Rattle.frames.specs.Cursors.{begun, counts_in, next_of, remaining, Honest}
use Rattle.frames.specs.declared.step.Frame.{Frame}
use Rattle.frames.specs.declared.cursor.Cursor.{Cursor}
use Rattle.frames.specs.declared.cursor.Next as Next
use Rattle.frames.proofs.GoingOn.{honest_begun}
use Rattle.frames.proofs.NextAnswers.{said, honest_end}

-- the frames that a cursor of a closed reading has left
abbrev pub left : List ℕ → Cursor → List Frame
left s c = remaining false s c

-- an honest cursor, and R of the frames that it has left
pub record Walking (s : List ℕ) (R : List Frame → Type 0) (c : Cursor) : Type 0 where
  pub honest : Honest false s c
  pub rest : R (left s c)

module _ (s : List ℕ) (small : length s < 2 ^ 64) where
  pub walking_begun : (R : List Frame → Type 0) {c : Cursor} → R (frames_of (closed_steps s)) → c ≡ begun false → Walking s R c
  walking_begun R r e = subst (Walking s R) (sym e) (record { honest = honest_begun s small false; rest = r })

  module _ {c : Cursor} (honest : Honest false s c) where
    -- a frame is the first of those left
    left_frame : {f : Frame} {d : Cursor} → next_of s c ≡ Next.TheVariants.Frame f d → left s c ≡ f ∷ left s d
    left_frame e = (said s small false honest e).0

    pub left_fewer : {f : Frame} {d : Cursor} → next_of s c ≡ Next.TheVariants.Frame f d → length (left s d) < length (left s c)
    left_fewer e = omega (arith, ap length (left_frame e))

    left_honest : {f : Frame} {d : Cursor} → next_of s c ≡ Next.TheVariants.Frame f d → Honest false s d
    left_honest e = (said s small false honest e).1

    -- at the end there are none, and the counts are those of the whole reading
    pub left_none : {d : Cursor} → next_of s c ≡ Next.TheVariants.End d → left s c ≡ []
    left_none e = (said s small false honest e).0.0

    pub end_counts : {d : Cursor} → next_of s c ≡ Next.TheVariants.End d → counts_in d ≡ counts_of (closed_steps s)
    end_counts e = honest_end s small false honest e

    -- a closed reading needs nothing
    pub never_needs : {n : ℕ} {d : Cursor} → next_of s c ≡ Next.TheVariants.Needs n d → ⊥
    never_needs e = false≢true (said s small false honest e).0.2

  -- from what holds of the frames left before a frame to what holds after it
  pub walking_on : {R : List Frame → Type 0} {Q : List Frame → Type 0} {c d : Cursor} {f : Frame} → Walking s R c → next_of s c ≡ Next.TheVariants.Frame f d
      → (R (f ∷ left s d) → Q (left s d)) → Walking s Q d
  walking_on {R} w e go = record { honest = left_honest w.honest e; rest = go (subst R (left_frame w.honest e) w.rest) }

  pub walking_end : {R : List Frame → Type 0} {c d : Cursor} → Walking s R c → next_of s c ≡ Next.TheVariants.End d → R []
  walking_end {R} w e = subst R (left_none w.honest e) w.rest
