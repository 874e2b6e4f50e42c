-- A row stored at the start of a lent buffer that has room; and what `sbp_next` says of a reading.
use mathlib.Core.Path.{◌≡◌, refl, ap, ◌∙◌}
use mathlib.Core.Bool.{Bool}
use mathlib.Core.List.{List}
use Prim.Native.Nat.{ℕ, ◌^◌, ◌≤◌, ◌<◌}
use lib.ListN.{length}
use borrow.Author.Tests.{le-leb}
use Rattle.refusals.specs.Refusals.{ordered, leaves, as_number, room_for}
use Rattle.layouts.specs.Field.{Field, Row, size, row_stored}
use Rattle.frames.specs.Reading.{steps, frames_of}
use Rattle.frames.specs.Cursors.{next_of, Says}
use Rattle.frames.proofs.NextAnswers.{says}
use Rattle.lent_rows.specs.Lent.{at_front}
use Rattle.frame_rows.specs.Found.{start_at}
use Rattle.lent_rows.proofs.Parts.{stored_front}

module _ {A : Type 0} (fs : List Field) (number : A → ℕ) (values : A → Row fs) (x : A) (buf : List ℕ) where
  -- a number and a buffer as they have to be
  abbrev Out : ℕ → List ℕ → Type 0
  Out m t =
      let answer = ordered (room_for (size fs) (length buf)) x in
      (m ≡ as_number number answer) × (t ≡ leaves (λ y. at_front fs (values y)) answer buf)

  pub row_put : {m : ℕ} {w : Row fs} {t : List ℕ} → size fs ≤ length buf → m ≡ number x → w ≡ values x → t ≡ row_stored fs w buf 0 → Out m t
  row_put h p q e = rw (le-leb (size fs) (length buf) h) (p, e ∙ ap (λ (w : Row fs). row_stored fs w buf 0) q ∙ stored_front fs (values x) buf h)

-- from a position on it gives the first frame that is left of the reading there, and where the others are left; or none
pub next_left : (s : List ℕ) → length s < 2 ^ 64 → (at : ℕ) (opened : Bool) → at ≤ length s → Says opened s (frames_of (steps opened s at)) (next_of s (start_at at opened))
next_left s small at opened h = says s small opened (start_at at opened) refl h
