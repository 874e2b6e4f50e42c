-- What a call of `sbp_next` tells, answer by answer: its number, and the row of what was found.
use mathlib.Core.Path.{◌≡◌, refl, sym, ap, ◌∙◌, subst, subst⁻¹}
use mathlib.Core.Bool.{Bool}
use mathlib.Core.List.{List, [], ◌∷◌, ◌++◌, append-nil}
use Prim.Native.Nat.{ℕ, ◌^◌, ◌≤◌, ◌<◌}
use native.Mathlib.Omega.{arith}
use lib.ListN.{length}
use Rattle.frames.specs.Step.{step_at}
use Rattle.frames.specs.Reading.{Positioned, frames_of, steps}
use Rattle.frames.specs.Cursors.{next_of, Says}
use Rattle.frames.specs.declared.step.Frame.{Frame}
use Rattle.frames.specs.declared.step.Step.{Step}
use Rattle.frames.specs.declared.step.Step.TheVariants.{Finished, Short}
use Rattle.frames.specs.declared.cursor.Cursor.{Cursor}
use Rattle.frames.specs.declared.cursor.Next as Next
use Rattle.frames.proofs.Frames.{found_fits}
use Rattle.frames.proofs.GoingOn.{Answered, answered}
use Rattle.frame_rows.specs.Found.{start_at, nothing_at, found_in, number_in, next_from, next_answer, next_stored}
use Rattle.frame_rows.specs.Shown.{FoundShown}
use Rattle.frame_rows.proofs.LentRows.{next_left}
use Rattle.frame_rows.proofs.ReadBack.{found_shown}
use Rattle.frames_told.specs.FramesTold.{shown_frame, goes_on_at, before_frame, comes_to, FirstFrame, NoFrame, PassedOver, NextTold, AsLent}
use Rattle.frames_told.proofs.Befores.{frames_after}
use Rattle.frames_told.proofs.Comes.{rest, Stands, Came, came_by}
use Rattle.frames_told.proofs.RowCounts.{passed_over}
use Rattle.frames_told.proofs.Rooms.{with_room}

never : {x : Step} {n : ℕ} → x ≡ Finished → x ≡ Short n → ⊥
never p q = let z : ◌≡◌ {A = ℕ} 0 1 = cc in omega arith

module _ (opened : Bool) (s : List ℕ) (at : ℕ) (row : List ℕ) where
  abbrev ahead : List Positioned
  ahead = steps opened s at

  -- ---- where no frame is left

  module _ {n : Next.Next} (came : Came s opened at ahead n) (none : rest s opened n ≡ []) where
    all_ahead : before_frame ahead ≡ ahead
    all_ahead = sym (came.parts ∙ ap (λ (ys : List Positioned). before_frame ahead ++ ys) none ∙ append-nil (before_frame ahead))

    no_frames : frames_of ahead ≡ []
    unfolding frames_of
    no_frames = ap frames_of came.parts ∙ frames_after ahead (rest s opened n) ∙ ap frames_of none

    standing : Stands s opened (comes_to at ahead) n
    standing = subst (λ (xs : List Positioned). Stands s opened (comes_to at xs) n) all_ahead came.stands

  nothing : (c : Cursor) {needed : ℕ} → FoundShown row (nothing_at c needed) → c.at ≡ comes_to at ahead → NoFrame opened s at row
  nothing c shown there = record {
    shown = λ i. record { at = (shown.at ∙ sym shown.next) i; kind = shown.kind i; sender = shown.sender i; length = shown.length i };
    stopped = shown.next ∙ there;
  }

  -- ---- the three answers

  module _ (passed : PassedOver opened s at row) where
    tells : {number : ℕ} (n : Next.Next) → number ≡ number_in n → FoundShown row (found_in n) → Came s opened at ahead n
        → (at ≤ length s → Says opened s (frames_of ahead) n) → NextTold opened s at row number
    unfolding frames_of
    tells (Next.TheVariants.Frame f d) e shown came says =
        let same : shown_frame row ≡ f = λ i. record { at = shown.at i; kind = shown.kind i; sender = shown.sender i; length = shown.length i } in
        let there = came.stands in
        let frames : frames_of ahead ≡ f ∷ frames_of (steps opened s d.at)
        = ap frames_of came.parts ∙ frames_after ahead (rest s opened (Next.TheVariants.Frame f d)) in
        let some : frames_of ahead ≡ [] → ⊥ = λ none. (let z : ◌≡◌ {A = ℕ} 0 1 = cc in omega arith) in
        let first : FirstFrame opened s at f d.at
        = record {
          found = ap (step_at s) there.1 ∙ there.0;
          parts = came.parts;
          frames = frames;
          size = omega (arith, there);
          within = omega (arith, there, found_fits s _ there.0);
        } in
        record {
          known = omega arith;
          frame = (λ _. some, λ _. e);
          end = (λ z. absurd (omega arith), λ h. absurd (some h.0));
          more = (λ z. absurd (omega arith), λ h. absurd (some h.0));
          of_frame = λ _. (
            subst⁻¹ (λ (g : Frame). FirstFrame opened s at g (goes_on_at row)) same (subst⁻¹ (FirstFrame opened s at f) shown.next first),
            shown.needed,
          );
          of_end = λ z. absurd (omega arith);
          of_more = λ z. absurd (omega arith);
          passed_over = passed;
        }
    tells (Next.TheVariants.End d) e shown came says =
        let none = no_frames came refl in
        let there = standing came refl in
        record {
          known = omega arith;
          frame = (λ z. absurd (omega arith), λ some. absurd (some none));
          end = (λ _. (none, there.0), λ _. e);
          more = (λ z. absurd (omega arith), λ h. absurd (never there.0 h.2.1));
          of_frame = λ z. absurd (omega arith);
          of_end = λ _. (nothing d shown there.1, shown.needed, λ inside. shown.next ∙ (says inside).1);
          of_more = λ z. absurd (omega arith);
          passed_over = passed;
        }
    tells (Next.TheVariants.Needs n d) e shown came says =
        let none = no_frames came refl in
        let there = standing came refl in
        record {
          known = omega arith;
          frame = (λ z. absurd (omega arith), λ some. absurd (some none));
          end = (λ z. absurd (omega arith), λ h. absurd (never h.1 there.0));
          more = (λ _. (none, there.2, (n, there.0)), λ _. e);
          of_frame = λ z. absurd (omega arith);
          of_end = λ z. absurd (omega arith);
          of_more = λ _. (
            nothing d shown there.1,
            ap (step_at s) (shown.next ∙ there.1) ∙ there.0 ∙ ap (λ (k : ℕ). Short k) (sym shown.needed),
          );
          passed_over = passed;
        }

module _ (opened : Bool) (s : List ℕ) (lent : AsLent s) (at : ℕ) (inside : at < 2 ^ 64) (buf : List ℕ) (room : 53 ≤ length buf) where
  abbrev found : Next.Next
  found = next_of s (start_at at opened)

  how : Answered opened s (start_at at opened) found
  how = answered s lent.1 opened (start_at at opened) refl

  number : next_answer s at opened (length buf) ≡ number_in found
  unfolding next_from
  number = with_room found number_in 53 (length buf) room

  pub next_told : NextTold opened s at (next_stored s at opened buf) (next_answer s at opened (length buf))
  next_told =
      tells opened s at (next_stored s at opened buf) (passed_over opened s lent at inside buf room) found number
      (found_shown s lent.0 lent.1 at inside opened buf room) (came_by s opened lent.1 how) (next_left s lent.1 at opened)
