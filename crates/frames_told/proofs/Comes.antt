-- How a reading comes to an answer: past the steps before the first frame, to that frame or to where it stops.
use mathlib.Core.Path.{◌≡◌, refl, sym, ap, ap₂, ◌∙◌, subst, subst⁻¹}
use mathlib.Core.Bool.{Bool, true, false, true≢false, false≢true}
use mathlib.Core.List.{List, [], ◌∷◌, ◌++◌}
use Prim.Native.Nat.{ℕ, ◌+◌, ◌^◌, ◌<◌}
use native.Mathlib.Omega.{arith}
use lib.ListN.{length}
use borrow.Author.Tests.{not-false}
use Rattle.frames.specs.Step.{step_at, passed, ends}
use Rattle.frames.specs.Reading.{Positioned, stops, steps, positioned}
use Rattle.frames.specs.Cursors.{over, passes, ended}
use Rattle.frames.specs.declared.step.Step.{Step}
use Rattle.frames.specs.declared.step.Step.TheVariants.{Finished, Junk, Short, Bad, Found}
use Rattle.frames.specs.declared.cursor.Cursor.{Cursor}
use Rattle.frames.specs.declared.cursor.Next as Next
use Rattle.frames.proofs.Frames.{found_at}
use Rattle.frames.proofs.Readings.{steps_stop, steps_go}
use Rattle.frames.proofs.GoingOn.{here, Answered, pass, end, passed_on, over_ends}
use Rattle.frames_told.specs.FramesTold.{is_frame, before_frame, comes_to}

-- what a cursor passes over is no frame; what it neither passes over nor stops at is one
pub passed_no_frame : (opened : Bool) (x : Step) → passes opened x ≡ true → is_frame x ≡ false
passed_no_frame opened Finished e = refl
passed_no_frame opened Junk e = refl
passed_no_frame opened (Short n) e = refl
passed_no_frame opened Bad e = refl
passed_no_frame opened (Found f) e = absurd (false≢true e)

kept_frame : (opened : Bool) (x : Step) → stops opened x ≡ false → passes opened x ≡ false → is_frame x ≡ true
kept_frame opened Finished h e = absurd (true≢false h)
kept_frame opened Junk h e = absurd (true≢false e)
kept_frame true (Short n) h e = absurd (true≢false h)
kept_frame false (Short n) h e = absurd (true≢false e)
kept_frame opened Bad h e = absurd (true≢false e)
kept_frame opened (Found f) h e = refl

module _ (s : List ℕ) (opened : Bool) where
  -- ---- the steps before the first frame

  pub before_go : (p : ℕ) → stops opened (step_at s p) ≡ false → is_frame (step_at s p) ≡ false
      → before_frame (steps opened s p) ≡ positioned s p ∷ before_frame (steps opened s (ends s p))
  unfolding before_frame
  before_go p e k = ap before_frame (steps_go opened s p e) ∙ rw k

  pub none_before : (p : ℕ) → passes opened (step_at s p) ≡ false → before_frame (steps opened s p) ≡ []
  unfolding before_frame
  none_before p e = by (stops opened (step_at s p)) refl
    where
      by : (t : Bool) → stops opened (step_at s p) ≡ t → before_frame (steps opened s p) ≡ []
      by true h = ap before_frame (steps_stop opened s p h)
      by false h = ap before_frame (steps_go opened s p h) ∙ rw (kept_frame opened (step_at s p) h e)

  -- ---- the answer after them

  -- the steps after them
  abbrev pub rest : Next.Next → List Positioned
  rest (Next.TheVariants.Frame f d) = record { at = f.at; step = Found f } ∷ steps opened s d.at
  rest (Next.TheVariants.End d) = []
  rest (Next.TheVariants.Needs n d) = []

  -- the step at the position p to which they come
  abbrev pub Stands : ℕ → Next.Next → Type 0
  Stands p (Next.TheVariants.Frame f d) = (step_at s p ≡ Found f) × (f.at ≡ p) × (d.at ≡ p + f.length + 8)
  Stands p (Next.TheVariants.End d) = (step_at s p ≡ Finished) × (d.at ≡ p)
  Stands p (Next.TheVariants.Needs n d) = (step_at s p ≡ Short n) × (d.at ≡ p) × (opened ≡ true)

  pub record Came (at : ℕ) (xs : List Positioned) (n : Next.Next) : Type 0 where
    pub parts : xs ≡ before_frame xs ++ rest n
    pub stands : Stands (comes_to at (before_frame xs)) n

  came_over : (p : ℕ) (n : Next.Next) → stops opened (step_at s p) ≡ false → is_frame (step_at s p) ≡ false
      → Came (ends s p) (steps opened s (ends s p)) n → Came p (steps opened s p) n
  unfolding comes_to
  came_over p n e k on =
      let go = before_go p e k in
      record {
        parts = steps_go opened s p e
            ∙ ap (λ (ys : List Positioned). positioned s p ∷ ys) on.parts
            ∙ ap (λ (ys : List Positioned). ys ++ rest n) (sym go);
        stands = subst⁻¹ (λ (ys : List Positioned). Stands (comes_to p ys) n) go on.stands;
      }

  module _ (small : length s < 2 ^ 64) where
    pub came_by : {c : Cursor} {n : Next.Next} → Answered opened s c n → Came c.at (steps opened s c.at) n
    unfolding before_frame comes_to
    came_by (pass {c = c} {n = n} e a) =
        let on = passed_on opened (here s c) e in
        came_over c.at n on (passed_no_frame opened (here s c) e)
        (subst (λ (p : ℕ). Came p (steps opened s p) n) (over_ends s small opened c on) (came_by a))
    came_by (end {c = c} e) = at (here s c) refl e
      where
        stopped : (n : Next.Next) → stops opened (here s c) ≡ true → Came c.at [] n → Came c.at (steps opened s c.at) n
        stopped n h = subst⁻¹ (λ (xs : List Positioned). Came c.at xs n) (steps_stop opened s c.at h)

        at : (x : Step) → here s c ≡ x → passes opened x ≡ false → Came c.at (steps opened s c.at) (ended c x)
        at Finished q e = stopped (Next.TheVariants.End c) (ap (stops opened) q) (record { parts = refl; stands = (q, refl) })
        at Junk q e = absurd (true≢false e)
        at (Short n) q e =
            let open_reading = not-false opened e in
            stopped (Next.TheVariants.Needs n c) (ap (stops opened) q ∙ open_reading) (record { parts = refl; stands = (q, refl, open_reading) })
        at Bad q e = absurd (true≢false e)
        at (Found f) q e =
            let on = ap (stops opened) q in
            let here-at = found_at s c.at q in
            let d = over c (Found f) in
            let past : ends s c.at ≡ d.at = sym (over_ends s small opened c on) ∙ ap (λ (x : Step). (over c x).at) q in
            subst⁻¹ (λ (xs : List Positioned). Came c.at xs (Next.TheVariants.Frame f d))
            (steps_go opened s c.at on ∙ ap₂ (λ (x : Step) (p : ℕ). record { at = c.at; step = x } ∷ steps opened s p) q past)
            (record {
              parts = ap (λ (p : ℕ). record { at = p; step = Found f } ∷ steps opened s d.at) (sym here-at);
              stands = (q, here-at, omega (arith, past, ap passed q));
            })
