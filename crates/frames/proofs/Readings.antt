-- Readings by position: a reading is the step at its position and then the reading from where that step ends, unless it stops there.
use Rattle.std.proofs.Common.{◌≡◌, ℕ, zero, suc, pred, ◌+◌, ◌<◌, ◌≤◌, Bool, true, false, cond, List, [], ◌∷◌, length, drop, refl, ap, ◌∙◌, true≢false, not-suc-le-zero, add-zero, add-suc, suc-add, arith, drop-drop}
use Rattle.frames.specs.Step.{step_of, step_at, passed, ends}
use Rattle.frames.specs.Reading.{Positioned, stops, read_from, steps, positioned}
use Rattle.frames.specs.declared.step.Step.{Step}
use Rattle.frames.specs.declared.step.Step.TheVariants.{Finished, Junk, Short, Bad, Found}
use Rattle.frames.proofs.Steps.{within}

module _ (opened : Bool) where
  -- skipping k bytes is reading from k further on
  skipped : (k p : ℕ) (t : List ℕ) → read_from opened k p t ≡ read_from opened 0 (p + k) (drop k t)
  unfolding read_from
  skipped zero p t = rw add-zero
  skipped (suc k) p [] = refl
  skipped (suc k) p (b ∷ t) = skipped k (suc p) t ∙ rw (suc-add, add-suc)

  -- a step that a reading goes on by passes some bytes
  passes_some : (x : Step) → stops opened x ≡ false → 0 < passed x
  passes_some Finished e = absurd (true≢false e)
  passes_some Junk e = omega arith
  passes_some (Short n) e = omega arith
  passes_some Bad e = omega arith
  passes_some (Found f) e = omega arith

  first : (p b : ℕ) (t : List ℕ)
      → read_from opened 0 p (b ∷ t)
      ≡ cond (stops opened (step_of p (b ∷ t))) [] (record { at = p; step = step_of p (b ∷ t) } ∷ read_from opened (pred (passed (step_of p (b ∷ t)))) (suc p) t)
  unfolding read_from
  first p b t = refl

  past_first : (n p b : ℕ) (t : List ℕ) → 0 < n → read_from opened (pred n) (suc p) t ≡ read_from opened 0 (p + n) (drop n (b ∷ t))
  past_first zero p b t h = absurd (not-suc-le-zero h)
  past_first (suc n) p b t h = skipped n (suc p) t ∙ rw (suc-add, add-suc)

  stop_at : (p : ℕ) (t : List ℕ) → stops opened (step_of p t) ≡ true → read_from opened 0 p t ≡ []
  unfolding read_from
  stop_at p [] e = refl
  stop_at p (b ∷ t) e = first p b t ∙ rw e

  pub go_at : (p : ℕ) (t : List ℕ) → stops opened (step_of p t) ≡ false
      → read_from opened 0 p t ≡ record { at = p; step = step_of p t } ∷ read_from opened 0 (p + passed (step_of p t)) (drop (passed (step_of p t)) t)
  unfolding step_of
  go_at p [] e = absurd (true≢false e)
  go_at p (b ∷ t) e =
      first p b t ∙ rw e (ap (λ (xs : List Positioned). record { at = p; step = step_of p (b ∷ t) } ∷ xs) (past_first (passed (step_of p (b ∷ t))) p b t (passes_some (step_of p (b ∷ t)) e)))

module _ (opened : Bool) (s : List ℕ) where
  pub steps_stop : (p : ℕ) → stops opened (step_at s p) ≡ true → steps opened s p ≡ []
  steps_stop p e = stop_at opened p (drop p s) e

  pub steps_go : (p : ℕ) → stops opened (step_at s p) ≡ false → steps opened s p ≡ positioned s p ∷ steps opened s (ends s p)
  steps_go p e = go_at opened p (drop p s) e ∙ rw drop-drop

  -- a step that a reading goes on by ends further on, and within the capture
  pub goes_on : (p : ℕ) → stops opened (step_at s p) ≡ false → (p < ends s p) × (ends s p ≤ length s)
  goes_on p e = (omega (arith, passes_some opened (step_at s p) e), within s p opened e)

  -- what holds where the reading stops, and before a step where it holds after it, holds from every position on
  module _ (C : ℕ → Type 0) (stop : (p : ℕ) → stops opened (step_at s p) ≡ true → C p) (go : (p : ℕ) → stops opened (step_at s p) ≡ false → C (ends s p) → C p) where
    turn : (p : ℕ) → (p < ends s p → ends s p ≤ length s → C (ends s p)) → C p
    turn p rest = by (stops opened (step_at s p)) refl
      where
        by : (t : Bool) → stops opened (step_at s p) ≡ t → C p
        by true e = stop p e
        by false e = let on = goes_on p e in go p e (rest on.0 on.1)

    -- where no more than n bytes are left
    with_left : (n p : ℕ) → length s ≤ p + n → C p
    with_left zero p h = turn p (λ further inside. absurd (omega arith))
    with_left (suc n) p h = turn p (λ further inside. with_left n (ends s p) (omega arith))

    pub by_steps : (p : ℕ) → C p
    by_steps p = with_left (length s) p (omega arith)
