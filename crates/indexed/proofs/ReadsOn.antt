-- Open reading goes on: in a longer capture the steps are those of the shorter one and then those from where its reading stopped. And steps one after
-- the other: what they count, and the frames among them.
use mathlib.Core.Path.{◌≡◌, refl, sym, ap, ap₂, ◌∙◌, subst}
use mathlib.Core.Bool.{true, false}
use mathlib.Core.List.{List, [], ◌∷◌, ◌++◌}
use Prim.Native.Nat.{ℕ, ◌+◌, ◌≤◌}
use native.Mathlib.Omega.{arith}
use lib.ListN.{length}
use Rattle.frames.specs.Step.{step_at, passed, ends}
use Rattle.frames.specs.Reading.{Positioned, stops, steps, frames_in, frames_of, counted, counts_of, sum_of}
use Rattle.frames.specs.declared.step.Step.{Step}
use Rattle.frames.specs.declared.step.Step.TheVariants.{Finished, Junk, Short, Bad, Found}
use Rattle.frames.specs.declared.step.Frame.{Frame}
use Rattle.frames.proofs.Readings.{steps_stop, steps_go, goes_on, by_steps}
use Rattle.frames.proofs.Tiling.{added_sum}
use Rattle.stays.specs.Stays.{Leads}
use Rattle.stays.proofs.Longer.{same_step}
use Rattle.index.specs.Index.{stop_from, counted_all}
use Rattle.index.specs.Index as index
use Rattle.index.proofs.Onward.{stop_here, stop_on}

-- ---- in a longer capture

module _ (s more : List ℕ) where
  abbrev longer : List ℕ
  longer = s ++ more

  abbrev On : ℕ → Type 0
  On p = steps true longer p ≡ steps true s p ++ steps true longer (stop_from s p)

  stopped : (p : ℕ) → stops true (step_at s p) ≡ true → On p
  stopped p e = sym (ap₂ (λ (xs : List Positioned) (q : ℕ). xs ++ steps true longer q) (steps_stop true s p e) (stop_here s p e))

  gone_on : (p : ℕ) → stops true (step_at s p) ≡ false → On (ends s p) → On p
  gone_on p e rest =
      let step = same_step s more p e in
      steps_go true longer p (ap (stops true) step ∙ e)
      ∙ ap₂ (λ (x : Step) (xs : List Positioned). record { at = p; step = x } ∷ xs) step
      (ap (λ (x : Step). steps true longer (p + passed x)) step ∙ rest)
      ∙ ap₂ (λ (xs : List Positioned) (q : ℕ). xs ++ steps true longer q) (sym (steps_go true s p e)) (sym (stop_on s p e))

  on : (p : ℕ) → On p
  on = by_steps true s On stopped gone_on

pub reads_on : (s t : List ℕ) → Leads s t → (p : ℕ) → steps true t p ≡ steps true s p ++ steps true t (stop_from s p)
reads_on s t (more, e) p = subst (λ (u : List ℕ). steps true u p ≡ steps true s p ++ steps true u (stop_from s p)) (sym e) (on s more p)

-- ---- where reading stops

module _ (s : List ℕ) where
  -- nothing is read from there on
  pub stopped_there : (p : ℕ) → steps true s (stop_from s p) ≡ []
  stopped_there = by_steps true s (λ p. steps true s (stop_from s p) ≡ [])
      (λ p e. ap (steps true s) (stop_here s p e) ∙ steps_stop true s p e)
      (λ p e rest. ap (steps true s) (stop_on s p e) ∙ rest)

  pub stop_inside : (p : ℕ) → p ≤ length s → stop_from s p ≤ length s
  stop_inside = by_steps true s (λ p. p ≤ length s → stop_from s p ≤ length s)
      (λ p e h. subst (λ (q : ℕ). q ≤ length s) (sym (stop_here s p e)) h)
      (λ p e rest h. subst (λ (q : ℕ). q ≤ length s) (sym (stop_on s p e)) (rest (goes_on true s p e).1))

-- ---- steps one after the other

pub sum_append : (xs ys : List Positioned) → sum_of (counts_of (xs ++ ys)) ≡ sum_of (counts_of xs) + sum_of (counts_of ys)
unfolding counts_of
sum_append [] ys = omega arith
sum_append (x ∷ xs) ys =
    omega (arith, added_sum (counted x.step) (counts_of (xs ++ ys)), added_sum (counted x.step) (counts_of xs), sum_append xs ys)

in_append : (x : Step) (fs gs : List Frame) → frames_in x (fs ++ gs) ≡ frames_in x fs ++ gs
in_append Finished fs gs = refl
in_append Junk fs gs = refl
in_append (Short n) fs gs = refl
in_append Bad fs gs = refl
in_append (Found f) fs gs = refl

pub frames_append : (xs ys : List Positioned) → frames_of (xs ++ ys) ≡ frames_of xs ++ frames_of ys
unfolding frames_of
frames_append [] ys = refl
frames_append (x ∷ xs) ys = ap (frames_in x.step) (frames_append xs ys) ∙ in_append x.step (frames_of xs) (frames_of ys)

pub counted_append : (counts : List ℕ) (fs gs : List Frame) → counted_all counts (fs ++ gs) ≡ counted_all (counted_all counts fs) gs
unfolding counted_all
counted_append counts [] gs = refl
counted_append counts (f ∷ fs) gs = counted_append (index.counted counts f.kind) fs gs
