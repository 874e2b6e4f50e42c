-- Open reading from a position on, answer by answer: which frames are left and where the reading stops; and that a frame takes 8 bytes or more.
use Rattle.std.proofs.Common.{◌≡◌, ℕ, ◌+◌, ◌*◌, ◌^◌, ◌<◌, ◌≤◌, true, false, List, [], ◌∷◌, length, sym, refl, ap, ◌∙◌, subst, true≢false, add-zero, add_assoc, arith}
use mathlib.Core.Path.{subst⁻¹}
use Rattle.frames.specs.Step.{step_at, passed, ends}
use Rattle.frames.specs.Reading.{stops, steps, frames_in, frames_of, counted, counts_of, sum_of}
use Rattle.frames.specs.Cursors.{passes, over, ended, next_of, Says}
use Rattle.frames.specs.declared.step.Step.{Step}
use Rattle.frames.specs.declared.step.Step.TheVariants.{Finished, Junk, Short, Bad, Found}
use Rattle.frames.specs.declared.step.Frame.{Frame}
use Rattle.frames.specs.declared.cursor.Cursor.{Cursor}
use Rattle.frames.specs.declared.cursor.Next as Next
use Rattle.frames.proofs.Readings.{steps_stop, steps_go, goes_on, by_steps}
use Rattle.frames.proofs.Tiling.{counted_sum, added_sum}
use Rattle.frames.proofs.GoingOn.{here, Answered, pass, end, passed_on, over_ends, answered}
use Rattle.frames.proofs.NextAnswers.{says}
use Rattle.index.specs.Index.{frames_from, stop_from}
use Rattle.index.specs.Inner.{cursor_at}

-- ---- where reading stops

module _ (s : List ℕ) where
  pub stop_here : (p : ℕ) → stops true (step_at s p) ≡ true → stop_from s p ≡ p
  unfolding counts_of
  stop_here p e = rw (steps_stop true s p e, add-zero)

  pub stop_on : (p : ℕ) → stops true (step_at s p) ≡ false → stop_from s p ≡ stop_from s (ends s p)
  unfolding counts_of
  stop_on p e =
      ap (λ xs. p + sum_of (counts_of xs)) (steps_go true s p e)
      ∙ ap (λ (n : ℕ). p + n) (added_sum (counted (step_at s p)) (counts_of (steps true s (ends s p))) ∙ ap (λ (n : ℕ). n + sum_of (counts_of (steps true s (ends s p)))) (counted_sum (step_at s p)))
      ∙ sym (add_assoc p (passed (step_at s p)) (sum_of (counts_of (steps true s (ends s p)))))

-- ---- a frame takes 8 bytes or more

module _ (s : List ℕ) where
  long : (x : Step) → stops true x ≡ false → (p : ℕ) (fs : List Frame) (n : ℕ) → p + passed x + length fs * 8 ≤ n → p + length (frames_in x fs) * 8 ≤ n
  long Finished e p fs n h = absurd (true≢false e)
  long Junk e p fs n h = omega arith
  long (Short k) e p fs n h = absurd (true≢false e)
  long Bad e p fs n h = omega arith
  long (Found f) e p fs n h = omega arith

  abbrev Room : ℕ → Type 0
  Room p = p ≤ length s → p + length (frames_from s p) * 8 ≤ length s

  few_stop : (p : ℕ) → stops true (step_at s p) ≡ true → Room p
  unfolding frames_of
  few_stop p e h = rw (steps_stop true s p e) (omega arith)

  few_on : (p : ℕ) → stops true (step_at s p) ≡ false → Room (ends s p) → Room p
  unfolding frames_of
  few_on p e rest h =
      let on = goes_on true s p e in
      subst⁻¹ (λ xs. p + length (frames_of xs) * 8 ≤ length s) (steps_go true s p e) (long (step_at s p) e p (frames_from s (ends s p)) (length s) (rest on.1))

  pub few_frames : (p : ℕ) → Room p
  few_frames = by_steps true s Room few_stop few_on

-- ---- answer by answer

-- where reading stops, by the answer at a position
abbrev Stop : List ℕ → Next.Next → ℕ
Stop s (Next.TheVariants.Frame f c) = stop_from s c.at
Stop s (Next.TheVariants.End c) = c.at
Stop s (Next.TheVariants.Needs n c) = c.at

-- where the answer's cursor stands
abbrev Within : List ℕ → Next.Next → Type 0
Within s (Next.TheVariants.Frame f c) = c.at ≤ length s
Within s (Next.TheVariants.End c) = Unit {0}
Within s (Next.TheVariants.Needs n c) = Unit {0}

module _ (s : List ℕ) (small : length s < 2 ^ 64) where
  stop_by : {c : Cursor} {n : Next.Next} → Answered true s c n → (stop_from s c.at ≡ Stop s n) × Within s n
  stop_by (pass {c = c} e rest) =
      let goes = passed_on true (here s c) e in
      let r = stop_by rest in
      (stop_on s c.at goes ∙ ap (stop_from s) (sym (over_ends s small true c goes)) ∙ r.0, r.1)
  stop_by (end {c = c} e) = at (here s c) refl e
    where
      at : (x : Step) → here s c ≡ x → passes true x ≡ false → (stop_from s c.at ≡ Stop s (ended c x)) × Within s (ended c x)
      at Finished q e = (stop_here s c.at (ap (stops true) q), tt)
      at Junk q e = absurd (true≢false e)
      at (Short n) q e = (stop_here s c.at (ap (stops true) q), tt)
      at Bad q e = absurd (true≢false e)
      at (Found f) q e =
          let goes = ap (stops true) q in
          let to = sym (over_ends s small true c goes) ∙ ap (λ (x : Step). (over c x).at) q in
          (stop_on s c.at goes ∙ ap (stop_from s) to, subst (λ (n : ℕ). n ≤ length s) to (goes_on true s c.at goes).1)

  module _ (p : ℕ) (inside : p ≤ length s) where
    abbrev Told : Next.Next → Type 0
    Told n = Says true s (frames_from s p) n × (stop_from s p ≡ Stop s n) × Within s n

    told : {n : Next.Next} → next_of s (cursor_at p) ≡ n → Told n
    told e = let t = stop_by (answered s small true (cursor_at p) refl) in subst Told e (says s small true (cursor_at p) refl inside, t.0, t.1)

    -- the first of the frames left, and where those after it are
    pub told_frame : {f : Frame} {c : Cursor} → next_of s (cursor_at p) ≡ Next.TheVariants.Frame f c
        → (frames_from s p ≡ f ∷ frames_from s c.at) × (stop_from s p ≡ stop_from s c.at) × (c.at ≤ length s)
    told_frame e = told e

    -- none is left
    pub told_end : {c : Cursor} → next_of s (cursor_at p) ≡ Next.TheVariants.End c → (frames_from s p ≡ []) × (stop_from s p ≡ c.at)
    told_end e = let t = told e in (t.0.0, t.1)

    pub told_needs : {k : ℕ} {c : Cursor} → next_of s (cursor_at p) ≡ Next.TheVariants.Needs k c → (frames_from s p ≡ []) × (stop_from s p ≡ c.at)
    told_needs e = let t = told e in (t.0.0, t.1)
