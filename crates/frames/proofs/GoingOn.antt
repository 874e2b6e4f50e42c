-- A cursor that goes on: what it passes over changes no answer, and its counts stay those of the steps behind it. What the loops of `next` and
-- `totals` keep.
use Rattle.std.proofs.Common.{◌≡◌, ℕ, zero, suc, ◌+◌, ◌^◌, ◌<◌, ◌≤◌, Bool, true, false, List, [], length, sym, refl, ap, ◌∙◌, subst, ap₂, add-zero, add_assoc, mod-eq_of_lt, zero-add, arith}
use mathlib.Core.Path.{subst⁻¹}
use mathlib.Core.Bool.{false≢true}
use Rattle.frames.specs.Step.{step_at, passed, ends}
use Rattle.frames.specs.Reading.{Positioned, stops, steps, counted, counts_of, sum_of, added}
use Rattle.frames.specs.Cursors.{begun, counts_in, plus, over, passes, ended, answer, next_of, Honest}
use Rattle.frames.specs.declared.step.Step.{Step}
use Rattle.frames.specs.declared.step.Step.TheVariants.{Finished, Junk, Short, Bad, Found}
use Rattle.frames.specs.declared.cursor.Counts.{Counts}
use Rattle.frames.specs.declared.cursor.Cursor.{Cursor}
use Rattle.frames.specs.declared.cursor.Next as Next
use Rattle.frames.proofs.Readings.{steps_stop, steps_go, goes_on}
use Rattle.frames.proofs.Tiling.{counted_sum, added_sum}

-- the step where a cursor stands
abbrev pub here : List ℕ → Cursor → Step
here s c = step_at s c.at

-- how a reading comes to an answer: past the steps that it passes over, to one that it does not
pub data Answered (opened : Bool) (s : List ℕ) : Cursor → Next.Next → Type 0 where
  pass : {c : Cursor} {n : Next.Next} → passes opened (here s c) ≡ true → Answered opened s (over c (here s c)) n → Answered opened s c n
  end : {c : Cursor} → passes opened (here s c) ≡ false → Answered opened s c (ended c (here s c))

-- ---- past a step

-- a sum that fits does not wrap
plain : (a n : ℕ) → a + n < 2 ^ 64 → plus a n ≡ a + n
plain a n h = mod-eq_of_lt h

over_counts : (c : Cursor) (x : Step) → sum_of (counts_in c) + passed x < 2 ^ 64 → counts_in (over c x) ≡ added (counts_in c) (counted x)
over_counts c x h =
    let k = counted x in
    let sum = counted_sum x in
    rw (
      plain c.framed k.framed (omega arith),
      plain c.junk k.junk (omega arith),
      plain c.bad k.bad (omega arith),
      plain c.short k.short (omega arith),
    )

-- a closed reading goes on by every step but the last
pub closed_on : (x : Step) → (x ≡ Finished → ⊥) → stops false x ≡ false
closed_on Finished n = absurd (n refl)
closed_on Junk n = refl
closed_on (Short k) n = refl
closed_on Bad n = refl
closed_on (Found f) n = refl

pub passed_on : (opened : Bool) (x : Step) → passes opened x ≡ true → stops opened x ≡ false
passed_on opened Finished e = absurd (false≢true e)
passed_on opened Junk e = refl
passed_on true (Short n) e = absurd (false≢true e)
passed_on false (Short n) e = refl
passed_on opened Bad e = refl
passed_on opened (Found f) e = refl

-- ---- counts

added_assoc : (a b c : Counts) → added (added a b) c ≡ added a (added b c)
added_assoc a b c = λ i. record {
  framed = add_assoc a.framed b.framed c.framed i;
  junk = add_assoc a.junk b.junk c.junk i;
  bad = add_assoc a.bad b.bad c.bad i;
  short = add_assoc a.short b.short c.short i;
}

none_added : (c : Counts) → added (counts_of []) c ≡ c
unfolding counts_of
none_added c = λ i. record { framed = zero-add c.framed i; junk = zero-add c.junk i; bad = zero-add c.bad i; short = zero-add c.short i }

added_none : (c : Counts) → added c (counts_of []) ≡ c
unfolding counts_of
added_none c = λ i. record { framed = add-zero c.framed i; junk = add-zero c.junk i; bad = add-zero c.bad i; short = add-zero c.short i }

module _ (s : List ℕ) (small : length s < 2 ^ 64) where
  -- ---- the cursor past the step where it stands

  pub over_ends : (opened : Bool) (c : Cursor) → stops opened (here s c) ≡ false → (over c (here s c)).at ≡ ends s c.at
  over_ends opened c e = plain c.at (passed (here s c)) (omega (arith, goes_on opened s c.at e))

  -- it comes further, and stays within the capture
  pub over_further : (opened : Bool) (c : Cursor) → stops opened (here s c) ≡ false → (c.at < (over c (here s c)).at) × ((over c (here s c)).at ≤ length s)
  over_further opened c e = rw (over_ends opened c e) (goes_on opened s c.at e)

  -- ---- the two laws of the loop of `next`

  next_is : (c : Cursor) → next_of s c ≡ answer s c (steps c.opened s c.at)
  unfolding next_of
  next_is c = refl

  -- a step that is passed over leaves the answer as it is
  pub next_over : (c : Cursor) → passes c.opened (here s c) ≡ true → next_of s c ≡ next_of s (over c (here s c))
  unfolding answer
  next_over c e =
      let on = passed_on c.opened (here s c) e in
      next_is c
      ∙ ap (answer s c) (steps_go c.opened s c.at on)
      ∙ rw e (ap (λ (p : ℕ). answer s (over c (here s c)) (steps c.opened s p)) (sym (over_ends c.opened c on)))
      ∙ sym (next_is (over c (here s c)))

  -- at any other the reading to the next frame ends
  next_ended : (c : Cursor) → passes c.opened (here s c) ≡ false → next_of s c ≡ ended c (here s c)
  unfolding answer
  next_ended c e = next_is c ∙ by (stops c.opened (here s c)) refl
    where
      by : (t : Bool) → stops c.opened (here s c) ≡ t → answer s c (steps c.opened s c.at) ≡ ended c (here s c)
      by true h = ap (answer s c) (steps_stop c.opened s c.at h)
      by false h = ap (answer s c) (steps_go c.opened s c.at h) ∙ rw e

  -- and by these two every answer comes about
  turn : (c : Cursor) → (c.at < (over c (here s c)).at → (over c (here s c)).at ≤ length s → Answered c.opened s (over c (here s c)) (next_of s (over c (here s c)))) → Answered c.opened s c (next_of s c)
  turn c rest = by (passes c.opened (here s c)) refl
    where
      by : (t : Bool) → passes c.opened (here s c) ≡ t → Answered c.opened s c (next_of s c)
      by true e =
          let further = over_further c.opened c (passed_on c.opened (here s c) e) in
          subst⁻¹ (Answered c.opened s c) (next_over c e) (pass e (rest further.0 further.1))
      by false e = subst⁻¹ (Answered c.opened s c) (next_ended c e) (end e)

  -- where no more than n bytes are left
  answered_within : (n : ℕ) (c : Cursor) → length s ≤ c.at + n → Answered c.opened s c (next_of s c)
  answered_within zero c h = turn c (λ further within. absurd (omega arith))
  answered_within (suc n) c h = turn c (λ further within. answered_within n (over c (here s c)) (omega arith))

  pub answered : (opened : Bool) (c : Cursor) → c.opened ≡ opened → Answered opened s c (next_of s c)
  answered opened c m = subst (λ (g : Bool). Answered g s c (next_of s c)) m (answered_within (length s) c (omega arith))

  -- what a loop keeps that goes on by calls: x is the step at c, and d the cursor past it
  module _ (c : Cursor) {x : Step} (step : x ≡ here s c) where
    pub next_given : {n : Next.Next} → passes c.opened x ≡ false → n ≡ ended c x → n ≡ next_of s c
    next_given e given = given ∙ ap (ended c) step ∙ sym (next_ended c (ap (passes c.opened) (sym step) ∙ e))

    module _ {d : Cursor} (past : d ≡ over c x) where
      past_here : d ≡ over c (here s c)
      past_here = past ∙ ap (over c) step

      pub next_kept : passes c.opened x ≡ true → next_of s d ≡ next_of s c
      next_kept e = ap (next_of s) past_here ∙ sym (next_over c (ap (passes c.opened) (sym step) ∙ e))

      pub comes_further : (opened : Bool) → stops opened x ≡ false → (c.at < d.at) × (d.at ≤ length s)
      comes_further opened e =
          subst⁻¹ (λ (k : Cursor). (c.at < k.at) × (k.at ≤ length s)) past_here (over_further opened c (ap (stops opened) (sym step) ∙ e))

  module _ (opened : Bool) where
    -- ---- the counts of a cursor

    pub honest_begun : Honest opened s (begun opened)
    unfolding counts_of
    honest_begun = record { mode = refl; inside = omega arith; every = refl; whole = none_added (counts_of (steps opened s 0)) }

    pub honest_over : (c : Cursor) → Honest opened s c → stops opened (here s c) ≡ false → Honest opened s (over c (here s c))
    unfolding counts_of
    honest_over c h e =
        let counts : counts_in (over c (here s c)) ≡ added (counts_in c) (counted (here s c)) = over_counts c (here s c) (omega (arith, goes_on opened s c.at e, h.every)) in
        record {
          mode = h.mode;
          inside = (over_further opened c e).1;
          every = ap sum_of counts ∙ omega (arith, added_sum (counts_in c) (counted (here s c)), counted_sum (here s c), h.every, over_ends opened c e);
          whole =
              ap₂ (λ (k : Counts) (p : ℕ). added k (counts_of (steps opened s p))) counts (over_ends opened c e)
              ∙ added_assoc (counts_in c) (counted (here s c)) (counts_of (steps opened s (ends s c.at)))
              ∙ ap (λ (xs : List Positioned). added (counts_in c) (counts_of xs)) (sym (steps_go opened s c.at e))
              ∙ h.whole;
        }

    -- where the reading stops they are those of the whole reading
    pub honest_counts : (c : Cursor) → Honest opened s c → stops opened (here s c) ≡ true → counts_in c ≡ counts_of (steps opened s 0)
    honest_counts c h e =
        sym (added_none (counts_in c)) ∙ ap (λ (xs : List Positioned). added (counts_in c) (counts_of xs)) (sym (steps_stop opened s c.at e)) ∙ h.whole

    -- the same by calls
    module _ (c : Cursor) (h : Honest opened s c) {x : Step} (step : x ≡ here s c) where
      pub honest_past : {d : Cursor} → d ≡ over c x → stops opened x ≡ false → Honest opened s d
      honest_past past e = subst⁻¹ (Honest opened s) (past_here c step past) (honest_over c h (ap (stops opened) (sym step) ∙ e))

      pub honest_given : {k : Counts} → k ≡ counts_in c → stops opened x ≡ true → k ≡ counts_of (steps opened s 0)
      honest_given given e = given ∙ honest_counts c h (ap (stops opened) (sym step) ∙ e)
