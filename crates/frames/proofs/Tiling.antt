-- Closed reading tiles the capture: each step stands where the one before ended and is the capture's own there, from 0 to the end. No other
-- steps tile it so; every position lies in exactly one step, and the counts add up. Open reading is that up to the first short.
use Rattle.std.proofs.Common.{◌≡◌, ℕ, ◌+◌, ◌<◌, ◌≤◌, Bool, true, false, ◌||◌, ltb, List, [], ◌∷◌, length, sym, refl, ap, ◌∙◌, subst, arith, ltb-false, ltb-true, le-leb}
use mathlib.Core.Path.{subst⁻¹}
use borrow.Author.Tests.{lt-leb}
use Rattle.frames.specs.Step.{step_at, passed, ends}
use Rattle.frames.specs.Reading.{Positioned, stops, steps, closed_steps, open_steps, Tiled, holding, done, then, positioned, is_short, before_short, counted, added, counts_of, sum_of}
use Rattle.frames.specs.declared.step.Step.{Step}
use Rattle.frames.specs.declared.step.Step.TheVariants.{Finished, Junk, Short, Bad, Found}
use Rattle.frames.specs.declared.cursor.Counts.{Counts}
use Rattle.frames.proofs.Steps.{at_end, past_end}
use Rattle.frames.proofs.Readings.{steps_stop, steps_go, goes_on, by_steps}

-- a step counts the bytes that it passes
pub counted_sum : (x : Step) → sum_of (counted x) ≡ passed x
counted_sum Finished = refl
counted_sum Junk = refl
counted_sum (Short n) = refl
counted_sum Bad = refl
counted_sum (Found f) = omega arith

pub added_sum : (a b : Counts) → sum_of (added a b) ≡ sum_of a + sum_of b
added_sum a b = omega arith

module _ (s : List ℕ) where
  -- ---- what tiles a part

  -- no position before the part lies in a step, and each within it lies in one
  held_before : (i : ℕ) {p e : ℕ} {xs : List Positioned} → Tiled s p e xs → i < p → holding i xs ≡ 0
  unfolding holding
  held_before i done h = refl
  held_before i (then {p = p} l t) h = rw (lt-leb p i h) (omega (arith, held_before i t (omega arith)))

  held_once : (i : ℕ) {p e : ℕ} {xs : List Positioned} → Tiled s p e xs → p ≤ i → i < e → holding i xs ≡ 1
  unfolding holding
  held_once i done h l = absurd (omega arith)
  held_once i (then {p = p} {xs = xs} l t) h r = by (ltb i (ends s p)) refl (λ q. held_once i t q r)
    where
      by : (t : Bool) → ltb i (ends s p) ≡ t → (ends s p ≤ i → holding i xs ≡ 1) → holding i (positioned s p ∷ xs) ≡ 1
      by true e rest = rw (le-leb p i h, e) (omega (arith, held_before i t (ltb-true i (ends s p) e)))
      by false e rest = rw (le-leb p i h, e) (omega (arith, rest (ltb-false i (ends s p) e)))

  -- the counts of its steps are its length
  counted_length : {p e : ℕ} {xs : List Positioned} → Tiled s p e xs → sum_of (counts_of xs) + p ≡ e
  unfolding counts_of
  counted_length done = omega arith
  counted_length (then {p = p} {xs = xs} l t) = omega (arith, added_sum (counted (step_at s p)) (counts_of xs), counted_sum (step_at s p), counted_length t)

  -- ---- closed reading tiles

  tiled : (p : ℕ) → p ≤ length s → Tiled s p (length s) (steps false s p)
  tiled = by_steps false s (λ p. p ≤ length s → Tiled s p (length s) (steps false s p)) stop go
    where
      stop : (p : ℕ) → stops false (step_at s p) ≡ true → p ≤ length s → Tiled s p (length s) (steps false s p)
      stop p e h =
          let end : p ≡ length s = omega (arith, at_end s p e) in
          subst⁻¹ (Tiled s p (length s)) (steps_stop false s p e) (subst (λ (e : ℕ). Tiled s p e []) end done)

      go : (p : ℕ) → stops false (step_at s p) ≡ false → (ends s p ≤ length s → Tiled s (ends s p) (length s) (steps false s (ends s p))) → p ≤ length s → Tiled s p (length s) (steps false s p)
      go p e rest h =
          let on = goes_on false s p e in
          subst⁻¹ (Tiled s p (length s)) (steps_go false s p e) (then (omega (arith, on)) (rest on.1))

  pub closed_tiled : Tiled s 0 (length s) (closed_steps s)
  closed_tiled = tiled 0 (omega arith)

  -- ---- no other steps tile the capture

  goes_before_end : (p : ℕ) → p < length s → stops false (step_at s p) ≡ false
  goes_before_end p h = by (stops false (step_at s p)) refl
    where
      by : (t : Bool) → stops false (step_at s p) ≡ t → stops false (step_at s p) ≡ false
      by true e = absurd (omega (arith, at_end s p e))
      by false e = e

  only_to : {p e : ℕ} {xs : List Positioned} → Tiled s p e xs → e ≡ length s → xs ≡ steps false s p
  only_to (done {p = p}) q = sym (steps_stop false s p (past_end s p false (omega arith)))
  only_to (then {p = p} l t) q =
      ap (λ (ys : List Positioned). positioned s p ∷ ys) (only_to t q) ∙ sym (steps_go false s p (goes_before_end p (omega arith)))

  pub only_closed : {xs : List Positioned} → Tiled s 0 (length s) xs → xs ≡ closed_steps s
  only_closed t = only_to t refl

  -- ---- of closed reading

  pub each_once : (i : ℕ) → i < length s → holding i (closed_steps s) ≡ 1
  each_once i h = held_once i closed_tiled (omega arith) h

  -- frame bytes + junk + bad + short = the capture's length
  pub adds_up : sum_of (counts_of (closed_steps s)) ≡ length s
  adds_up = omega (arith, counted_length closed_tiled)

  -- ---- open reading is closed reading up to the first short

  opens : (x : Step) → stops true x ≡ (stops false x || is_short x)
  opens Finished = refl
  opens Junk = refl
  opens (Short n) = refl
  opens Bad = refl
  opens (Found f) = refl

  open_to : {p e : ℕ} {xs : List Positioned} → Tiled s p e xs → e ≡ length s → steps true s p ≡ before_short xs
  unfolding before_short
  open_to (done {p = p}) q = steps_stop true s p (past_end s p true (omega arith))
  open_to (then {p = p} {xs = xs} l t) q = by (is_short (step_at s p)) refl (goes_before_end p (omega arith)) (open_to t q)
    where
      by : (t : Bool) → is_short (step_at s p) ≡ t → stops false (step_at s p) ≡ false → steps true s (ends s p) ≡ before_short xs → steps true s p ≡ before_short (positioned s p ∷ xs)
      by true h e rest = steps_stop true s p (opens (step_at s p) ∙ rw (e, h)) ∙ rw h
      by false h e rest = steps_go true s p (opens (step_at s p) ∙ rw (e, h)) ∙ rw (h, rest)

  pub open_closed : open_steps s ≡ before_short (closed_steps s)
  open_closed = open_to closed_tiled refl
