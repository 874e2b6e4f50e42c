-- The step at a position is the one that document 01's five lines decide. What a step says of the bytes that it passes.
use Rattle.std.proofs.Common.{◌≡◌, ℕ, ◌+◌, ◌-◌, ◌<◌, ◌≤◌, Bool, true, false, cond, not, eqb, ltb, leb, List, length, get_or, take, drop, sym, refl, ap, ◌∙◌, subst, true≢false, add-zero, add_assoc, arith, length-drop, get_or-drop, drop-drop, ltb-false, ltb-true, le-ltb, lt-ltb, eq-eqb, ne_eqb, eqb-true, leb-false, leb-true}
use mathlib.Core.Bool.{false≢true}
use lib.ListN.{get_or-eq_default}
use borrow.Author.Tests.{eqb-false}
use Rattle.wire.specs.Number.{number_at}
use Rattle.wire.proofs.Numbers.{number_byte, number_past}
use Rattle.crc.specs.Crc.{crc_from}
use Rattle.frames.specs.Step.{step_of, step_at, passed}
use Rattle.frames.specs.Decides.{left, size, sum, sent, frame, Decides, finished, junk, headless, cut, bad, found}
use Rattle.frames.specs.Reading.{stops}
use Rattle.frames.specs.declared.step.Step.{Step}
use Rattle.frames.specs.declared.step.Step.TheVariants.{Finished, Junk, Short, Bad, Found}

-- ---- the same numbers, found from the capture's start

number_from : (w : ℕ) (s : List ℕ) (p k : ℕ) → number_at w (drop p s) k ≡ number_at w s (p + k)
unfolding number_at
number_from w s p k = rw drop-drop

number_one : (s : List ℕ) (at : ℕ) → number_at 1 s at ≡ get_or s at 0
number_one s at = go (leb (length s) at) refl
  where
    go : (t : Bool) → leb (length s) at ≡ t → number_at 1 s at ≡ get_or s at 0
    go true e = let h = leb-true (length s) at e in number_past 1 s at h ∙ sym (get_or-eq_default s 0 h)
    go false e = sym (number_byte s at (leb-false (length s) at e))

module _ (s : List ℕ) (p : ℕ) where
  -- the step where the first lines do not hold
  abbrev tested : Step
  tested = cond (not (eqb (sum s p) (sent s p))) Bad (Found (frame s p))

  abbrev sized : Step
  sized = cond (ltb (left s p) (size s p + 8)) (Short (size s p + 8)) tested

  abbrev marked : Step
  marked = cond (not (eqb (get_or s p 0) 0x55)) Junk (cond (ltb (left s p) 6) (Short 6) sized)

  from_start : step_at s p ≡ cond (eqb (left s p) 0) Finished marked
  unfolding step_of
  from_start = simp (length-drop, number_from, number_one, get_or-drop, drop-drop, add-zero, ← add_assoc)

  -- the CRC of the bytes that `step_at` lends: from first to end
  pub summed : {a : ℕ} → a ≡ crc_from 0 (take (p + size s p + 6 - (p + 1)) (drop (p + 1) s)) → a ≡ sum s p
  summed e =
      let n : p + size s p + 6 - (p + 1) ≡ size s p + 5 = omega arith in
      e ∙ ap (λ (n : ℕ). crc_from 0 (take n (drop (p + 1) s))) n

  left_over : p < length s → step_at s p ≡ marked
  left_over h = from_start ∙ rw (ne_eqb (left s p) 0 (omega arith))

  headed : get_or s p 0 ≡ 0x55 → 6 ≤ left s p → step_at s p ≡ sized
  headed b h = left_over (omega arith) ∙ rw (eq-eqb (get_or s p 0) 0x55 b, le-ltb (left s p) 6 h)

  whole : get_or s p 0 ≡ 0x55 → size s p + 8 ≤ left s p → step_at s p ≡ tested
  whole b l = headed b (omega arith) ∙ rw (le-ltb (left s p) (size s p + 8) l)

  -- what a line decides is the step
  pub only : {x : Step} → Decides s p x → x ≡ step_at s p
  only (finished e) = sym (from_start ∙ rw (eq-eqb (left s p) 0 (omega arith)))
  only (junk h b) = sym (left_over h ∙ rw (ne_eqb (get_or s p 0) 0x55 b))
  only (headless h b l) = sym (left_over h ∙ rw (eq-eqb (get_or s p 0) 0x55 b, lt-ltb (left s p) 6 l))
  only (cut b h l) = sym (headed b h ∙ rw (lt-ltb (left s p) (size s p + 8) l))
  only (bad b l n) = sym (whole b l ∙ rw (ne_eqb (sum s p) (sent s p) n))
  only (found b l e) = sym (whole b l ∙ rw (eq-eqb (sum s p) (sent s p) e))

  -- and a line decides it
  pub decided : Decides s p (step_at s p)
  decided = by_end (leb (length s) p) refl
    where
      of : {x : Step} → Decides s p x → Decides s p (step_at s p)
      of l = subst (Decides s p) (only l) l

      by_sum : get_or s p 0 ≡ 0x55 → size s p + 8 ≤ left s p → (t : Bool) → eqb (sum s p) (sent s p) ≡ t → Decides s p (step_at s p)
      by_sum b l true e = of (found b l (eqb-true (sum s p) (sent s p) e))
      by_sum b l false e = of (bad b l (eqb-false (sum s p) (sent s p) e))

      by_size : get_or s p 0 ≡ 0x55 → 6 ≤ left s p → (t : Bool) → ltb (left s p) (size s p + 8) ≡ t → Decides s p (step_at s p)
      by_size b h true e = of (cut b h (ltb-true (left s p) (size s p + 8) e))
      by_size b h false e = by_sum b (ltb-false (left s p) (size s p + 8) e) (eqb (sum s p) (sent s p)) refl

      by_head : p < length s → get_or s p 0 ≡ 0x55 → (t : Bool) → ltb (left s p) 6 ≡ t → Decides s p (step_at s p)
      by_head h b true e = of (headless h b (ltb-true (left s p) 6 e))
      by_head h b false e = by_size b (ltb-false (left s p) 6 e) (ltb (left s p) (size s p + 8)) refl

      by_byte : p < length s → (t : Bool) → eqb (get_or s p 0) 0x55 ≡ t → Decides s p (step_at s p)
      by_byte h true e = by_head h (eqb-true (get_or s p 0) 0x55 e) (ltb (left s p) 6) refl
      by_byte h false e = of (junk h (eqb-false (get_or s p 0) 0x55 e))

      by_end : (t : Bool) → leb (length s) p ≡ t → Decides s p (step_at s p)
      by_end true e = of (finished (leb-true (length s) p e))
      by_end false e = by_byte (leb-false (length s) p e) (eqb (get_or s p 0) 0x55) refl

  -- a step that a reading goes on by passes no more bytes than there are
  pub within : (opened : Bool) → stops opened (step_at s p) ≡ false → p + passed (step_at s p) ≤ length s
  within opened = go decided
    where
      go : {x : Step} → Decides s p x → stops opened x ≡ false → p + passed x ≤ length s
      go (finished h) e = absurd (true≢false e)
      go (junk h b) e = omega arith
      go (headless h b l) e = omega arith
      go (cut b h l) e = omega arith
      go (bad b l x) e = omega arith
      go (found b l x) e = omega arith

  -- closed reading stops at the end alone
  pub at_end : stops false (step_at s p) ≡ true → length s ≤ p
  at_end = go decided
    where
      go : {x : Step} → Decides s p x → stops false x ≡ true → length s ≤ p
      go (finished h) e = h
      go (junk h b) e = absurd (false≢true e)
      go (headless h b l) e = absurd (false≢true e)
      go (cut b h l) e = absurd (false≢true e)
      go (bad b l x) e = absurd (false≢true e)
      go (found b l x) e = absurd (false≢true e)

  -- every reading stops there
  pub past_end : (opened : Bool) → length s ≤ p → stops opened (step_at s p) ≡ true
  past_end opened h = ap (stops opened) (sym (only (finished h)))
