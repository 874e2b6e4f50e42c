-- A longer capture: a step of open reading is the same there, so its steps begin with those of the shorter one; and closed reading begins with
-- them too.
use mathlib.Core.Path.{◌≡◌, refl, sym, ap, ap₂, ◌∙◌, subst, subst⁻¹}
use mathlib.Core.Bool.{Bool, true, false, true≢false}
use mathlib.Core.List.{List, [], ◌∷◌, ◌++◌, append_assoc}
use Prim.Native.Nat.{ℕ, ◌+◌, ◌≤◌, ◌<◌}
use native.Mathlib.Omega.{arith}
use lib.ListN.{length, get_or, take, drop, length-append, length-drop, get_or-append}
use lib.Seq.{take-append-le, drop-append-le}
use Rattle.wire.specs.Number.{little, number_at}
use Rattle.crc.specs.Crc.{crc_from}
use Rattle.frames.specs.Step.{step_at, passed, ends}
use Rattle.frames.specs.Decides.{left, size, sum, sent, frame, Decides, finished, junk, headless, cut, bad, found}
use Rattle.frames.specs.Reading.{Positioned, stops, steps, closed_steps, open_steps, is_short, before_short}
use Rattle.stays.specs.Stays.{Leads}
use Rattle.frames.specs.declared.step.Step.{Step}
use Rattle.frames.specs.declared.step.Step.TheVariants.{Found}
use Rattle.frames.specs.declared.step.Frame.{Frame}
use Rattle.frames.proofs.Steps.{only, decided}
use Rattle.frames.proofs.Readings.{steps_stop, steps_go, by_steps}
use Rattle.frames.proofs.Tiling.{open_closed}

module _ (s more : List ℕ) where
  abbrev longer : List ℕ
  longer = s ++ more

  longer_length : length longer ≡ length s + length more
  longer_length = length-append s more

  -- bytes of the shorter one stand in the longer one
  same_byte : (p : ℕ) → p < length s → get_or longer p 0 ≡ get_or s p 0
  same_byte p h = get_or-append s more 0 p h

  pub same_part : (k n : ℕ) → k + n ≤ length s → take n (drop k longer) ≡ take n (drop k s)
  same_part k n h = ap (take n) (drop-append-le k s more (omega arith)) ∙ take-append-le n (drop k s) more (rw length-drop (omega arith))

  same_number : (w k : ℕ) → k + w ≤ length s → number_at w longer k ≡ number_at w s k
  unfolding number_at
  same_number w k h = ap little (same_part k w h)

  -- ---- a frame that is there

  module _ (p : ℕ) (l : size s p + 8 ≤ left s p) where
    same_size : size longer p ≡ size s p
    same_size = same_byte (p + 5) (omega arith)

    same_fit : size longer p + 8 ≤ left longer p
    same_fit = omega (arith, same_size, longer_length)

    same_sum : sum longer p ≡ sum s p
    same_sum = ap (λ (n : ℕ). crc_from 0 (take (n + 5) (drop (p + 1) longer))) same_size ∙ ap (crc_from 0) (same_part (p + 1) (size s p + 5) (omega arith))

    same_sent : sent longer p ≡ sent s p
    same_sent = ap (λ (n : ℕ). number_at 2 longer (p + n + 6)) same_size ∙ same_number 2 (p + size s p + 6) (omega arith)

    same_frame : frame longer p ≡ frame s p
    same_frame = λ i. record { at = p; kind = same_number 2 (p + 1) (omega arith) i; sender = same_number 2 (p + 3) (omega arith) i; length = same_size i }

  -- ---- steps

  -- a line that open reading goes on by decides in the longer one too; it looks at no byte past the end, nor at where the end is
  lasts : (p : ℕ) {x : Step} → Decides s p x → stops true x ≡ false → Decides longer p x
  lasts p (finished h) e = absurd (true≢false e)
  lasts p (junk h b) e = junk (omega (arith, longer_length)) (λ q. b (sym (same_byte p h) ∙ q))
  lasts p (headless h b l) e = absurd (true≢false e)
  lasts p (cut b h l) e = absurd (true≢false e)
  lasts p (bad b l n) e = bad (same_byte p (omega arith) ∙ b) (same_fit p l) (λ q. n (sym (same_sum p l) ∙ q ∙ same_sent p l))
  lasts p (found b l q) e =
      subst (λ (f : Frame). Decides longer p (Found f)) (same_frame p l) (found (same_byte p (omega arith) ∙ b) (same_fit p l) (same_sum p l ∙ q ∙ sym (same_sent p l)))

  pub same_step : (p : ℕ) → stops true (step_at s p) ≡ false → step_at longer p ≡ step_at s p
  same_step p e = sym (only longer p (lasts p (decided s p) e))

  -- ---- readings

  abbrev Begins : ℕ → Type 0
  Begins p = Leads (steps true s p) (steps true longer p)

  stopped : (p : ℕ) → stops true (step_at s p) ≡ true → Begins p
  stopped p e = (steps true longer p, ap (λ (xs : List Positioned). xs ++ steps true longer p) (sym (steps_stop true s p e)))

  gone_on : (p : ℕ) → stops true (step_at s p) ≡ false → Begins (ends s p) → Begins p
  gone_on p e (rest, q) =
      let step = same_step p e in (
        rest,
        steps_go true longer p (ap (stops true) step ∙ e)
            ∙ ap₂ (λ (x : Step) (xs : List Positioned). record { at = p; step = x } ∷ xs) step (ap (λ (x : Step). steps true longer (p + passed x)) step ∙ q)
            ∙ ap (λ (xs : List Positioned). xs ++ rest) (sym (steps_go true s p e)),
      )

  pub lead : Leads (open_steps s) (open_steps longer)
  lead = by_steps true s Begins stopped gone_on 0

-- ---- closed reading begins with open reading

leads_on : {A : Type 0} (xs ys zs : List A) → Leads xs ys → Leads ys zs → Leads xs zs
leads_on {A = A} xs ys zs (r, e) (q, f) = (r ++ q, f ∙ ap (λ (l : List A). l ++ q) e ∙ append_assoc xs r q)

before_short_lem : (xs : List Positioned) → Leads (before_short xs) xs
unfolding before_short
before_short_lem [] = ([], refl)
before_short_lem (x ∷ xs) = by (is_short x.step) refl (before_short_lem xs)
  where
    by : (t : Bool) → is_short x.step ≡ t → Leads (before_short xs) xs → Leads (before_short (x ∷ xs)) (x ∷ xs)
    by true e rest = (x ∷ xs, rw e)
    by false e (rest, q) = (rest, ap (λ (l : List Positioned). x ∷ l) q ∙ rw e)

pub lead_closed : (s more : List ℕ) → Leads (open_steps s) (closed_steps (s ++ more))
lead_closed s more =
    leads_on (open_steps s) (open_steps (s ++ more)) (closed_steps (s ++ more)) (lead s more)
    (subst⁻¹ (λ (xs : List Positioned). Leads xs (closed_steps (s ++ more))) (open_closed (s ++ more)) (before_short_lem (closed_steps (s ++ more))))
