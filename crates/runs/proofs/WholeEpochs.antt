-- The step ends an epoch exactly when document 01 says that one ends: folded over packets from nothing on, it comes to a whole epoch with a
-- packet and a total exactly when `EpochEnds`. The open part is the run that is still unfinished.
use Rattle.std.proofs.Common.{◌≡◌, ℕ, zero, suc, ◌+◌, ◌%◌, ◌<◌, Bool, true, false, cond, eqb, ◌↔◌, List, [], ◌∷◌, sym, refl, ap, ◌∙◌, subst, true≢false, arith, eq-eqb, eqb-true, Option, Some, None}
use mathlib.Core.Bool.{and-eq-true_iff}
use borrow.Author.Tests.{eqb-false}
use Rattle.packets.specs.Packet.{same_key, Formed, AllFormed}
use Rattle.runs.specs.Run.{dropped, open_with, whole_with, goes_on, fits, summed, continued, stepped, run_of}
use Rattle.runs.specs.InWords.{RunTo, EpochEnds}
use Rattle.packets.specs.declared.packet.Key.{Key}
use Rattle.packets.specs.declared.packet.Packet.{Packet}
use Rattle.runs.specs.declared.running.Part.{Part}
use Rattle.runs.specs.declared.running.Stepped.{Stepped}
use Rattle.packets.proofs.Keys.{equal_key, same_key_lem}
use Rattle.runs.proofs.StepCases.{not_whole}
use Rattle.runs.proofs.Fronts.{unroll, run_head, first_of, next_of, same_run, run_small, run_low}

-- what is open says this of the history: an open part is the run at its front; where nothing is, no run there is unfinished
abbrev Holds : List Packet → Option Part → Type 0
Holds past None = (key : Key) (j t : ℕ) → suc j < key.n → RunTo key j past t → ⊥
Holds past (Some part) = (j : ℕ) × RunTo part.key j past part.total × (part.next ≡ suc j)

-- a step with p is right: what it leaves open holds, and it ends an epoch exactly when one ends
abbrev Right : Packet → List Packet → Stepped → Type 0
Right p past s = Holds (p ∷ past) s.run × ((t : ℕ) → (s.ended ≡ Some t) ↔ EpochEnds p past t)

same_whole : {t u : ℕ} → ◌≡◌ {A = Option ℕ} (Some t) (Some u) → t ≡ u
same_whole e = cc

module _ (p : Packet) (past : List Packet) (formed : Formed p) where
  -- p is the latest of a run: it ends there, or stays open
  right_on : {total : ℕ} → RunTo p.key p.counter (p ∷ past) total → Right p past (goes_on p total)
  unfolding goes_on
  right_on {total} r = by (eqb ((p.counter + 1) % 256) p.key.n) refl
    where
      next : (p.counter + 1) % 256 ≡ suc p.counter
      next = omega (arith, formed.nibble)

      by : (t : Bool) → eqb ((p.counter + 1) % 256) p.key.n ≡ t
          → Right p past (cond t (whole_with p total) (open_with p total))
      by true e =
          let last : suc p.counter ≡ p.key.n = sym next ∙ eqb-true _ _ e in (
            λ key j t h q. let a = run_head j q in let n = ap (λ (k : Key). k.n) a.0 in omega (arith, a.1),
            λ t. (
              λ w. record { last = last; run = subst (RunTo p.key p.counter (p ∷ past)) (same_whole w) r },
              λ ends. ap Some (same_run (p ∷ past) r ends.run).2,
            ),
          )
      by false e =
          ((p.counter, r, next), λ t. (λ w. absurd (not_whole w), λ ends. absurd (eqb-false _ _ e (next ∙ ends.last))))

  -- p is the latest of no run
  right_dropped : ((key : Key) (j t : ℕ) → j < key.n → RunTo key j (p ∷ past) t → ⊥) → Right p past dropped
  right_dropped none = (
    λ key j t h r. none key j t (omega arith) r,
    λ t. (λ w. absurd (not_whole w), λ ends. absurd (none p.key p.counter t (omega (arith, ends.last)) ends.run)),
  )

  module _ (all : AllFormed past) (later : p.counter ≡ 0 → ⊥) where
    -- a run that has p as its latest goes on with one that is there
    earlier : {key : Key} (j : ℕ) {t : ℕ} → RunTo key j (p ∷ past) t → (key ≡ p.key) × ((i : ℕ) × (u : ℕ) × (j ≡ suc i) × (p.counter ≡ suc i) × RunTo key i past u)
    earlier zero r = absurd (later (run_head 0 r).1)
    earlier (suc i) r = let a = unroll r in (a.0, (i, a.2.0, refl, a.1, a.2.1))

    right_later : (run : Option Part) → Holds past run → Right p past (continued run p)
    unfolding continued
    right_later None h =
        right_dropped (λ key j t below r. let a = (earlier j r).1 in h key a.0 a.1 (omega (arith, a.2)) a.4)
    right_later (Some part) h = by (fits part p) refl
      where
        small : part.total + p.observations < 65536
        small = omega (arith, run_small h.0 past all h.1, run_low h.0 past all h.1, formed.few)

        by : (t : Bool) → fits part p ≡ t → Right p past (cond t (goes_on p (summed part p)) dropped)
        by true e =
            let tests = (and-eq-true_iff (same_key part.key p.key) (eqb part.next p.counter)).0 e in
            let counter : p.counter ≡ suc h.0 = sym (eqb-true _ _ tests.1) ∙ h.2 in
            let sum : part.total + p.observations ≡ summed part p = omega (arith, small) in
            right_on (subst (RunTo p.key p.counter (p ∷ past)) sum (next_of p h.1 (equal_key part.key p.key tests.0) counter))
        by false e =
            right_dropped (λ key j t below r.
            let a = earlier j r in
            let there = same_run past a.1.4 h.1 in
            let key-test = same_key_lem part.key p.key (sym there.0 ∙ a.0) in
            let counter-test = eq-eqb part.next p.counter (h.2 ∙ ap suc (sym there.1) ∙ sym a.1.3) in
            true≢false (sym ((and-eq-true_iff (same_key part.key p.key) (eqb part.next p.counter)).1 (key-test, counter-test)) ∙ e))

  -- every step from what holds is right
  right_step : AllFormed past → (run : Option Part) → Holds past run → Right p past (stepped run p)
  unfolding stepped
  right_step all run h = by (eqb p.counter 0) refl
    where
      by : (t : Bool) → eqb p.counter 0 ≡ t → Right p past (cond t (goes_on p p.observations) (continued run p))
      by true e = right_on (first_of p past (eqb-true _ _ e))
      by false e = right_later all (eqb-false _ _ e) run h

holds : (past : List Packet) → AllFormed past → Holds past (run_of past)
unfolding run_of
holds [] all = λ key j t h r. unroll r
holds (p ∷ past) all = (right_step p past all.0 all.1 (run_of past) (holds past all.1)).0

-- a step comes to a whole epoch exactly when the packets end one
pub whole_epoch : (p : Packet) (past : List Packet) (t : ℕ) → AllFormed (p ∷ past) → ((stepped (run_of past) p).ended ≡ Some t) ↔ EpochEnds p past t
whole_epoch p past t all = (right_step p past all.0 all.1 (run_of past) (holds past all.1)).1 t
