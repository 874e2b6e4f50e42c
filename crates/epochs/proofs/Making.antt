-- Making a collator: what an accepted roster is, and that each listed sender has its seat.
use mathlib.Core.Path.{◌≡◌, refl, sym, ap}
use mathlib.Core.Bool.{Bool, true, false, ◌&&◌, not, cond}
use mathlib.Core.List.{List, [], ◌∷◌}
use Prim.Native.Nat.{ℕ, ◌≤◌}
use native.Mathlib.Omega.{arith}
use lib.Dec.{leb}
use lib.ListN.{length}
use borrow.Author.Tests.{le-leb, leb-true}
use Rattle.refusals.specs.Refusals.{refused, given, Answer, reply}
use Rattle.refusals.proofs.Distinct.{never_both}
use Rattle.epochs.specs.Search.{repeats}
use Rattle.epochs.specs.Collator.{fresh, rostering, as_made, made}
use Rattle.epochs.specs.Fed.{Made}
use Rattle.epochs.specs.Epoch.{Seated}
use Rattle.epochs.specs.declared.collating.Collator.{Collator}

-- ---- an accepted roster

pub record Accepted (roster : List ℕ) : Type 0 where
  pub some : 1 ≤ length roster
  pub few : length roster ≤ 8
  pub once : repeats roster ≡ false
  pub whole : made roster ≡ record { collator = fresh roster; number = 0 }

pub accepted : (roster : List ℕ) → (made roster).number ≡ 0 → Accepted roster
unfolding made
accepted roster = by (leb 1 (length roster)) (leb (length roster) 8) (repeats roster) refl refl refl
  where
    never : {n : ℕ} → n ≡ 0 → 1 ≤ n → ⊥
    never e h = omega arith

    by : (a b t : Bool) → leb 1 (length roster) ≡ a → leb (length roster) 8 ≡ b → repeats roster ≡ t
        → (as_made (cond (a && b) (cond (not t) (given (fresh roster)) (refused 42)) (refused 41))).number ≡ 0 → Accepted roster
    by false b t p q r e = absurd (never e (omega arith))
    by true false t p q r e = absurd (never e (omega arith))
    by true true true p q r e = absurd (never e (omega arith))
    by true true false p q r e =
        record { some = leb-true 1 (length roster) p; few = leb-true (length roster) 8 q; once = r; whole = rw (p, q, r) }

pub seated : (roster : List ℕ) → (made roster).number ≡ 0 → Seated roster
seated roster ok = let is = accepted roster ok in record { few = is.few; once = is.once }

-- by what the code answers
pub made_as : (roster : List ℕ) {a : Answer Collator} → reply (rostering roster) ≡ a → as_made a ≡ made roster
unfolding made
made_as roster e = sym (ap as_made e)

-- a refusal is 41 or 42
pub refused_some : (roster : List ℕ) {n : ℕ} → reply (rostering roster) ≡ refused n → n ≡ 0 → ⊥
refused_some roster {n} = by (leb 1 (length roster) && leb (length roster) 8) (not (repeats roster))
  where
    by : (a b : Bool) → cond a (cond b (given (fresh roster)) (refused 42)) (refused 41) ≡ refused n → n ≡ 0 → ⊥
    by true true e z = never_both refl e
    by true false e z = let same : 42 ≡ n = cc in omega arith
    by false b e z = let same : 41 ≡ n = cc in omega arith

-- ---- a collator in which each listed sender has its seat

pub nobody : Seated []
unfolding repeats
nobody = record { few = omega arith; once = refl }

pub made_whole : (roster : List ℕ) → 1 ≤ length roster → Seated roster → made roster ≡ record { collator = fresh roster; number = 0 }
unfolding made
made_whole roster some is = rw (le-leb 1 (length roster) some, le-leb (length roster) 8 is.few, is.once)

pub made_seated : (roster : List ℕ) → Seated roster → (made roster).collator ≡ fresh roster
unfolding made
made_seated [] is = refl
made_seated (x ∷ xs) is = ap (λ (m : Made). m.collator) (made_whole (x ∷ xs) (omega arith) is)
