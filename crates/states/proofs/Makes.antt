-- A collator made in bytes: what `make` answers, case by case, and that the bytes stand for the collator of that roster.
use mathlib.Core.Path.{◌≡◌, refl, sym, ap, ◌∙◌, subst}
use mathlib.Core.Bool.{Bool, true, false, ◌&&◌, not, cond}
use mathlib.Core.List.{List, ◌++◌}
use Prim.Native.Nat.{ℕ, ◌≤◌, ◌<◌}
use native.Mathlib.Omega.{arith}
use lib.Dec.{leb}
use lib.ListN.{length, get_or, replicate, length-append, get_or-replicate}
use lib.Seq.{length-take-le, get_or-take}
use borrow.Author.Tests.{le-leb, lt-leb}
use Rattle.refusals.specs.Refusals.{refused, given, Answer, ordered, reply, leaves, zero_or, room_for}
use Rattle.refusals.proofs.Distinct.{same_given}
use Rattle.refusals.proofs.Joined.{ordered_joined, and_then}
use Rattle.epochs.specs.Search.{repeats}
use Rattle.epochs.specs.Collator.{idle, fresh, rostering, as_made, made}
use Rattle.epochs.specs.declared.collating.Collator.{Collator}
use Rattle.epochs.specs.Fed.{Made}
use Rattle.epochs.proofs.Making.{accepted}
use Rattle.epochs.proofs.Searches.{with_zeros}
use Rattle.places.specs.State.{state_size, state_in, collator_stored}
use Rattle.states.specs.Feed.{made_in, made_answer, made_stored}
use Rattle.places.proofs.States.{Held, Small, state_stored, length-collator}

-- an accepted roster passes its tests
passes : (roster : List ℕ) → (made roster).number ≡ 0 → ordered (rostering roster).tests (fresh roster) ≡ given (fresh roster)
unfolding made
passes roster = by (leb 1 (length roster) && leb (length roster) 8) (not (repeats roster))
  where
    by : (t u : Bool) → (as_made (cond t (cond u (given (fresh roster)) (refused 42)) (refused 41))).number ≡ 0
        → cond t (cond u (given (fresh roster)) (refused 42)) (refused 41) ≡ given (fresh roster)
    by true true e = refl
    by true false e = absurd (omega (arith, e))
    by false u e = absurd (omega (arith, e))

module _ (roster s : List ℕ) where
  -- a number and a state as they have to be
  abbrev Out : ℕ → List ℕ → Type 0
  Out n t = (n ≡ made_answer roster (length s)) × (t ≡ made_stored roster s)

  came : {a : Answer Collator} → a ≡ made_in roster (length s) → Out (zero_or a) (leaves collator_stored a s)
  came e = (ap zero_or e, ap (λ (a : Answer Collator). leaves collator_stored a s) e)

  -- the roster decides, and then the room
  steps : {a : Answer Collator} → ordered (rostering roster).tests (fresh roster) ≡ a → and_then a (ordered (room_for state_size (length s)) (fresh roster)) ≡ made_in roster (length s)
  unfolding made_in
  steps e =
      ap (λ (a : Answer Collator). and_then a (ordered (room_for state_size (length s)) (fresh roster))) (sym e)
      ∙ sym (ordered_joined (fresh roster) (fresh roster) (room_for state_size (length s)) (rostering roster).tests)

  pub made_refused : {n : ℕ} → reply (rostering roster) ≡ refused n → Out n s
  made_refused e = came (steps e)

  module _ {c : Collator} (e : reply (rostering roster) ≡ given c) where
    none : (made roster).number ≡ 0
    unfolding made
    none = ap (λ (a : Answer Collator). (as_made a).number) e

    whole : c ≡ fresh roster
    whole = same_given e (passes roster none)

    pub made_short : length s < state_size → Out 32 s
    made_short h = came {a = refused 32} (rw (← steps e, lt-leb state_size (length s) h))

    pub made_few : c.count ≤ 8
    made_few = omega (arith, ap (λ (c : Collator). c.count) whole, (accepted roster none).few)

    pub made_put : {t : List ℕ} → state_size ≤ length s → t ≡ collator_stored c s → Out 0 t
    made_put h q =
        let out = came {a = given (fresh roster)} (rw (← steps e, le-leb state_size (length s) h)) in
        (out.0, q ∙ ap (λ (c : Collator). collator_stored c s) whole ∙ out.1)

-- ---- tied to the collator

pub fresh_held : (roster : List ℕ) → length roster ≤ 8 → ((i : ℕ) → get_or roster i 0 < 65536) → Held (fresh roster)
fresh_held roster few senders =
    let all = roster ++ replicate 8 0 in
    let enough : 8 ≤ length all = omega (arith, length-append roster (replicate 8 0)) in
    record {
      count = omega arith;
      seats = length-take-le 8 all enough;
      senders = λ i h. subst (λ (n : ℕ). n < 65536) (sym (get_or-take 8 all i 0 h ∙ with_zeros roster 8 i)) (senders i);
      eight = refl;
      small = λ i h. subst Small (sym (get_or-replicate 8 i idle idle h)) tt;
    }

-- the bytes that are made stand for the collator that is made
pub makes : (roster s : List ℕ) → (made roster).number ≡ 0 → ((i : ℕ) → get_or roster i 0 < 65536) → state_size ≤ length s
    → state_in (made_stored roster s) ≡ (made roster).collator
makes roster s zero senders long =
    let whole : (made roster).collator ≡ fresh roster = ap (λ (m : Made). m.collator) (accepted roster zero).whole in
    ap state_in (sym (made_put roster s (passes roster zero) long refl).1)
    ∙ state_stored (fresh roster) (fresh_held roster (accepted roster zero).few senders) s long
    ∙ sym whole

pub length-made : (roster s : List ℕ) → length (made_stored roster s) ≡ length s
length-made roster s = by (made_in roster (length s))
  where
    by : (a : Answer Collator) → length (leaves collator_stored a s) ≡ length s
    by (given c) = length-collator c s
    by (refused n) = refl
