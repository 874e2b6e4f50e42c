-- What a call leaves is determined by what its contract says: a result by itself or by the answer that the contract speaks of, and lent bytes.
use mathlib.Core.Path.{◌≡◌, refl, sym, ap, ◌∙◌}
use Rattle.std.specs.Prelude.{ℕ, true, ltb, Result}
use seplogic.Ra.Ura.{Ura}
use base.Logic.{SProp, ent, emp, sep, fst∗, snd∗, via, emp∗, mono_l, mono_r, guard_i}
use contract.Lifetimes.{Lfts}
use contract.Monad.{fact, fact_use, fact_i, conj, conj_l, conj_r, conj_mono}
use denote.Triple.Clauses.{Ended, Clauses}
use Rattle.refusals.specs.Refusals.{Answer, as_number, zero_or}
use Rattle.refusals.specs.Numbers.{answer_of}
use Rattle.refusals.specs.declared.Refusal.{Refusal}
use Rattle.calls.proofs.Results.{same_answer, same_number}
use Rattle.determined.specs.Determined.{Determined, DeterminedWithin}

-- ---- from clauses to what they say, at a model of the logic

module _ {M : Type 1} (𝓤 : Ura M) where
  one_clause : {P Q R : Type 0} → (P → Q → R) → ent 𝓤 (conj 𝓤 (fact 𝓤 P) (fact 𝓤 Q)) (fact 𝓤 R)
  one_clause {P} {Q} {R} f =
      fact_use 𝓤 P (conj_l 𝓤 (fact 𝓤 P) (fact 𝓤 Q)) (λ p. fact_use 𝓤 Q (conj_r 𝓤 (fact 𝓤 P) (fact 𝓤 Q)) (λ q. fact_i 𝓤 R (conj 𝓤 (fact 𝓤 P) (fact 𝓤 Q)) (f p q)))

  -- two clauses say as much as one of both
  pub beside : {P Q : Type 0} → ent 𝓤 (sep 𝓤 (fact 𝓤 P) (fact 𝓤 Q)) (fact 𝓤 (P × Q))
  beside {P} {Q} =
      fact_use 𝓤 P (fst∗ 𝓤 (fact 𝓤 P) (fact 𝓤 Q)) (λ p. fact_use 𝓤 Q (snd∗ 𝓤 (fact 𝓤 P) (fact 𝓤 Q)) (λ q. fact_i 𝓤 (P × Q) (sep 𝓤 (fact 𝓤 P) (fact 𝓤 Q)) (p, q)))

  pub two_clauses : {P P' Q Q' R : Type 0} → (P × P' → Q × Q' → R) → ent 𝓤 (conj 𝓤 (sep 𝓤 (fact 𝓤 P) (fact 𝓤 P')) (sep 𝓤 (fact 𝓤 Q) (fact 𝓤 Q'))) (fact 𝓤 R)
  two_clauses {P} {P'} {Q} {Q'} f = via 𝓤 (conj 𝓤 (fact 𝓤 (P × P')) (fact 𝓤 (Q × Q'))) (conj_mono 𝓤 beside beside) (one_clause f)

  -- ---- a result or a buffer that is said itself

  pub plain : {D : Type 0} {x y d : D} → ent 𝓤 (conj 𝓤 (fact 𝓤 (x ≡ d)) (fact 𝓤 (y ≡ d))) (fact 𝓤 ((x ≡ y) × Unit {0}))
  plain = one_clause (λ p e. (p ∙ sym e, tt))

  pub stored : {D : Type 0} {x y d : D} → ent 𝓤 (conj 𝓤 (fact 𝓤 (x ≡ d)) (fact 𝓤 (y ≡ d))) (fact 𝓤 (◌≡◌ {A = Unit {0}} tt tt × ((x ≡ y) × Unit {0})))
  stored = one_clause (λ p e. (refl, (p ∙ sym e, tt)))

  pub plain_stored : {D B : Type 0} {x y d : D} {b c e : B}
      → ent 𝓤 (conj 𝓤 (sep 𝓤 (fact 𝓤 (x ≡ d)) (fact 𝓤 (b ≡ e))) (sep 𝓤 (fact 𝓤 (y ≡ d)) (fact 𝓤 (c ≡ e)))) (fact 𝓤 ((x ≡ y) × ((b ≡ c) × Unit {0})))
  plain_stored = two_clauses (λ p q. (p.0 ∙ sym q.0, (p.1 ∙ sym q.1, tt)))

  pub plain_stored_stored : {D B C : Type 0} {x y d : D} {b c e : B} {u v w : C}
      → ent 𝓤 (conj 𝓤 (sep 𝓤 (fact 𝓤 (x ≡ d)) (sep 𝓤 (fact 𝓤 (b ≡ e)) (fact 𝓤 (u ≡ w)))) (sep 𝓤 (fact 𝓤 (y ≡ d)) (sep 𝓤 (fact 𝓤 (c ≡ e)) (fact 𝓤 (v ≡ w)))))
      (fact 𝓤 ((x ≡ y) × ((b ≡ c) × ((u ≡ v) × Unit {0}))))
  plain_stored_stored {D} {B} {C} {x} {y} {d} {b} {c} {e} {u} {v} {w} =
      via 𝓤 (conj 𝓤 (sep 𝓤 (fact 𝓤 (x ≡ d)) (fact 𝓤 ((b ≡ e) × (u ≡ w)))) (sep 𝓤 (fact 𝓤 (y ≡ d)) (fact 𝓤 ((c ≡ e) × (v ≡ w)))))
      (conj_mono 𝓤 (mono_r 𝓤 (fact 𝓤 (x ≡ d)) beside) (mono_r 𝓤 (fact 𝓤 (y ≡ d)) beside))
      (two_clauses (λ p q. (p.0 ∙ sym q.0, (p.1.0 ∙ sym q.1.0, (p.1.1 ∙ sym q.1.1, tt)))))

  -- beside what is left of something else, if that is one
  pub plain_beside : {D B : Type 0} {x y d : D} {b c : B} → b ≡ c → ent 𝓤 (conj 𝓤 (fact 𝓤 (x ≡ d)) (fact 𝓤 (y ≡ d))) (fact 𝓤 ((x ≡ y) × ((b ≡ c) × Unit {0})))
  plain_beside q = one_clause (λ p e. (p ∙ sym e, (q, tt)))

  pub beside_stored : {U B : Type 0} {u w : U} {b c e : B} → u ≡ w → ent 𝓤 (conj 𝓤 (fact 𝓤 (b ≡ e)) (fact 𝓤 (c ≡ e))) (fact 𝓤 (◌≡◌ {A = Unit {0}} tt tt × ((u ≡ w) × ((b ≡ c) × Unit {0}))))
  beside_stored q = one_clause (λ p e. (refl, (q, (p ∙ sym e, tt))))

  -- all in one clause, as walked functions say it
  pub both : {D B : Type 0} {x y d : D} {b c e : B} → ent 𝓤 (conj 𝓤 (fact 𝓤 ((x ≡ d) × (b ≡ e))) (fact 𝓤 ((y ≡ d) × (c ≡ e)))) (fact 𝓤 ((x ≡ y) × ((b ≡ c) × Unit {0})))
  both = one_clause (λ p q. (p.0 ∙ sym q.0, (p.1 ∙ sym q.1, tt)))

  pub three : {D B C : Type 0} {x y d : D} {b c e : B} {u v w : C}
      → ent 𝓤 (conj 𝓤 (fact 𝓤 ((x ≡ d) × (b ≡ e) × (u ≡ w))) (fact 𝓤 ((y ≡ d) × (c ≡ e) × (v ≡ w)))) (fact 𝓤 ((x ≡ y) × ((b ≡ c) × ((u ≡ v) × Unit {0}))))
  three = one_clause (λ p q. (p.0 ∙ sym q.0, (p.1 ∙ sym q.1, (p.2 ∙ sym q.2, tt))))

  -- ---- a result that is said by its answer, or by its number

  pub answered : {A : Type 0} {x y : Result A Refusal} {d : Answer A} → ent 𝓤 (conj 𝓤 (fact 𝓤 (answer_of x ≡ d)) (fact 𝓤 (answer_of y ≡ d))) (fact 𝓤 ((x ≡ y) × Unit {0}))
  answered = one_clause (λ p e. (same_answer p e, tt))

  pub answered_stored : {A B : Type 0} {x y : Result A Refusal} {d : Answer A} {b c e : B}
      → ent 𝓤 (conj 𝓤 (sep 𝓤 (fact 𝓤 (answer_of x ≡ d)) (fact 𝓤 (b ≡ e))) (sep 𝓤 (fact 𝓤 (answer_of y ≡ d)) (fact 𝓤 (c ≡ e)))) (fact 𝓤 ((x ≡ y) × ((b ≡ c) × Unit {0})))
  answered_stored = two_clauses (λ p q. (same_answer p.0 q.0, (p.1 ∙ sym q.1, tt)))

  module _ {A : Type 0} (number : A → ℕ) (of : ℕ → A) (back : (x : A) → of (number x) ≡ x) (below : (x : A) → ltb (number x) 11 ≡ true) where
    pub told : (x y : Result A Refusal) (n : ℕ) → ent 𝓤 (conj 𝓤 (fact 𝓤 (as_number number (answer_of x) ≡ n)) (fact 𝓤 (as_number number (answer_of y) ≡ n))) (fact 𝓤 ((x ≡ y) × Unit {0}))
    told x y n = one_clause (λ p e. (same_number number of back below p e, tt))

    pub told_stored : {B : Type 0} (x y : Result A Refusal) (n : ℕ) (b c e : B)
        → ent 𝓤 (conj 𝓤 (sep 𝓤 (fact 𝓤 (as_number number (answer_of x) ≡ n)) (fact 𝓤 (b ≡ e))) (sep 𝓤 (fact 𝓤 (as_number number (answer_of y) ≡ n)) (fact 𝓤 (c ≡ e))))
        (fact 𝓤 ((x ≡ y) × ((b ≡ c) × Unit {0})))
    told_stored x y n b c e = two_clauses (λ p q. (same_number number of back below p.0 q.0, (p.1 ∙ sym q.1, tt)))

    pub told_stored_stored : {B C : Type 0} (x y : Result A Refusal) (n : ℕ) (b c e : B) (u v w : C)
        → ent 𝓤
        (conj 𝓤
        (sep 𝓤 (fact 𝓤 (as_number number (answer_of x) ≡ n)) (sep 𝓤 (fact 𝓤 (b ≡ e)) (fact 𝓤 (u ≡ w))))
        (sep 𝓤 (fact 𝓤 (as_number number (answer_of y) ≡ n)) (sep 𝓤 (fact 𝓤 (c ≡ e)) (fact 𝓤 (v ≡ w)))))
        (fact 𝓤 ((x ≡ y) × ((b ≡ c) × ((u ≡ v) × Unit {0}))))
    told_stored_stored x y n b c e u v w =
        via 𝓤
        (conj 𝓤
        (sep 𝓤 (fact 𝓤 (as_number number (answer_of x) ≡ n)) (fact 𝓤 ((b ≡ e) × (u ≡ w))))
        (sep 𝓤 (fact 𝓤 (as_number number (answer_of y) ≡ n)) (fact 𝓤 ((c ≡ e) × (v ≡ w)))))
        (conj_mono 𝓤 (mono_r 𝓤 (fact 𝓤 (as_number number (answer_of x) ≡ n)) beside) (mono_r 𝓤 (fact 𝓤 (as_number number (answer_of y) ≡ n)) beside))
        (two_clauses (λ p q. (same_number number of back below p.0 q.0, (p.1.0 ∙ sym q.1.0, (p.1.1 ∙ sym q.1.1, tt)))))

  pub numbered : (x y : Result (Unit {0}) Refusal) (n : ℕ) → ent 𝓤 (conj 𝓤 (fact 𝓤 (zero_or (answer_of x) ≡ n)) (fact 𝓤 (zero_or (answer_of y) ≡ n))) (fact 𝓤 ((x ≡ y) × Unit {0}))
  numbered = told (λ x. 0) (λ n. tt) (λ x. refl) (λ x. refl)

  pub numbered_stored : {B : Type 0} (x y : Result (Unit {0}) Refusal) (n : ℕ) (b c e : B)
      → ent 𝓤 (conj 𝓤 (sep 𝓤 (fact 𝓤 (zero_or (answer_of x) ≡ n)) (fact 𝓤 (b ≡ e))) (sep 𝓤 (fact 𝓤 (zero_or (answer_of y) ≡ n)) (fact 𝓤 (c ≡ e)))) (fact 𝓤 ((x ≡ y) × ((b ≡ c) × Unit {0})))
  numbered_stored = told_stored (λ x. 0) (λ n. tt) (λ x. refl) (λ x. refl)

  pub numbered_stored_stored : {B C : Type 0} (x y : Result (Unit {0}) Refusal) (n : ℕ) (b c e : B) (u v w : C)
      → ent 𝓤
      (conj 𝓤
      (sep 𝓤 (fact 𝓤 (zero_or (answer_of x) ≡ n)) (sep 𝓤 (fact 𝓤 (b ≡ e)) (fact 𝓤 (u ≡ w))))
      (sep 𝓤 (fact 𝓤 (zero_or (answer_of y) ≡ n)) (sep 𝓤 (fact 𝓤 (c ≡ e)) (fact 𝓤 (v ≡ w)))))
      (fact 𝓤 ((x ≡ y) × ((b ≡ c) × ((u ≡ v) × Unit {0}))))
  numbered_stored_stored = told_stored_stored (λ x. 0) (λ n. tt) (λ x. refl) (λ x. refl)

  -- ---- a result by something else that says it, and is said by no other

  pub said_by : {E D : Type 0} (said : E → D) (back : D → E) → ((x : E) → back (said x) ≡ x) → (x y : E) (d : D) → ent 𝓤 (conj 𝓤 (fact 𝓤 (said x ≡ d)) (fact 𝓤 (said y ≡ d))) (fact 𝓤 ((x ≡ y) × Unit {0}))
  said_by said back returns x y d = one_clause (λ p q. (sym (returns x) ∙ ap back (p ∙ sym q) ∙ returns y, tt))

  -- ---- what a function of any types asks of lifetimes: that a call's lie within those of its types

  pub held : {φ : Type 0} {P : SProp 𝓤} → φ → ent 𝓤 (emp 𝓤) P → ent 𝓤 (emp 𝓤) (sep 𝓤 (fact 𝓤 φ) P)
  held {φ} {P} f h = via 𝓤 P h (via 𝓤 (sep 𝓤 (emp 𝓤) P) (emp∗ 𝓤 P) (mono_l 𝓤 P (guard_i 𝓤 φ (emp 𝓤) f)))

  -- where it lies within them whatever it is, as within those of a type without references, nothing is asked
  pub free : {T : Ended} {c : Clauses 𝓤 T} {Within : Lfts T.signature.lifetimes → Type 0} → DeterminedWithin 𝓤 T c Within → ((κs : Lfts T.signature.lifetimes) → Within κs) → Determined 𝓤 T c
  free d within = record { asks_nothing = λ κs a. d.asks_lifetimes κs a (within κs); one_end = d.one_end }
