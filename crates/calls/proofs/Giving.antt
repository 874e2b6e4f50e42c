-- What a contract says, as the value of a function of the inputs: a result by itself or by its answer, and lent memory beside it.
use mathlib.Core.Path.{◌≡◌, refl, sym, ap, ◌∙◌}
use Rattle.std.specs.Prelude.{ℕ, true, ltb, Result}
use seplogic.Ra.Ura.{Ura}
use base.Logic.{ent, sep, fst∗, snd∗, via, mono_r}
use contract.Monad.{fact, fact_use, fact_mono, fact_i}
use Rattle.refusals.specs.Refusals.{Answer, as_number, zero_or}
use Rattle.refusals.specs.Numbers.{answer_of}
use Rattle.refusals.specs.declared.Refusal.{Refusal}
use Rattle.calls.specs.Replies.{result_of, told_by, done_or}
use Rattle.calls.proofs.Results.{by_answer, by_number}

-- ---- from clauses to what they say, at a model of the logic

module _ {M : Type 1} (𝓤 : Ura M) where
  -- two clauses say as much as one of both
  pub beside : {P Q : Type 0} → ent 𝓤 (sep 𝓤 (fact 𝓤 P) (fact 𝓤 Q)) (fact 𝓤 (P × Q))
  beside {P} {Q} =
      fact_use 𝓤 P (fst∗ 𝓤 (fact 𝓤 P) (fact 𝓤 Q)) (λ p. fact_use 𝓤 Q (snd∗ 𝓤 (fact 𝓤 P) (fact 𝓤 Q)) (λ q. fact_i 𝓤 (P × Q) (sep 𝓤 (fact 𝓤 P) (fact 𝓤 Q)) (p, q)))

  pub two : {P Q R : Type 0} → (P → Q → R) → ent 𝓤 (sep 𝓤 (fact 𝓤 P) (fact 𝓤 Q)) (fact 𝓤 R)
  two {P} {Q} {R} f = via 𝓤 (fact 𝓤 (P × Q)) beside (fact_mono 𝓤 (P × Q) R (λ x. f x.0 x.1))

  pub plain : {D : Type 0} {x d : D} → ent 𝓤 (fact 𝓤 (x ≡ d)) (fact 𝓤 ((x ≡ d) × Unit {0}))
  plain {D} {x} {d} = fact_mono 𝓤 (x ≡ d) ((x ≡ d) × Unit {0}) (λ p. (p, tt))

  pub plain_stored : {D B : Type 0} {x d : D} {b e : B} → ent 𝓤 (sep 𝓤 (fact 𝓤 (x ≡ d)) (fact 𝓤 (b ≡ e))) (fact 𝓤 ((x ≡ d) × ((b ≡ e) × Unit {0})))
  plain_stored = two (λ p q. (p, (q, tt)))

  pub plain_stored_stored : {D B C : Type 0} {x d : D} {b e : B} {u w : C}
      → ent 𝓤 (sep 𝓤 (fact 𝓤 (x ≡ d)) (sep 𝓤 (fact 𝓤 (b ≡ e)) (fact 𝓤 (u ≡ w)))) (fact 𝓤 ((x ≡ d) × ((b ≡ e) × ((u ≡ w) × Unit {0}))))
  plain_stored_stored {D} {B} {C} {x} {d} {b} {e} {u} {w} =
      via 𝓤 (sep 𝓤 (fact 𝓤 (x ≡ d)) (fact 𝓤 ((b ≡ e) × (u ≡ w)))) (mono_r 𝓤 (fact 𝓤 (x ≡ d)) beside) (two (λ p q. (p, (q.0, (q.1, tt)))))

  -- nothing but what it leaves
  pub stored : {B : Type 0} {b e : B} → ent 𝓤 (fact 𝓤 (b ≡ e)) (fact 𝓤 (◌≡◌ {A = Unit {0}} tt tt × ((b ≡ e) × Unit {0})))
  stored {B} {b} {e} = fact_mono 𝓤 (b ≡ e) (◌≡◌ {A = Unit {0}} tt tt × ((b ≡ e) × Unit {0})) (λ p. (refl, (p, tt)))

  -- by its answer
  pub answered : {A : Type 0} {x : Result A Refusal} {d : Answer A} → ent 𝓤 (fact 𝓤 (answer_of x ≡ d)) (fact 𝓤 ((x ≡ result_of d) × Unit {0}))
  answered {A} {x} {d} = fact_mono 𝓤 (answer_of x ≡ d) ((x ≡ result_of d) × Unit {0}) (λ p. (by_answer p, tt))

  pub answered_stored : {A B : Type 0} {x : Result A Refusal} {d : Answer A} {b e : B}
      → ent 𝓤 (sep 𝓤 (fact 𝓤 (answer_of x ≡ d)) (fact 𝓤 (b ≡ e))) (fact 𝓤 ((x ≡ result_of d) × ((b ≡ e) × Unit {0})))
  answered_stored = two (λ p q. (by_answer p, (q, tt)))

  -- by something else that says it
  pub said_by : {E D : Type 0} (said : E → D) (back : D → E) → ((x : E) → back (said x) ≡ x) → (x : E) (d : D) → ent 𝓤 (fact 𝓤 (said x ≡ d)) (fact 𝓤 ((x ≡ back d) × Unit {0}))
  said_by said back returns x d = fact_mono 𝓤 (said x ≡ d) ((x ≡ back d) × Unit {0}) (λ p. (sym (returns x) ∙ ap back p, tt))

  -- by its number
  module _ {A : Type 0} (number : A → ℕ) (of : ℕ → A) (back : (x : A) → of (number x) ≡ x) (below : (x : A) → ltb (number x) 11 ≡ true) where
    pub told : (x : Result A Refusal) (n : ℕ) → ent 𝓤 (fact 𝓤 (as_number number (answer_of x) ≡ n)) (fact 𝓤 ((x ≡ told_by of n) × Unit {0}))
    told x n = fact_mono 𝓤 (as_number number (answer_of x) ≡ n) ((x ≡ told_by of n) × Unit {0}) (λ p. (by_number number of back below p, tt))

    pub told_stored : {B : Type 0} (x : Result A Refusal) (n : ℕ) (b e : B)
        → ent 𝓤 (sep 𝓤 (fact 𝓤 (as_number number (answer_of x) ≡ n)) (fact 𝓤 (b ≡ e))) (fact 𝓤 ((x ≡ told_by of n) × ((b ≡ e) × Unit {0})))
    told_stored x n b e = two (λ p q. (by_number number of back below p, (q, tt)))

    pub told_stored_stored : {B C : Type 0} (x : Result A Refusal) (n : ℕ) (b e : B) (u w : C)
        → ent 𝓤 (sep 𝓤 (fact 𝓤 (as_number number (answer_of x) ≡ n)) (sep 𝓤 (fact 𝓤 (b ≡ e)) (fact 𝓤 (u ≡ w)))) (fact 𝓤 ((x ≡ told_by of n) × ((b ≡ e) × ((u ≡ w) × Unit {0}))))
    told_stored_stored x n b e u w =
        via 𝓤 (sep 𝓤 (fact 𝓤 (as_number number (answer_of x) ≡ n)) (fact 𝓤 ((b ≡ e) × (u ≡ w)))) (mono_r 𝓤 (fact 𝓤 (as_number number (answer_of x) ≡ n)) beside)
        (two (λ p q. (by_number number of back below p, (q.0, (q.1, tt)))))

  -- that it is done
  pub numbered : (x : Result (Unit {0}) Refusal) (n : ℕ) → ent 𝓤 (fact 𝓤 (zero_or (answer_of x) ≡ n)) (fact 𝓤 ((x ≡ done_or n) × Unit {0}))
  numbered = told (λ x. 0) (λ n. tt) (λ x. refl) (λ x. refl)

  pub numbered_stored : {B : Type 0} (x : Result (Unit {0}) Refusal) (n : ℕ) (b e : B)
      → ent 𝓤 (sep 𝓤 (fact 𝓤 (zero_or (answer_of x) ≡ n)) (fact 𝓤 (b ≡ e))) (fact 𝓤 ((x ≡ done_or n) × ((b ≡ e) × Unit {0})))
  numbered_stored = told_stored (λ x. 0) (λ n. tt) (λ x. refl) (λ x. refl)

  pub numbered_stored_stored : {B C : Type 0} (x : Result (Unit {0}) Refusal) (n : ℕ) (b e : B) (u w : C)
      → ent 𝓤 (sep 𝓤 (fact 𝓤 (zero_or (answer_of x) ≡ n)) (sep 𝓤 (fact 𝓤 (b ≡ e)) (fact 𝓤 (u ≡ w)))) (fact 𝓤 ((x ≡ done_or n) × ((b ≡ e) × ((u ≡ w) × Unit {0}))))
  numbered_stored_stored = told_stored_stored (λ x. 0) (λ n. tt) (λ x. refl) (λ x. refl)
