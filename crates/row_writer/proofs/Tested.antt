-- Tests and then more of them, by what the first were answered: a refusal stands, and what passes goes on to the rest.
use mathlib.Core.Path.{◌≡◌, sym, ap, ◌∙◌}
use mathlib.Core.List.{◌++◌}
use Prim.Native.Nat.{ℕ}
use Rattle.refusals.specs.Refusals.{refused, given, Answer, Tests, ordered, AllPass}
use Rattle.refusals.proofs.Ordered.{exactly_all}
use Rattle.refusals.proofs.Joined.{and_then, ordered_joined}

module _ {A : Type 0} (ts us : Tests) (x : A) (y : ℕ) where
  by : {a : Answer A} → ordered ts x ≡ a → ordered (ts ++ us) y ≡ and_then a (ordered us y)
  by e = ordered_joined x y us ts ∙ ap (λ (a : Answer A). and_then a (ordered us y)) e

  pub stands : {n : ℕ} → refused n ≡ ordered ts x → ordered (ts ++ us) y ≡ refused n
  stands p = by (sym p)

  pub goes_on : {z : A} → given z ≡ ordered ts x → ordered (ts ++ us) y ≡ ordered us y
  goes_on p = by (sym p)

pub all_pass : {A : Type 0} (ts : Tests) (x : A) {z : A} → given z ≡ ordered ts x → AllPass ts × (x ≡ z)
all_pass ts x {z} p = (exactly_all x ts z).0 (sym p)
