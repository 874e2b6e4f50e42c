-- Tests in order: a refusal is given exactly when its own test is the first to fail, once for every list of tests.
use mathlib.Core.Path.{◌≡◌, refl, sym, ap, ◌∙◌}
use mathlib.Core.Bool.{Bool, true, false, cond}
use mathlib.Core.List.{[], ◌∷◌}
use mathlib.Core.Logic.{◌↔◌, inl, inr}
use Prim.Native.Nat.{ℕ}
use Rattle.refusals.specs.Refusals.{refused, given, Tests, ordered, FirstFails, AllPass}
use Rattle.refusals.proofs.Distinct.{same_given, never_both, same_refused}

module _ {A : Type 0} (x : A) where
  refused_first : (ts : Tests) (n : ℕ) → ordered ts x ≡ refused n → FirstFails ts n
  refused_first [] n e = absurd (never_both refl e)
  refused_first (t ∷ ts) n e = by t.0 refl e (refused_first ts n)
    where
      by : (b : Bool) → t.0 ≡ b → cond b (ordered ts x) (refused t.1) ≡ refused n → (ordered ts x ≡ refused n → FirstFails ts n) → FirstFails (t ∷ ts) n
      by true q e rest = inr (q, rest e)
      by false q e rest = inl (q, same_refused e refl)

  first_refuses : (ts : Tests) (n : ℕ) → FirstFails ts n → ordered ts x ≡ refused n
  first_refuses [] n e = elim e [ ]
  first_refuses (t ∷ ts) n (inl f) = rw f.0 (ap refused (sym f.1))
  first_refuses (t ∷ ts) n (inr f) = rw f.0 (first_refuses ts n f.1)

  pub exactly_first : (ts : Tests) (n : ℕ) → (ordered ts x ≡ refused n) ↔ FirstFails ts n
  exactly_first ts n = (refused_first ts n, first_refuses ts n)

  given_all : (ts : Tests) (y : A) → ordered ts x ≡ given y → AllPass ts × (x ≡ y)
  given_all [] y e = (tt, same_given refl e)
  given_all (t ∷ ts) y e = by t.0 refl e (given_all ts y)
    where
      by : (b : Bool) → t.0 ≡ b → cond b (ordered ts x) (refused t.1) ≡ given y → (ordered ts x ≡ given y → AllPass ts × (x ≡ y)) → AllPass (t ∷ ts) × (x ≡ y)
      by true q e rest = let r = rest e in ((q, r.0), r.1)
      by false q e rest = absurd (never_both e refl)

  all_give : (ts : Tests) → AllPass ts → ordered ts x ≡ given x
  all_give [] p = refl
  all_give (t ∷ ts) p = rw p.0 (all_give ts p.1)

  pub exactly_all : (ts : Tests) (y : A) → (ordered ts x ≡ given y) ↔ (AllPass ts × (x ≡ y))
  exactly_all ts y = (given_all ts y, λ p. all_give ts p.0 ∙ ap given p.1)
