-- Tests of one list after those of another, and answers of another value by the same tests.
use mathlib.Core.Path.{◌≡◌, refl}
use mathlib.Core.Bool.{Bool, true, false, cond}
use mathlib.Core.List.{[], ◌∷◌, ◌++◌}
use Rattle.refusals.specs.Refusals.{refused, given, Answer, Tests, mapped, ordered}

module _ {A B : Type 0} (f : A → B) (x : A) where
  pub ordered_mapped : (ts : Tests) → ordered ts (f x) ≡ mapped f (ordered ts x)
  ordered_mapped [] = refl
  ordered_mapped (t ∷ ts) = by t.0 (ordered_mapped ts)
    where
      by : (b : Bool) → ordered ts (f x) ≡ mapped f (ordered ts x) → cond b (ordered ts (f x)) (refused t.1) ≡ mapped f (cond b (ordered ts x) (refused t.1))
      by true rest = rest
      by false rest = refl

-- a refusal stands, else the second answer is given
abbrev pub and_then : {A B : Type 0} → Answer A → Answer B → Answer B
and_then (given x) b = b
and_then (refused n) b = refused n

module _ {A B : Type 0} (x : A) (y : B) (us : Tests) where
  -- the first list decides, and where it passes the second
  pub ordered_joined : (ts : Tests) → ordered (ts ++ us) y ≡ and_then (ordered ts x) (ordered us y)
  ordered_joined [] = refl
  ordered_joined (t ∷ ts) = by t.0 (ordered_joined ts)
    where
      by : (b : Bool) → ordered (ts ++ us) y ≡ and_then (ordered ts x) (ordered us y)
          → cond b (ordered (ts ++ us) y) (refused t.1) ≡ and_then (cond b (ordered ts x) (refused t.1)) (ordered us y)
      by true rest = rest
      by false rest = refl
