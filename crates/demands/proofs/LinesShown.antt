-- What each line of a listing shows, number by number.
use mathlib.Core.Path.{◌≡◌, refl, ap, ◌∙◌}
use mathlib.Core.List.{List, [], ◌∷◌, ◌++◌, append_assoc}
use Prim.Native.Nat.{ℕ}
use Rattle.text.specs.Decimal.{decimal}
use Rattle.text.specs.Line.{fields, line}
use Rattle.demands.specs.Demand2.{shows}

pub shown_line : (letter : ℕ) (ns : List ℕ) → line letter ns ≡ letter ∷ shows ns
unfolding line fields
shown_line letter ns = ap (λ (t : List ℕ). letter ∷ t) (by ns)
  where
    by : (ns : List ℕ) → fields ns ++ 0x0a ∷ [] ≡ shows ns
    by [] = refl
    by (n ∷ ns) = ap (λ (t : List ℕ). 0x20 ∷ t) (append_assoc (decimal n) (fields ns) (0x0a ∷ []) ∙ ap (λ (t : List ℕ). decimal n ++ t) (by ns))
