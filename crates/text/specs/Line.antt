-- A line of text: a letter, each number behind a space, and the line's end.
use Rattle.std.specs.Prelude.{ℕ, List, [], ◌∷◌, ◌++◌}
use Rattle.text.specs.Decimal.{decimal}

unfoldable pub fields : List ℕ → List ℕ
fields [] = []
fields (n ∷ ns) = 32 ∷ decimal n ++ fields ns

unfoldable pub line : ℕ → List ℕ → List ℕ
unfolding fields
line letter ns = letter ∷ fields ns ++ 10 ∷ []
