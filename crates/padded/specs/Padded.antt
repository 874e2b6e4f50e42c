-- A text in bytes with zeros after it: 003's string, "NULL padded/terminated". Document 02, P1.
use Rattle.std.specs.Prelude.{ℕ, Bool, true, ◌&&◌, not, cond, List, [], ◌∷◌, eqb, replicate}

-- the bytes before the first zero: all of them where there is none
unfoldable pub before_zero : List ℕ → List ℕ
before_zero [] = []
before_zero (b ∷ s) = cond (eqb b 0) [] (b ∷ before_zero s)

-- and the bytes from it on
unfoldable pub from_zero : List ℕ → List ℕ
from_zero [] = []
from_zero (b ∷ s) = cond (eqb b 0) (b ∷ s) (from_zero s)

-- no byte is zero
unfoldable pub no_zero : List ℕ → Bool
no_zero [] = true
no_zero (b ∷ s) = not (eqb b 0) && no_zero s

-- every byte is zero
unfoldable pub all_zero : List ℕ → Bool
all_zero [] = true
all_zero (b ∷ s) = eqb b 0 && all_zero s

-- n zeros
abbrev pub zeros : ℕ → List ℕ
zeros n = replicate n 0
