-- The one search of a roster: where it lists a sender, whether it does, whether it lists one twice.
use Rattle.std.specs.Prelude.{ℕ, suc, Bool, true, false, cond, List, [], ◌∷◌, eqb, Option, Some, None, is_some}

-- where a roster lists a sender, counted from i
unfoldable pub seat_of : List ℕ → ℕ → ℕ → Option ℕ
seat_of [] sender i = None
seat_of (x ∷ xs) sender i = cond (eqb x sender) (Some i) (seat_of xs sender (suc i))

-- a roster lists a sender
unfoldable pub names : List ℕ → ℕ → Bool
unfolding seat_of
names roster sender = is_some (seat_of roster sender 0)

-- a sender is listed twice
unfoldable pub repeats : List ℕ → Bool
unfolding names
repeats [] = false
repeats (x ∷ xs) = cond (names xs x) true (repeats xs)
