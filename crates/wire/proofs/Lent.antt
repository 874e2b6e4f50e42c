-- What is lent of a list from some place on, as code denotes it, and the list once that has come back.
use mathlib.Core.Path.{◌≡◌, ap, ◌∙◌}
use mathlib.Core.List.{List, ◌++◌}
use Prim.Native.Nat.{ℕ, ◌-◌}
use native.Mathlib.Omega.{arith}
use lib.ListN.{length, take, drop, length-drop}
use lib.Seq.{take_all}

abbrev pub lent_from : ℕ → List ℕ → List ℕ
lent_from n l = take (length l - n) (drop n l)

-- t is what came back
abbrev pub back_from : ℕ → List ℕ → List ℕ → List ℕ
back_from n l t = take n l ++ (t ++ drop (length l - n) (drop n l))

pub lent_all : (n : ℕ) (l : List ℕ) → lent_from n l ≡ drop n l
lent_all n l = take_all (length l - n) (drop n l) (rw length-drop (omega arith))

pub lent_length : (n : ℕ) (l : List ℕ) → length (lent_from n l) ≡ length l - n
lent_length n l = ap length (lent_all n l) ∙ length-drop n l
