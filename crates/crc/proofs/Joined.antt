-- The CRC goes on: what the bytes so far came to is all that the next ones need.
use mathlib.Core.Path.{◌≡◌, refl, ◌∙◌}
use mathlib.Core.List.{List, [], ◌∷◌, ◌++◌, flatten, foldl}
use Prim.Native.Nat.{ℕ}
use Rattle.crc.specs.Crc.{byte_step, crc_from}
use Rattle.crc.specs.Parts.{GoesOn}

-- two parts joined
pub joined : (c : ℕ) (s t : List ℕ) → crc_from c (s ++ t) ≡ crc_from (crc_from c s) t
unfolding crc_from
joined c [] t = refl
joined c (b ∷ s) t = joined (byte_step c b) s t

-- any number of them
pub all_joined : (c : ℕ) (ss : List (List ℕ)) → crc_from c (flatten ss) ≡ foldl crc_from c ss
unfolding crc_from flatten
all_joined c [] = refl
all_joined c (s ∷ ss) = joined c s (flatten ss) ∙ all_joined (crc_from c s) ss

pub goes_on : GoesOn
goes_on = record { two = joined; any_number = all_joined }
