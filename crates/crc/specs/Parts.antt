-- Document 02, P3: "the CRC of two parts joined equals the CRC of the second begun at the CRC of the first, for empty parts too"; and of any
-- number of parts, from any start.
use Rattle.std.specs.Prelude.{ℕ, ◌≡◌}
use mathlib.Core.List.{List, ◌++◌, flatten, foldl}
use Rattle.crc.specs.Crc.{crc_from}

pub record GoesOn : Type 0 where
  pub two : (c : ℕ) (s t : List ℕ) → crc_from c (s ++ t) ≡ crc_from (crc_from c s) t
  pub any_number : (c : ℕ) (parts : List (List ℕ)) → crc_from c (flatten parts) ≡ foldl crc_from c parts
