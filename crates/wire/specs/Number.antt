-- Whole numbers in bytes, little-endian: one definition over the width for all of them.
use Rattle.std.specs.Prelude.{ℕ, zero, suc, ◌+◌, ◌*◌, ◌/◌, ◌%◌, ◌^◌, ◌<◌, Bool, cond, List, [], ◌∷◌, leb, eqb, length, get_or, take, drop}
use Rattle.std.proofs.lemmas.List.Edits.{sets}

-- every element is a byte
abbrev pub Bytes : List ℕ → Type 0
Bytes s = (i : ℕ) → get_or s i 0 < 256

-- the number that bytes stand for, the lowest first
unfoldable pub little : List ℕ → ℕ
little [] = 0
little (b ∷ s) = b + 256 * little s

-- a number as w bytes, the lowest first
unfoldable pub bytes_of : ℕ → ℕ → List ℕ
bytes_of zero n = []
bytes_of (suc w) n = n % 256 ∷ bytes_of w (n / 256)

-- the number in the w bytes from an offset on; a byte past the end counts 0
unfoldable pub number_at : ℕ → List ℕ → ℕ → ℕ
unfolding little
number_at w s at = little (take w (drop at s))

-- s with a number stored as the w bytes from an offset on; a store that runs past the end changes nothing
unfoldable pub stored_at : ℕ → ℕ → List ℕ → ℕ → List ℕ
unfolding bytes_of
stored_at w n s at = cond (leb (at + w) (length s)) (sets s at (bytes_of w n)) s

-- s with bytes stored from an offset on, whole or not at all
unfoldable pub bytes_stored : List ℕ → List ℕ → ℕ → List ℕ
bytes_stored bs s at = cond (leb (at + length bs) (length s)) (sets s at bs) s

-- bit k of a number, the lowest being bit 0
unfoldable pub flag_at : ℕ → ℕ → Bool
flag_at n k = eqb (n / 2 ^ k % 2) 1
