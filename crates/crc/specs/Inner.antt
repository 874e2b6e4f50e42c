-- What only private contracts cite: bytes as a number, highest first, and what a number leaves in the register.
use Rattle.std.specs.Prelude.{ℕ, zero, suc, ◌*◌, ◌/◌, ◌%◌, ◌^◌, List, [], ◌∷◌}
use Rattle.std.specs.Int.Bits.{bit_xor}
use Rattle.crc.specs.Crc.{bit_step}
use Rattle.crc.specs.declared.folding.Words.{Words}

-- `with_bytes` (Remainder.antt) with xor for the sum, so that laws need no bound on the bytes; of bytes the two are equal
unfoldable pub behind : ℕ → List ℕ → ℕ
behind n [] = n
behind n (b ∷ s) = behind (bit_xor (n * 256) b) s

abbrev pub number_of : List ℕ → ℕ
number_of s = behind 0 s

-- what a number's lowest k bits leave, highest first: each moves what is there up by a step and is added
unfoldable pub rest_of : ℕ → ℕ → ℕ
rest_of zero n = 0
rest_of (suc k) n = bit_xor (bit_step (rest_of k (n / 2))) (n % 2)

-- what all its bits leave: it has no more of them than itself
unfoldable pub rest : ℕ → ℕ
unfolding rest_of
rest n = rest_of n n

-- a number with a word of 64 bits behind it, and four words as one number
abbrev pub then : ℕ → ℕ → ℕ
then n w = bit_xor (n * 2 ^ 64) w

abbrev pub joined : Words → ℕ
joined x = then (then (then x.a x.b) x.c) x.d

-- what of q times the polynomial at s stands above bit 16 s
unfoldable pub above : ℕ → ℕ → ℕ
above s q = bit_xor q (bit_xor (q / 2 ^ (4 * s)) (bit_xor (q / 2 ^ (11 * s)) (q / 2 ^ (16 * s))))
