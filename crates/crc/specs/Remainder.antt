-- What the CRC is, however it is worked out: bytes make a number, highest first; 16 zero bits stand behind it; the CRC is what it leaves when it
-- is divided by x^16 + x^12 + x^5 + 1 (document 01, "A frame"). Bits are added without carry, which is xor.
use Rattle.std.specs.Prelude.{ℕ, ◌+◌, ◌*◌, ◌^◌, ◌<◌, ◌≡◌, List, [], ◌∷◌, length, get_or}
use Rattle.std.specs.Int.Bits.{bit_xor}
use Rattle.crc.specs.Crc.{crc_from}

-- what a lent slice of u8 holds; stated here, so that `crc` rests on no other crate
abbrev pub Bytes : List ℕ → Type 0
Bytes s = (i : ℕ) → get_or s i 0 < 256

-- the number that n makes with bytes behind it
unfoldable pub with_bytes : ℕ → List ℕ → ℕ
with_bytes n [] = n
with_bytes n (b ∷ s) = with_bytes (n * 256 + b) s

-- q times the polynomial
abbrev pub times : ℕ → ℕ
times q = bit_xor (q * 2 ^ 16) (bit_xor (q * 2 ^ 12) (bit_xor (q * 2 ^ 5) q))

-- n divided by it leaves r
pub record Leaves (n r : ℕ) : Type 0 where
  pub quotient : ℕ
  pub divided : n ≡ bit_xor (times quotient) r
  pub fits : r < 65536

pub record IsRemainder : Type 0 where
  pub crc : (s : List ℕ) → Bytes s → Leaves (with_bytes 0 s * 65536) (crc_from 0 s)
  -- begun at c, which is added to the first two bytes
  pub begun : (c : ℕ) (s : List ℕ) → c < 65536 → Bytes s → Leaves (bit_xor (c * 2 ^ (8 * length s)) (with_bytes 0 s * 65536)) (crc_from c s)
  -- and a number leaves no other
  pub only : (n r t : ℕ) → Leaves n r → Leaves n t → r ≡ t
