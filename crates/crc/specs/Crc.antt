-- The CRC of document 01, "A frame": CCITT as XMODEM uses it, x^16 + x^12 + x^5 + 1, highest bit first, no final change.
use Rattle.std.specs.Prelude.{ℕ, zero, suc, ◌*◌, ◌/◌, ◌%◌, List, [], ◌∷◌}
use Rattle.std.specs.Int.Bits.{bit_xor}

-- one bit: the register moves up, and where its highest bit falls out the polynomial is added
unfoldable pub bit_step : ℕ → ℕ
bit_step c = bit_xor (c * 2 % 65536) (c / 32768 % 2 * 0x1021)

-- n of them
unfoldable pub bit_steps : ℕ → ℕ → ℕ
bit_steps zero c = c
bit_steps (suc n) c = bit_steps n (bit_step c)

-- a byte: added to the register's upper half, then eight bits
unfoldable pub byte_step : ℕ → ℕ → ℕ
byte_step c b = bit_steps 8 (bit_xor c (b * 256))

-- the bytes in order, from a start value
unfoldable pub crc_from : ℕ → List ℕ → ℕ
crc_from c [] = c
crc_from c (b ∷ s) = crc_from (byte_step c b) s
