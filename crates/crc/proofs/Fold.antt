-- The CRC stays within 16 bits, whatever the bytes.
use mathlib.Core.List.{List, [], ◌∷◌}
use Prim.Native.Nat.{ℕ, zero, suc, ◌*◌, ◌%◌, ◌<◌}
use native.Mathlib.Omega.{arith}
use lib.Bits.{xor_lt}
use Rattle.crc.specs.Crc.{bit_step, bit_steps, byte_step, crc_from}

pub step_fits : (c : ℕ) → bit_step c < 65536
unfolding bit_step
step_fits c = xor_lt 16 (c * 2 % 65536) _ (omega arith) (omega arith)

steps_fit : (n c : ℕ) → bit_steps (suc n) c < 65536
unfolding bit_steps
steps_fit zero c = step_fits c
steps_fit (suc n) c = steps_fit n (bit_step c)

byte_step_fits : (c b : ℕ) → byte_step c b < 65536
unfolding byte_step
byte_step_fits c b = steps_fit _ _

pub crc_from_fits : (c : ℕ) (s : List ℕ) → c < 65536 → crc_from c s < 65536
unfolding crc_from
crc_from_fits c [] h = h
crc_from_fits c (b ∷ s) h = crc_from_fits (byte_step c b) s (byte_step_fits c b)
