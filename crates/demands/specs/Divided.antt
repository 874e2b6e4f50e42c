-- Document 01, "A frame": the CRC is that of x^16 + x^12 + x^5 + 1, highest bit first, start 0, no final change. What that is, whatever a
-- definition of it looks like: what the bytes leave when they are divided by it.
use Rattle.std.specs.Prelude.{ℕ, ◌*◌, ◌≡◌}
use seplogic.Ra.Ura.{Ura}
use base.Logic.{SProp}
use prog.Memory.{Memory}
use prog.Routine.{Routine}
use types.Logic.{Logic}
use contract.Monad.{Fun}
use Rattle.std.specs.Int.Bits.{bit_xor}
use Rattle.crc.specs.Remainder.{times, IsRemainder}
use Rattle.crc.specs.Calls.{Call, CallsLeave}
use Rattle.crc.specs.contracts as crc
use Rattle.exports.specs.contracts as exports

-- at every model of the logic, as every contract is stated
module _ {M : Type 1} {𝓤 : Ura M} (𝓛 : Logic 𝓤) (mem : Memory → SProp 𝓤) (run : Routine → Fun 𝓤) where
  pub record Divided : Type 2 where
    -- the polynomial in numbers
    pub polynomial : (q : ℕ) → times q ≡ bit_xor (q * 65536) (bit_xor (q * 4096) (bit_xor (q * 32) q))
    pub is_remainder : IsRemainder
    -- so calls answer it, of `crc` and of what C and Rust link, by what their own contracts ensure
    pub crc_calls : CallsLeave 𝓤 (λ (k : Call). (crc.crc.clauses 𝓛 mem run k.lives (k.start, (k.bytes, tt))).ensures tt k.answer (k.start, (k.bytes, tt)))
    pub sbp_crc_calls : CallsLeave 𝓤 (λ (k : Call). (exports.sbp_crc.clauses 𝓛 mem run k.lives (k.start, (k.bytes, tt))).ensures tt k.answer (k.start, (k.bytes, tt)))
