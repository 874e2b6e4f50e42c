-- Document 02, P3: the CRC goes on from a given value, "for empty parts too", and a frame's may be taken of a header and a payload in two buffers.
use seplogic.Ra.Ura.{Ura}
use base.Logic.{SProp}
use prog.Memory.{Memory}
use prog.Routine.{Routine}
use types.Logic.{Logic}
use contract.Monad.{Fun}
use Rattle.crc.specs.Parts.{GoesOn}
use Rattle.crc.specs.Calls.{Call, CallsGoOn}
use Rattle.crc.specs.contracts as crc
use Rattle.frames.specs.Apart.{SameApart}
use Rattle.exports.specs.contracts as exports

-- at every model of the logic, as every contract is stated
module _ {M : Type 1} {𝓤 : Ura M} (𝓛 : Logic 𝓤) (mem : Memory → SProp 𝓤) (run : Routine → Fun 𝓤) where
  pub record InParts : Type 2 where
    -- "the CRC of two parts joined equals the CRC of the second begun at the CRC of the first", and so for any number of parts, from any start
    pub goes_on : GoesOn
    -- so calls go on, of `crc` and of what C and Rust link, by what their own contracts ensure
    pub crc_calls : CallsGoOn 𝓤 (λ (k : Call). (crc.crc.clauses 𝓛 mem run k.lives (k.start, (k.bytes, tt))).ensures tt k.answer (k.start, (k.bytes, tt)))
    pub sbp_crc_calls : CallsGoOn 𝓤 (λ (k : Call). (exports.sbp_crc.clauses 𝓛 mem run k.lives (k.start, (k.bytes, tt))).ensures tt k.answer (k.start, (k.bytes, tt)))
    -- "The new radio delivers header and payload in two buffers": the CRC by which a frame is found, and with which it is written
    pub apart : SameApart
