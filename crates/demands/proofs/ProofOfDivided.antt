-- The CRC is what bytes leave, and calls answer it.
use mathlib.Core.Path.{refl}
use seplogic.Ra.Ura.{Ura}
use base.Logic.{SProp}
use prog.Memory.{Memory}
use prog.Routine.{Routine}
use types.Logic.{Logic}
use contract.Monad.{Fun}
use Rattle.crc.proofs.Remainders as remainders
use Rattle.crc.proofs.Calls.{sums_leave, calls_leave}
use Rattle.demands.specs.Divided.{Divided}

pub divided : {M : Type 1} {𝓤 : Ura M} (𝓛 : Logic 𝓤) (mem : Memory → SProp 𝓤) (run : Routine → Fun 𝓤) → Divided 𝓛 mem run
divided {𝓤 = 𝓤} 𝓛 mem run = record { polynomial = λ q. refl; is_remainder = remainders.is_remainder; crc_calls = calls_leave 𝓛 mem run; sbp_crc_calls = sums_leave 𝓤 }
