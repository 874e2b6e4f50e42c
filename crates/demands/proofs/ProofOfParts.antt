-- The CRC goes on, by citations.
use seplogic.Ra.Ura.{Ura}
use base.Logic.{SProp}
use prog.Memory.{Memory}
use prog.Routine.{Routine}
use types.Logic.{Logic}
use contract.Monad.{Fun}
use Rattle.crc.proofs.Joined.{goes_on}
use Rattle.crc.proofs.Calls.{sums_go_on, calls_go_on}
use Rattle.frames.proofs.SumsApart.{same_apart}
use Rattle.demands.specs.InParts.{InParts}

pub in_parts : {M : Type 1} {𝓤 : Ura M} (𝓛 : Logic 𝓤) (mem : Memory → SProp 𝓤) (run : Routine → Fun 𝓤) → InParts 𝓛 mem run
in_parts {𝓤 = 𝓤} 𝓛 mem run = record { goes_on = goes_on; crc_calls = calls_go_on 𝓛 mem run; sbp_crc_calls = sums_go_on 𝓤; apart = same_apart }
