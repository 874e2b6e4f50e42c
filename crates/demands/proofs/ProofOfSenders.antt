-- Who sends, by citations.
use seplogic.Ra.Ura.{Ura}
use base.Logic.{SProp}
use prog.Memory.{Memory}
use prog.Routine.{Routine}
use types.Logic.{Logic}
use contract.Monad.{Fun}
use Rattle.senders.proofs.Calls.{calls_carry}
use Rattle.demands.specs.WhoSends.{WhoSends}

pub who_sends : {M : Type 1} {𝓤 : Ura M} (𝓛 : Logic 𝓤) (mem : Memory → SProp 𝓤) (run : Routine → Fun 𝓤) → WhoSends 𝓛 mem run
who_sends 𝓛 mem run = record { calls = calls_carry 𝓛 mem run }
