-- What has been handed out stays, by citations.
use seplogic.Ra.Ura.{Ura}
use base.Logic.{SProp}
use prog.Memory.{Memory}
use prog.Routine.{Routine}
use types.Logic.{Logic}
use contract.Monad.{Fun}
use Rattle.stays.proofs.Staying.{stays}
use Rattle.stays.proofs.WatchedCalls.{calls_stay}
use Rattle.demands.specs.Stays.{HandedOutStays}
use Rattle.demands.proofs.RowsGoOn.{rows_stay}
use Rattle.demands.proofs.RowCalls.{row_calls_stay}
use Rattle.demands.proofs.ShortAtTheEnd.{swallowed}

pub handed_out_stays : {M : Type 1} {𝓤 : Ura M} (𝓛 : Logic 𝓤) (mem : Memory → SProp 𝓤) (run : Routine → Fun 𝓤) → HandedOutStays 𝓛 mem run
handed_out_stays 𝓛 mem run = record { stays = stays; next_calls = calls_stay 𝓛 mem run; rows = rows_stay; sbp_next_calls = row_calls_stay 𝓛 mem run; not_closed = swallowed }
