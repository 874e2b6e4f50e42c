-- Document 02, P6: "A writer that is given no sender now uses the recorder's own number, set when the writer is made." Which number a frame carries by
-- its type and its writer, and that reading shows it, is in demand 2 (`senders`, `any_frame`, and `found` of every message), and that writing calls
-- write it in `typed_calls` and `linked_calls`. Here is what a writer is by the calls that make it, and that one function decides the number.
use seplogic.Ra.Ura.{Ura}
use base.Logic.{SProp}
use prog.Memory.{Memory}
use prog.Routine.{Routine}
use types.Logic.{Logic}
use contract.Monad.{Fun}
use Rattle.senders.specs.Calls.{CallsCarry}
use Rattle.senders.specs.contracts as senders

-- at every model of the logic, as every contract is stated
module _ {M : Type 1} {𝓤 : Ura M} (𝓛 : Logic 𝓤) (mem : Memory → SProp 𝓤) (run : Routine → Fun 𝓤) where
  pub record WhoSends : Type 1 where
    -- `made`, `named`, `writer_from` and `sender_number`, by what their own contracts ensure
    pub calls : CallsCarry 𝓤
        (λ own w. (senders.Writer.made.clauses 𝓛 mem run tt (own, tt)).ensures tt w (own, tt))
        (λ v sender w. (senders.Writer.named.clauses 𝓛 mem run tt (v, (sender, tt))).ensures tt w (v, (sender, tt)))
        (λ own sender w. (senders.writer_from.clauses 𝓛 mem run tt (own, (sender, tt))).ensures tt w (own, (sender, tt)))
        (λ kind w n. (senders.sender_number.clauses 𝓛 mem run tt (kind, (w, tt))).ensures tt n (kind, (w, tt)))
