-- Calls make writers and decide numbers as their contracts have it.
use seplogic.Ra.Ura.{Ura}
use base.Logic.{SProp, id⊢}
use prog.Memory.{Memory}
use prog.Routine.{Routine}
use types.Logic.{Logic}
use contract.Monad.{Fun}
use Rattle.senders.specs.Calls.{CallsCarry}
use Rattle.senders.specs.contracts.Writer.made as made
use Rattle.senders.specs.contracts.Writer.named as named
use Rattle.senders.specs.contracts.writer_from as writer_from
use Rattle.senders.specs.contracts.sender_number as sender_number

module _ {M : Type 1} {𝓤 : Ura M} (𝓛 : Logic 𝓤) (mem : Memory → SProp 𝓤) (run : Routine → Fun 𝓤) where
  pub calls_carry : CallsCarry 𝓤
      (λ own w. (made.clauses 𝓛 mem run tt (own, tt)).ensures tt w (own, tt))
      (λ v sender w. (named.clauses 𝓛 mem run tt (v, (sender, tt))).ensures tt w (v, (sender, tt)))
      (λ own sender w. (writer_from.clauses 𝓛 mem run tt (own, (sender, tt))).ensures tt w (own, (sender, tt)))
      (λ kind w n. (sender_number.clauses 𝓛 mem run tt (kind, (w, tt))).ensures tt n (kind, (w, tt)))
  calls_carry = record {
    made_with = λ own w. id⊢ 𝓤 _;
    named_as = λ v sender w. id⊢ 𝓤 _;
    linked_as = λ own sender w. id⊢ 𝓤 _;
    numbered = λ kind w n. id⊢ 𝓤 _;
  }
