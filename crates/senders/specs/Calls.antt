-- A writer, and a frame's number by it, said of calls, as their contracts have them: so what Carries.antt says of a writer and its number is said of
-- a writer that was made, or was named a sender, and of what the function that decides answers.
use Rattle.std.specs.Prelude.{ℕ, ◌≡◌, None, Some}
use seplogic.Ra.Ura.{Ura}
use base.Logic.{SProp, ent}
use contract.Monad.{fact}
use Rattle.senders.specs.Senders.{carried, writer_from}
use Rattle.senders.specs.declared.Writer.{Writer}

-- at a model of the logic, with what the contracts ensure of calls; the answer comes last
module _ {M : Type 1} (𝓤 : Ura M) (made : ℕ → Writer → SProp 𝓤) (named : Writer → ℕ → Writer → SProp 𝓤) (linked : ℕ → ℕ → Writer → SProp 𝓤) (number : ℕ → Writer → ℕ → SProp 𝓤) where
  pub record CallsCarry : Type 1 where
    pub made_with : (own : ℕ) (w : Writer) → ent 𝓤 (made own w) (fact 𝓤 (w ≡ record { own = own; sender = None }))
    pub named_as : (v : Writer) (sender : ℕ) (w : Writer) → ent 𝓤 (named v sender w) (fact 𝓤 (w ≡ record { own = v.own; sender = Some sender }))
    pub linked_as : (own sender : ℕ) (w : Writer) → ent 𝓤 (linked own sender w) (fact 𝓤 (w ≡ writer_from own sender))
    pub numbered : (kind : ℕ) (w : Writer) (n : ℕ) → ent 𝓤 (number kind w n) (fact 𝓤 (n ≡ carried kind w))
