-- A function of a call's inputs, and that every end of a call which meets the contract has its value: the result, and the last value of each
-- parameter that was lent to be changed. It is said of the contract as the function's own crate states it: its clauses, which every crate passes
-- on. So a promise about that function of the inputs is one about the call.
use Rattle.std.specs.Prelude.{ℕ, ◌≡◌, List, [], ◌∷◌}
use seplogic.Ra.Ura.{Ura}
use base.Logic.{ent}
use contract.Lifetimes.{Lfts}
use contract.Monad.{fact}
use denote.Exit.{Exit, unchanged, leaves, Last}
use denote.RattleType.{Denots}
use denote.Signature.{Slot, type_at, types_at}
use denote.Triple.Clauses.{Ended, Clauses, Lasts, at_exit}
use denote.Triple.End.{Kepts, Fins}
use denote.Triple.Entry.{Args, Res}

-- a call, and an end of it: the result, and a last value of each parameter that was lent to be changed
pub record End (T : Ended) : Type 0 where
  pub lives : Lfts T.signature.lifetimes
  pub inputs : Args T.signature lives
  pub result : Res T.signature lives
  pub last : Lasts T lives inputs

-- what is left of a parameter, if it was lent to be changed, before what is left of the others
abbrev pub LeftAt : {D : Type 0} (e : Exit D) (x : D) → Type 0 → Type 0
LeftAt unchanged x rest = rest
LeftAt (leaves L l S s r) x rest = L x × rest

abbrev pub IsLeftAt : {D : Type 0} (e : Exit D) (x : D) → Last e x → (Rest : Type 0) → LeftAt e x Rest → (Rest → Type 0) → Type 0
IsLeftAt unchanged x w Rest v rest = rest v
IsLeftAt (leaves L l S s r) x w Rest v rest = (w ≡ v.0) × rest v.1

module _ {n : ℕ} (κs : Lfts n) where
  abbrev pub Left : (ss : List (Slot n)) (ks : Kepts ss) → Denots (types_at ss κs) → Type 0
  Left [] ks a = Unit {0}
  Left (s ∷ ss) ks a = LeftAt ((s.row κs).exit ks.0) a.0 (Left ss ks.1 a.1)

  abbrev pub IsLeft : (ss : List (Slot n)) (ks : Kepts ss) (a : Denots (types_at ss κs)) → Fins κs ss ks a → Left ss ks a → Type 0
  IsLeft [] ks a w v = Unit {0}
  IsLeft (s ∷ ss) ks a w v = IsLeftAt ((s.row κs).exit ks.0) a.0 w.0 (Left ss ks.1 a.1) v (IsLeft ss ks.1 a.1 w.1)

  -- a function of the parameters one after the other, and its value at them
  abbrev pub Of : (ss : List (Slot n)) → (Denots (types_at ss κs) → Type 0) → Type 0
  Of [] R = R tt
  Of (s ∷ ss) R = (x : (type_at s κs).Denot) → Of ss (λ a. R (x, a))

  abbrev pub at : (ss : List (Slot n)) (R : Denots (types_at ss κs) → Type 0) → Of ss R → (a : Denots (types_at ss κs)) → R a
  at [] R f a = f
  at (s ∷ ss) R f a = at ss (λ b. R (a.0, b)) (f a.0) a.1

-- the clauses c of a function, at a model of the logic; what is looked at of its result
module _ {M : Type 1} (𝓤 : Ura M) (T : Ended) (c : Clauses 𝓤 T) where
  module _ (Shown : Lfts T.signature.lifetimes → Type 0) (shown : (κs : Lfts T.signature.lifetimes) → Res T.signature κs → Shown κs) where
    -- the result and what is left
    abbrev pub Value : (κs : Lfts T.signature.lifetimes) → Args T.signature κs → Type 0
    Value κs a = Shown κs × Left κs T.signature.params T.kept a

    pub record GivesAs (value : (κs : Lfts T.signature.lifetimes) → Of κs T.signature.params (Value κs)) : Type 1 where
      pub at_every_end : (k : End T) (g : (c k.lives k.inputs).ghost)
          → let v = at k.lives T.signature.params (Value k.lives) (value k.lives) k.inputs in
          ent 𝓤 ((c k.lives k.inputs).ensures g k.result (at_exit T k.lives k.inputs k.last))
          (fact 𝓤 ((shown k.lives k.result ≡ v.0) × IsLeft k.lives T.signature.params T.kept k.inputs k.last v.1))

  -- the result itself
  abbrev pub Gives : ((κs : Lfts T.signature.lifetimes) → Of κs T.signature.params (Value (λ κ. Res T.signature κ) (λ κ r. r) κs)) → Type 1
  Gives = GivesAs (λ κs. Res T.signature κs) (λ κs r. r)
