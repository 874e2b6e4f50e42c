-- "For each public function the contract determines the result and the later contents of lent buffers on all inputs .. that any two results it
-- admits are equal is proved" (document 01, "What a contract here has to say"). It is said of the contract as the function's own crate states it:
-- its clauses, which every crate passes on.
use Rattle.std.specs.Prelude.{◌≡◌, List, [], ◌∷◌, ℕ}
use seplogic.Ra.Ura.{Ura}
use base.Logic.{ent, emp}
use contract.Lifetimes.{Lfts}
use contract.Monad.{fact, conj}
use denote.Exit.{Exit, unchanged, leaves, Last}
use denote.RattleType.{Denots}
use denote.Signature.{Slot, types_at}
use denote.Triple.Clauses.{Ended, Clauses, Lasts, at_exit}
use denote.Triple.End.{Kepts, Fins}
use denote.Triple.Entry.{Args, Res}

-- a call, and two ends of it: each a result, and a last value of each parameter that was lent to be changed
pub record Ends (T : Ended) : Type 0 where
  pub lives : Lfts T.signature.lifetimes
  pub inputs : Args T.signature lives
  pub one : Res T.signature lives
  pub other : Res T.signature lives
  pub one_last : Lasts T lives inputs
  pub other_last : Lasts T lives inputs

-- the last value of each parameter that has one is the same
abbrev pub SameAt : {D : Type 0} (e : Exit D) (x : D) → Last e x → Last e x → Type 0 → Type 0
SameAt unchanged x v w rest = rest
SameAt (leaves L l S s r) x v w rest = (v ≡ w) × rest

abbrev pub SameLast : {n : ℕ} (κs : Lfts n) (ss : List (Slot n)) (ks : Kepts ss) (a : Denots (types_at ss κs)) → Fins κs ss ks a → Fins κs ss ks a → Type 0
SameLast κs [] ks a v w = Unit {0}
SameLast κs (s ∷ ss) ks a v w = SameAt ((s.row κs).exit ks.0) a.0 v.0 w.0 (SameLast κs ss ks.1 a.1 v.1 w.1)

-- the clauses c of a function, at a model of the logic; what is looked at of its result
module _ {M : Type 1} (𝓤 : Ura M) (T : Ended) (c : Clauses 𝓤 T) where
  -- where its `ensures` holds of two ends of a call, they are one
  abbrev pub OneEnd : (Shown : Lfts T.signature.lifetimes → Type 0) → ((κs : Lfts T.signature.lifetimes) → Res T.signature κs → Shown κs) → Type 1
  OneEnd Shown shown =
      (k : Ends T) (g : (c k.lives k.inputs).ghost)
      → ent 𝓤
      (conj 𝓤
      ((c k.lives k.inputs).ensures g k.one (at_exit T k.lives k.inputs k.one_last))
      ((c k.lives k.inputs).ensures g k.other (at_exit T k.lives k.inputs k.other_last)))
      (fact 𝓤 ((shown k.lives k.one ≡ shown k.lives k.other) × SameLast k.lives T.signature.params T.kept k.inputs k.one_last k.other_last))

  pub record DeterminedAs (Shown : Lfts T.signature.lifetimes → Type 0) (shown : (κs : Lfts T.signature.lifetimes) → Res T.signature κs → Shown κs) : Type 1 where
    -- it has no `requires`, and takes no ghost that a caller would have to find
    pub asks_nothing : (κs : Lfts T.signature.lifetimes) (a : Args T.signature κs) → (c κs a).ghost × ((g : (c κs a).ghost) → ent 𝓤 (emp 𝓤) ((c κs a).requires g))
    pub one_end : OneEnd Shown shown

  -- the result itself
  abbrev pub Determined : Type 1
  Determined = DeterminedAs (λ κs. Res T.signature κs) (λ κs r. r)

  -- the same of a function of any types: all that it asks is that the lifetimes of a call lie within those of its types, as they do at every call
  pub record DeterminedWithin (Within : Lfts T.signature.lifetimes → Type 0) : Type 1 where
    pub asks_lifetimes : (κs : Lfts T.signature.lifetimes) (a : Args T.signature κs) → Within κs → (c κs a).ghost × ((g : (c κs a).ghost) → ent 𝓤 (emp 𝓤) ((c κs a).requires g))
    pub one_end : OneEnd (λ κs. Res T.signature κs) (λ κs r. r)
