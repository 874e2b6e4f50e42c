-- Document 02, P5: "The first frame of a type and sender at or after an offset is found from the entries, as last left, by going forward to the first
-- hit, and equals the answer of a full reading; "none" is given exactly when none exists among the frames read so far. A type's count comes from the
-- kept total; for a type without a reading it is answered 21."
use Rattle.std.specs.Prelude.{ℕ, ◌≤◌, ◌<◌, ◌≡◌, List, [], ◌∷◌, ◌++◌, ◌↔◌, ◌⊎◌, length, take}
use seplogic.Ra.Ura.{Ura}
use base.Logic.{SProp, ent}
use contract.Monad.{fact}
use Rattle.frames.specs.declared.step.Frame.{Frame}
use Rattle.index.specs.declared.entry.Entry.{Entry}
use Rattle.index.specs.declared.index.Index.{Index}
use Rattle.indexed.specs.Growing.{IndexOf, open_frames, number, counted_kinds}

-- a frame that is asked for
abbrev pub Such : ℕ → ℕ → ℕ → Frame → Type 0
Such kind sender offset f = (f.kind ≡ kind) × (f.sender ≡ sender) × (offset ≤ f.at)

abbrev pub NoneOf : (Frame → Type 0) → List Frame → Type 0
NoneOf P [] = Unit {0}
NoneOf P (f ∷ fs) = (P f → ⊥) × NoneOf P fs

-- f is the first of fs that is such, and i stand before it
pub record FirstOf (P : Frame → Type 0) (fs : List Frame) (i : ℕ) (f : Frame) : Type 0 where
  pub before : List Frame
  pub after : List Frame
  pub all : fs ≡ before ++ f ∷ after
  pub place : length before ≡ i
  pub such : P f
  pub none_before : NoneOf P before

-- ---- asking for a frame

-- what a call came to: the index and the list that it was lent, what it asked for; its number, 0 for found and 1 for none; the place that it was
-- lent, and as it left it
pub record Asked : Type 0 where
  pub room : ℕ
  pub index : Index
  pub list : List Entry
  pub kind : ℕ
  pub sender : ℕ
  pub offset : ℕ
  pub number : ℕ
  pub before : ℕ
  pub place : ℕ

-- at a model of the logic, over calls of one function: what each came to, and what the function's contract ensures of it
module _ {M : Type 1} (𝓤 : Ura M) {K : Type 0} (came : K → Asked) (ensured : K → SProp 𝓤) where
  -- asked of the index of t, with the entries as last left
  pub record Of (P : SProp 𝓤) (t : List ℕ) (k : K) : Type 1 where
    pub es : List Entry
    pub index_of : IndexOf t (came k).index es
    pub as_left : take (came k).index.held (came k).list ≡ es
    pub ended : ent 𝓤 P (ensured k)

  abbrev pub Wanted : K → Frame → Type 0
  Wanted k = Such (came k).kind (came k).sender (came k).offset

  pub record CallsFind : Type 2 where
    -- what is found is the first such frame of the full open reading, at its place in the list
    pub found : (P : SProp 𝓤) (t : List ℕ) (k : K) → Of P t k → (came k).number ≡ 0
        → ent 𝓤 P (fact 𝓤 ((f : Frame) × FirstOf (Wanted k) (open_frames t) (came k).place f))
    -- none exactly when none of the frames read so far is such
    pub none : (P : SProp 𝓤) (t : List ℕ) (k : K) → Of P t k → ((came k).number ≡ 0) ⊎ ((came k).number ≡ 1)
        → ent 𝓤 P (fact 𝓤 (((came k).number ≡ 1) ↔ NoneOf (Wanted k) (open_frames t)))
    -- it is one of the two, unless the list is shorter than the frames held or the index has too few bytes
    pub refused : (P : SProp 𝓤) (k : K) → ent 𝓤 P (ensured k) → ((came k).number ≡ 0 → ⊥) → ((came k).number ≡ 1 → ⊥)
        → ent 𝓤 P (fact 𝓤 ((((came k).number ≡ 51) × (length (came k).list < (came k).index.held)) ⊎ (((came k).number ≡ 32) × ((came k).room < 208))))
    -- the place is written only where a frame is found
    pub kept : (P : SProp 𝓤) (k : K) → ent 𝓤 P (ensured k) → ((came k).number ≡ 0 → ⊥) → ent 𝓤 P (fact 𝓤 ((came k).place ≡ (came k).before))

-- ---- asking for a count

pub record Tallied : Type 0 where
  pub room : ℕ
  pub index : Index
  pub kind : ℕ
  pub number : ℕ
  pub count : ℕ

-- one of the types that are counted
abbrev pub Among : ℕ → List ℕ → Type 0
Among kind [] = ⊥
Among kind (k ∷ ks) = (kind ≡ k) ⊎ Among kind ks

module _ {M : Type 1} (𝓤 : Ura M) {K : Type 0} (came : K → Tallied) (ensured : K → SProp 𝓤) where
  pub record CallsCount : Type 2 where
    -- the number of frames of that type among those read
    pub counted : (P : SProp 𝓤) (t : List ℕ) (es : List Entry) (k : K) → IndexOf t (came k).index es → ent 𝓤 P (ensured k) → (came k).number ≡ 0
        → ent 𝓤 P (fact 𝓤 ((came k).count ≡ number (came k).kind (open_frames t)))
    -- 21 exactly for a type without a reading, unless the index has too few bytes
    pub unknown : (P : SProp 𝓤) (k : K) → ent 𝓤 P (ensured k)
        → ent 𝓤 P (fact 𝓤 ((((came k).number ≡ 0) × Among (came k).kind counted_kinds) ⊎ ((((came k).number ≡ 21) × (Among (came k).kind counted_kinds → ⊥)) ⊎ (((came k).number ≡ 32) × ((came k).room < 208)))))
