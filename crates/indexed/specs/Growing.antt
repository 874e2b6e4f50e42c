-- Document 02, P5: "When bytes are appended the index is extended from its reached position, and equals the index made afresh, given the same
-- earlier bytes and the entries as last left." Of the definitions, and of calls as a contract has them.
use Rattle.std.specs.Prelude.{ℕ, ◌+◌, ◌-◌, ◌^◌, ◌≤◌, ◌<◌, ◌≡◌, true, cond, List, [], ◌∷◌, ◌++◌, map, ◌⊎◌, eqb, length, take, drop}
use seplogic.Ra.Ura.{Ura}
use base.Logic.{SProp, ent}
use contract.Monad.{fact}
use Rattle.frames.specs.Reading.{steps, open_steps, frames_of, counts_of, sum_of}
use Rattle.frames.specs.declared.step.Frame.{Frame}
use Rattle.stays.specs.Stays.{Leads}
use Rattle.index.specs.Index.{empty, extended, entries_from}
use Rattle.index.specs.declared.entry.Entry.{Entry}
use Rattle.index.specs.declared.index.Index.{Index}

-- ---- the index of a capture, from its full open reading

-- the frames of the full open reading
abbrev pub open_frames : List ℕ → List Frame
open_frames s = frames_of (open_steps s)

-- how many of some frames are of a type
unfoldable pub number : ℕ → List Frame → ℕ
number kind [] = 0
number kind (f ∷ fs) = cond (eqb f.kind kind) 1 0 + number kind fs

-- the types that are counted, each at its place; 003's numbers, which no contract cites
abbrev pub counted_kinds : List ℕ
counted_kinds =
    0x0049 ∷ 0x0100 ∷ 0x0206 ∷ 0x0200 ∷ 0x0201 ∷ 0x0202 ∷ 0x0204 ∷ 0x0203 ∷ 0x0205 ∷ 0x0207 ∷ 0x0044 ∷ 0x0048
    ∷ 0x0081 ∷ 0x0082 ∷ 0x0083 ∷ 0x0090 ∷ 0x0091 ∷ 0x0092 ∷ 0x00a1 ∷ 0x00a6 ∷ 0x00a2 ∷ 0xff00 ∷ 0xffff ∷ 0x0401 ∷ []

-- a struct and the entries held that are the index of a capture: past every byte that the reading counts, an entry for each frame in order with its
-- position, type, sender and length, and of each type the number of its frames
pub record IndexOf (s : List ℕ) (x : Index) (es : List Entry) : Type 0 where
  pub reached : x.reached ≡ sum_of (counts_of (open_steps s))
  pub held : x.held ≡ length (open_frames s)
  pub entries : es ≡ map (λ (f : Frame). record { offset = f.at; kind = f.kind; sender = f.sender; length = f.length }) (open_frames s)
  pub counts : x.counts ≡ map (λ (kind : ℕ). number kind (open_frames s)) counted_kinds

pub record Grows : Type 0 where
  -- the definitions: from an empty index it is the index of the capture, and going on from a shorter capture comes to the same
  pub afresh : (t : List ℕ) → length t < 2 ^ 64 → IndexOf t (extended t empty) (entries_from t 0)
  pub on : (s t : List ℕ) → Leads s t → length t < 2 ^ 64 → extended t (extended s empty) ≡ extended t empty
  pub entries_on : (s t : List ℕ) → Leads s t → length t < 2 ^ 64 → entries_from s 0 ++ entries_from t (extended s empty).reached ≡ entries_from t 0

-- ---- the rest of a capture alone

-- positions less, and more, by b
abbrev pub lowered : ℕ → Index → Index
lowered b x = record { reached = x.reached - b; held = x.held; counts = x.counts }

abbrev pub raised : ℕ → Entry → Entry
raised b e = record { offset = b + e.offset; kind = e.kind; sender = e.sender; length = e.length }

-- whoever has dropped the first b bytes, which were read, may go on with the rest: all comes out the same, but for b in every position
pub record OfTheRest : Type 0 where
  pub index : (s : List ℕ) (b : ℕ) (x : Index) → b ≤ x.reached → extended (drop b s) (lowered b x) ≡ lowered b (extended s x)
  pub entries : (s : List ℕ) (b p : ℕ) → b ≤ p → map (raised b) (entries_from (drop b s) (p - b)) ≡ entries_from s p

-- ---- calls while a capture grows

-- what a call of extending came to: how many bytes its index has (a struct has the 208 that it takes), the index and the list that it was lent, the
-- capture, its answer, and the two as it left them
pub record Extension : Type 0 where
  pub room : ℕ
  pub index : Index
  pub capture : List ℕ
  pub list : List Entry
  pub answer : ℕ
  pub after : Index
  pub left : List Entry

-- why a call is refused by a number
abbrev pub Why : ℕ → Index → List ℕ → ℕ → ℕ → Type 0
Why room x s most n =
    ((n ≡ 32) × (room < 208)) ⊎ (((n ≡ 52) × (length s < x.reached)) ⊎ ((n ≡ 51) × (x.reached ≤ length s) × (most < x.held + length (frames_of (steps true s x.reached)))))

-- at a model of the logic, over calls of one function: what each came to, and what the function's contract ensures of it
module _ {M : Type 1} (𝓤 : Ura M) {K : Type 0} (came : K → Extension) (ensured : K → SProp 𝓤) where
  -- lent the index x with the entries es as last left, in a list of any length
  abbrev pub Lent : Index → List Entry → K → Type 0
  Lent x es k = ((came k).index ≡ x) × (take x.held (came k).list ≡ es)

  -- calls one after the other, from the index x with its entries es to y with fs: each on as much of t as there was, each lent what the call before
  -- left and, where P holds, ended as the contract says; refused ones among them
  abbrev pub Calls : SProp 𝓤 → List ℕ → Index → List Entry → List K → Index → List Entry → Type 1
  Calls P t x es [] y fs = (x ≡ y) × (es ≡ fs) × Unit {1}
  Calls P t x es (k ∷ ks) y fs =
      Lent x es k × Leads (came k).capture t × ent 𝓤 P (ensured k) × Calls P t (came k).after (take (came k).after.held (came k).left) ks y fs

  pub record CallsGrow : Type 2 where
    -- extended any number of times while the capture grew, and last on t: it is the index of t
    pub whole : (P : SProp 𝓤) (t : List ℕ) → length t < 2 ^ 64 → (ks : List K) (x : Index) (es : List Entry) → Calls P t empty [] ks x es
        → (k : K) → Lent x es k → (came k).capture ≡ t → ent 𝓤 P (ensured k) → (came k).answer ≡ 0
        → ent 𝓤 P (fact 𝓤 (IndexOf t (came k).after (take (came k).after.held (came k).left)))
    -- and so it equals the one made afresh, by one call on t
    pub afresh : (P : SProp 𝓤) (t : List ℕ) → length t < 2 ^ 64 → (ks : List K) (x : Index) (es : List Entry) → Calls P t empty [] ks x es
        → (k over : K) → Lent x es k → (came k).capture ≡ t → ent 𝓤 P (ensured k) → (came k).answer ≡ 0
        → Lent empty [] over → (came over).capture ≡ t → ent 𝓤 P (ensured over) → (came over).answer ≡ 0
        → ent 𝓤 P (fact 𝓤 (((came k).after ≡ (came over).after) × (take (came k).after.held (came k).left ≡ take (came over).after.held (came over).left)))
    -- the entries held before, and those past the ones held now, are as they were; with a refusal all of it is
    pub others : (P : SProp 𝓤) (k : K) → ent 𝓤 P (ensured k)
        → ent 𝓤 P (fact 𝓤 ((take (came k).index.held (came k).left ≡ take (came k).index.held (came k).list)
        × (drop (came k).after.held (came k).left ≡ drop (came k).after.held (came k).list)))
    pub refused : (P : SProp 𝓤) (k : K) → ent 𝓤 P (ensured k) → ((came k).answer ≡ 0 → ⊥) → ent 𝓤 P (fact 𝓤 (((came k).after ≡ (came k).index) × ((came k).left ≡ (came k).list)))
    -- and it is refused only where the index in bytes has no room, the capture is shorter than the position reached, or else the list is shorter than
    -- the frames it has to hold
    pub why : (P : SProp 𝓤) (k : K) → ent 𝓤 P (ensured k) → ((came k).answer ≡ 0 → ⊥) → ent 𝓤 P (fact 𝓤 (Why (came k).room (came k).index (came k).capture (length (came k).list) (came k).answer))
    -- of any index, also one that no call made or whose positions were lowered: it goes on as the definitions do, and the new entries stand after
    -- those held
    pub goes : (P : SProp 𝓤) (k : K) → ent 𝓤 P (ensured k) → (came k).answer ≡ 0
        → ent 𝓤 P (fact 𝓤 (((came k).after ≡ extended (came k).capture (came k).index)
        × (take (came k).after.held (came k).left ≡ take (came k).index.held (came k).list ++ entries_from (came k).capture (came k).index.reached)))
