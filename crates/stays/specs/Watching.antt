-- Calls of `next` while a capture grows, as the contract of `next` has them: what was on the screen is what calls that start over on the capture,
-- as it is now, show first; and going on answers what starting over comes to.
use Rattle.std.specs.Prelude.{ℕ, ◌^◌, ◌<◌, ◌≡◌, true, List, [], ◌∷◌, ◌++◌, map, length}
use seplogic.Ra.Ura.{Ura}
use base.Logic.{SProp, ent}
use contract.Lifetimes.{Lfts}
use contract.Monad.{fact}
use Rattle.std.specs.Borrow.{Bor}
use Rattle.frames.specs.Step.{payload_in}
use Rattle.frames.specs.Cursors.{begun, after}
use Rattle.stays.specs.Stays.{Leads}
use Rattle.frames.specs.declared.step.Frame.{Frame}
use Rattle.frames.specs.declared.cursor.Cursor.{Cursor}
use Rattle.frames.specs.declared.cursor.Next as Next

-- a call: the cursor handed in, the capture that it was lent and for how long, what it answered
pub record Call : Type 0 where
  pub lives : Lfts 1
  pub cursor : Cursor
  pub capture : Bor (List ℕ)
  pub answer : Next.Next

abbrev pub answers : List Call → List Next.Next
answers = map (λ (k : Call). k.answer)

-- a frame on the screen, with its payload in the capture as that was then
pub record Shown : Type 0 where
  pub frame : Frame
  pub payload : List ℕ

abbrev pub shown : List ℕ → Frame → Shown
shown s f = record { frame = f; payload = payload_in s f }

abbrev pub shown_by : List ℕ → Next.Next → List Shown
shown_by s (Next.TheVariants.Frame f c) = shown s f ∷ []
shown_by s (Next.TheVariants.End c) = []
shown_by s (Next.TheVariants.Needs n c) = []

-- what calls have brought onto it
abbrev pub screen : List Call → List Shown
screen [] = []
screen (k ∷ ks) = shown_by k.capture.now k.answer ++ screen ks

-- at a model of the logic, with what the function's contract ensures of a call
module _ {M : Type 1} (𝓤 : Ura M) (ensured : Call → SProp 𝓤) where
  -- calls one after the other: the first with the cursor c, each other with the one that the call before handed back, which is d at the last; each
  -- lent a capture of which Lent holds and, where P holds, ended as the contract says
  abbrev pub Calls : SProp 𝓤 → (List ℕ → Type 0) → Cursor → List Call → Cursor → Type 1
  Calls P Lent c [] d = (c ≡ d) × Unit {1}
  Calls P Lent c (k ∷ ks) d = (k.cursor ≡ c) × Lent k.capture.now × ent 𝓤 P (ensured k) × Calls P Lent (after k.answer) ks d

  module _ (P : SProp 𝓤) (t : List ℕ) where
    -- made while t grew: each on as much of it as there was
    abbrev pub Watched : Cursor → List Call → Cursor → Type 1
    Watched = Calls P (λ s. Leads s t)

    -- made on t
    abbrev pub On : Cursor → List Call → Cursor → Type 1
    On = Calls P (λ s. s ≡ t)

  pub record CallsStay : Type 2 where
    -- as many calls that start over show the same frames with the same payloads, in the same order
    pub screen_stays : (P : SProp 𝓤) (t : List ℕ) → length t < 2 ^ 64 → (early over : List Call) (c d : Cursor)
        → Watched P t (begun true) early c → On P t (begun true) over d → length over ≡ length (screen early)
        → ent 𝓤 P (fact 𝓤 (screen over ≡ screen early))
    -- and calls that go on with the cursor that was handed back answer what as many more of those answer
    pub goes_on : (P : SProp 𝓤) (t : List ℕ) → length t < 2 ^ 64 → (early over : List Call) (c d : Cursor)
        → Watched P t (begun true) early c → On P t (begun true) over d → length over ≡ length (screen early)
        → (on more : List Call) (e f : Cursor) → On P t c on e → On P t d more f → length on ≡ length more
        → ent 𝓤 P (fact 𝓤 (answers on ≡ answers more))
