-- A roster that grows in the bytes of a collator: `grow`, and then `enlist` and `feed` for each frame tell what the collator of
-- `enlisting` tells, and so what one tells that was made of the first eight senders.
use Rattle.std.specs.Prelude.{ℕ, ◌≤◌, ◌<◌, ◌≡◌, List, [], ◌∷◌, length}
use Rattle.frames.specs.Frame.{Content}
use Rattle.epochs.specs.Collator.{made}
use Rattle.epochs.specs.Epoch.{after, outcomes}
use Rattle.epochs.specs.Happened.{Happened}
use Rattle.enlisting.specs.FirstEight.{first_eight}
use Rattle.enlisting.specs.Enlisting.{enlisted_to, new_outcomes, new_after}
use Rattle.places.specs.State.{state_in}
use Rattle.states.specs.Feed.{FedIn, fed_in}
use Rattle.states.specs.Enlist.{growing_stored, enlist_stored}
use Rattle.told.specs.Told.{Sent, told}

-- the sender is enlisted, then the frame is fed
abbrev pub fed_new_in : List ℕ → Content → List ℕ → FedIn
fed_new_in s x report = fed_in (enlist_stored s x.kind x.sender) x report

-- frame by frame, what is told
unfoldable pub new_told : List ℕ → List ℕ → List Content → List Happened
new_told s report [] = []
new_told s report (x ∷ xs) = let out = fed_new_in s x report in told out ∷ new_told out.state out.report xs

-- and the state at the end
unfoldable pub new_after_in : List ℕ → List ℕ → List Content → List ℕ
new_after_in s report [] = s
new_after_in s report (x ∷ xs) = let out = fed_new_in s x report in new_after_in out.state out.report xs

pub record Grows : Type 0 where
  -- fresh bytes list nobody
  pub nobody : (s : List ℕ) → 113 ≤ length s → state_in (growing_stored s) ≡ (made []).collator
  -- bytes of any state enlist as the collator does that they stand for
  pub enlisted : (s : List ℕ) → 113 ≤ length s → (kind sender : ℕ) → sender < 65536
      → state_in (enlist_stored s kind sender) ≡ enlisted_to (state_in s) kind sender
  -- frame by frame the bytes of any state tell what that collator tells, and come to what it comes to
  pub each : (s report : List ℕ) (xs : List Content) → 113 ≤ length s → 11 ≤ length report → Sent xs
      → (new_told s report xs ≡ new_outcomes (state_in s) xs) × (state_in (new_after_in s report xs) ≡ new_after (state_in s) xs)
  -- so from fresh bytes on they tell what a collator tells that was made of the first eight senders
  pub first_eight_lem : (s report : List ℕ) (xs : List Content) → 113 ≤ length s → 11 ≤ length report → Sent xs
      → (new_told (growing_stored s) report xs ≡ outcomes (made (first_eight xs)).collator xs)
      × (state_in (new_after_in (growing_stored s) report xs) ≡ after (made (first_eight xs)).collator xs)
