-- A collator that takes senders on as their frames come: as a sender joins the roster it gets the first free seat, before its frame is fed.
-- From nobody on it comes to the same as a collator of the first eight senders, made beforehand.
use Rattle.std.specs.Prelude.{ℕ, ◌+◌, ◌≡◌, cond, not, ◌&&◌, List, [], ◌∷◌, ltb, set, take, Option, Some, None}
use Rattle.frames.specs.Frame.{Content}
use Rattle.observation.specs.Edition.{is_obs}
use Rattle.epochs.specs.Search.{names}
use Rattle.epochs.specs.Collator.{fed_frame, made}
use Rattle.epochs.specs.Epoch.{after, outcomes}
use Rattle.epochs.specs.declared.collating.Collator.{Collator}
use Rattle.epochs.specs.Fed.{Fed}
use Rattle.epochs.specs.Happened.{Happened}
use Rattle.enlisting.specs.FirstEight.{first_eight}

-- the seat that a sender takes: the next one, where it has none yet and there is room
abbrev pub new_seat : List ℕ → ℕ → ℕ → Option ℕ
new_seat roster count sender = cond (not (names (take count roster) sender) && ltb count 8) (Some count) None

-- a sender in its new seat, if it takes one
abbrev pub seated_in : Option ℕ → Collator → ℕ → Collator
seated_in None c sender = c
seated_in (Some i) c sender = record { places = c.places; roster = set c.roster i sender; count = i + 1 }

abbrev pub joined_to : Collator → ℕ → Collator
joined_to c sender = seated_in (new_seat c.roster c.count sender) c sender

-- the sender of a frame of type OBS
unfoldable pub enlisted_to : Collator → ℕ → ℕ → Collator
unfolding is_obs
enlisted_to c kind sender = cond (is_obs kind) (joined_to c sender) c

-- ---- frames whose senders are enlisted as they come

abbrev pub fed_new : Collator → Content → Fed
fed_new c x = fed_frame (enlisted_to c x.kind x.sender) x

unfoldable pub new_outcomes : Collator → List Content → List Happened
unfolding enlisted_to
new_outcomes c [] = []
new_outcomes c (x ∷ xs) = (fed_new c x).happened ∷ new_outcomes (fed_new c x).collator xs

unfoldable pub new_after : Collator → List Content → Collator
unfolding enlisted_to
new_after c [] = c
new_after c (x ∷ xs) = new_after (fed_new c x).collator xs

-- a collator of nobody (what an empty roster makes) that enlists, and one made of the first eight: what each frame comes to, and the end
pub record AsOfTheFirst (xs : List Content) : Type 0 where
  pub each : new_outcomes (made []).collator xs ≡ outcomes (made (first_eight xs)).collator xs
  pub end : new_after (made []).collator xs ≡ after (made (first_eight xs)).collator xs
