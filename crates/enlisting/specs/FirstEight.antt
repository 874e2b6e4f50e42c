-- Whose epochs a listing shows, in document 01's words: the first eight different senders of frames of type OBS, malformed ones too, in order of
-- appearance. Nothing here looks at a collator.
use Rattle.std.specs.Prelude.{ℕ, cond, List, [], ◌∷◌, ◌++◌, take}
use Rattle.frames.specs.Frame.{Content}
use Rattle.observation.specs.Edition.{is_obs}
use Rattle.epochs.specs.Search.{names}
use Rattle.epochs.specs.Epoch.{contents_of}

-- the senders of frames of type OBS, as they come
unfoldable pub obs_senders : List Content → List ℕ
unfolding is_obs
obs_senders [] = []
obs_senders (x ∷ xs) = cond (is_obs x.kind) (x.sender ∷ obs_senders xs) (obs_senders xs)

-- those that are different from all before them, in order of appearance
unfoldable pub different : List ℕ → List ℕ → List ℕ
unfolding names
different before [] = []
different before (x ∷ xs) = cond (names before x) (different before xs) (x ∷ different (before ++ x ∷ []) xs)

abbrev pub first_eight : List Content → List ℕ
first_eight xs = take 8 (different [] (obs_senders xs))

-- those of a capture
abbrev pub obs_senders_in : List ℕ → List ℕ
obs_senders_in s = obs_senders (contents_of s)

abbrev pub roster_in : List ℕ → List ℕ
roster_in s = first_eight (contents_of s)
