-- OBS read: its header and how many observations follow, and one observation by its index. Each answer by its own tests in order, over the
-- edition.
use Rattle.std.specs.Prelude.{ℕ, List, [], ◌∷◌, ltb, length}
use Rattle.layouts.specs.Field.{decode}
use Rattle.refusals.specs.Refusals.{Answer, Call, reply}
use Rattle.observation.specs.Edition.{Edition, Observed, fitting, count_in, start_of, Head, first, is_obs}
use Rattle.observation.specs.declared.entry.Observation.{Observation}
use Rattle.observation.specs.declared.obs.Obs.{Obs}

module _ {H O : Type 0} (e : Edition H O) where
  -- ---- one observation

  -- the one that begins where observation i begins
  abbrev pub entry_at : List ℕ → ℕ → O
  entry_at s i = e.row.make (decode e.row.fields s (start_of e i))

  -- 22 for the payload's length, then 25 for an index at or past k
  abbrev pub one_observation : List ℕ → ℕ → Call O
  one_observation s i = record { tests = (fitting e (length s), 22) ∷ (ltb i (count_in e (length s)), 25) ∷ []; value = entry_at s i }

  unfoldable pub read_entry : List ℕ → ℕ → Answer O
  read_entry s i = reply (one_observation s i)

-- ---- the first edition, which the code reads

-- an observation of a frame's payload, whose type is looked at first: 21, 22, 25
abbrev pub one_of_frame : ℕ → List ℕ → ℕ → Call Observation
one_of_frame kind s i = record { tests = (is_obs kind, 21) ∷ (one_observation first s i).tests; value = entry_at first s i }

unfoldable pub read_entry_of : ℕ → List ℕ → ℕ → Answer Observation
read_entry_of kind s i = reply (one_of_frame kind s i)

-- of a whole OBS the code shows the header, and how many observations follow
abbrev pub shown : Observed Head Observation → Obs
shown r = record { tow = r.header.tow; wn = r.header.wn; n_obs = r.header.n_obs; count = length r.observations }

abbrev pub obs_in : List ℕ → Obs
obs_in s =
    let h = first.header.make (decode first.header.fields s 0) in
    record { tow = h.tow; wn = h.wn; n_obs = h.n_obs; count = count_in first (length s) }

-- 22 for its length
abbrev pub reading_obs : List ℕ → Call Obs
reading_obs s = record { tests = (fitting first (length s), 22) ∷ []; value = obs_in s }

unfoldable pub read_obs : List ℕ → Answer Obs
read_obs s = reply (reading_obs s)
