-- A reader that is asked again and again: what it answers and where it then stands, and what document 01 wants of that.
use Rattle.std.specs.Prelude.{ℕ, zero, suc, ◌+◌, ◌≡◌, ◌&&◌, cond, List, [], ◌∷◌, ◌++◌, map, length, replicate}
use Rattle.refusals.specs.Refusals.{refused, given, Answer}
use Rattle.layouts.specs.Description.{inside}
use Rattle.observation.specs.Edition.{obs, fitting, first, is_obs}
use Rattle.observation.specs.Obs.{read_entry_of}
use Rattle.observation.specs.declared.entry.Observation.{Observation}
use Rattle.obs_reader.specs.Reader.{at_after, asked}
use Rattle.obs_reader.specs.declared.ObsReader.{ObsReader}

-- what n questions are answered, from i on
unfoldable pub answers : ℕ → ℕ → List ℕ → ℕ → List (Answer Observation)
answers zero kind s i = []
answers (suc n) kind s i = read_entry_of kind s i ∷ answers n kind s (at_after kind s i)

-- where the reader stands after n questions
unfoldable pub standing : ℕ → ℕ → List ℕ → ℕ → ℕ
standing zero kind s i = i
standing (suc n) kind s i = standing n kind s (at_after kind s i)

-- the reader itself after n questions
unfoldable pub asked_times : ℕ → ObsReader → ObsReader
asked_times zero r = r
asked_times (suc n) r = asked_times n (asked r)

-- n questions from i are answered so, and leave the reader at j
pub record Walk (n : ℕ) (kind : ℕ) (s : List ℕ) (i : ℕ) (handed : List (Answer Observation)) (j : ℕ) : Type 0 where
  pub answered : answers n kind s i ≡ handed
  pub stands : standing n kind s i ≡ j

-- from the first on a reader hands out these, in order and each once, and then 25 for good
abbrev pub HandsOut : ℕ → List ℕ → ℕ → List Observation → Type 0
HandsOut kind s more os = Walk (length os + more) kind s 0 (map given os ++ replicate more (refused 25)) (length os)

-- a payload's observations: none where its type is no observation's or its length is wrong
unfoldable pub observations_in : ℕ → List ℕ → List Observation
observations_in kind s = cond (is_obs kind && fitting first (length s)) (inside (obs first) s).observations []

-- what a reader answers when it has handed them out: 25; over a payload of a wrong length 22, of another type 21
unfoldable pub past_them : ℕ → List ℕ → Answer Observation
past_them kind s = cond (is_obs kind) (cond (fitting first (length s)) (refused 25) (refused 22)) (refused 21)
