-- What only private contracts cite: what is tested of the numbers alone, and a payload's bytes sent.
use Rattle.std.specs.Prelude.{◌&&◌, List, [], ◌∷◌, ℕ, ◌+◌, ◌%◌, eqb, leb, length}
use Rattle.refusals.specs.Refusals.{Answer, Tests, ordered}
use Rattle.formats.specs.Wide.{fits_row, fits_rows, number_count}
use Rattle.formats.specs.Digits.{front_of}
use Rattle.frame_writer.specs.Writer.{writing_frame}
use Rattle.observation.specs.Edition.{head, observation, first, is_obs}
use Rattle.payloads.specs.Payloads.{layout_for, known_for, answer_for}
use Rattle.row_writer.specs.WriteRow.{alone}
use Rattle.row_writer.specs.WriteObsRow.{rows_in}

-- 21, 22, and 23 for a number that its field cannot hold
abbrev pub testing_row : ℕ → List ℕ → Tests
testing_row kind ns =
    let l = layout_for kind in
    (known_for kind && alone l, 21) ∷ (eqb (length ns) (number_count l), 22) ∷ (fits_row (front_of l) ns 0, 23) ∷ []

-- the same of OBS, and 31 for too many observations
abbrev pub testing_obs_row : ℕ → List ℕ → List ℕ → Tests
testing_obs_row kind hs ns =
    let k = rows_in (length ns) in
    (is_obs kind, 21) ∷
    (eqb (length hs) (length head.fields) && eqb (length ns % length observation.fields) 0, 22) ∷
    (fits_row head.fields hs 0 && fits_rows observation.fields k ns 0, 23) ∷
    (leb k first.most, 31) ∷
    []

-- a payload sent: 23 where its type does not take it, then as every frame
abbrev pub sending : ℕ → List ℕ → ℕ → Tests
sending kind s room = (eqb (answer_for kind s) 0, 23) ∷ writing_frame (length s) room

unfoldable pub sent : ℕ → List ℕ → ℕ → Answer ℕ
sent kind s room = ordered (sending kind s room) (length s + 8)
