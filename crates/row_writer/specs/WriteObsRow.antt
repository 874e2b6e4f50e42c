-- OBS written from rows of numbers: its header's, and eight for each observation.
use Rattle.std.specs.Prelude.{ℕ, ◌+◌, ◌/◌, ◌%◌, ◌&&◌, List, ◌∷◌, eqb, length}
use Rattle.refusals.specs.Refusals.{Answer, leaves, Call, reply}
use Rattle.layouts.specs.Description.{made_of}
use Rattle.layouts.specs.Layout.{encode_body}
use Rattle.formats.specs.Wide.{narrow_row, fits_row, narrow_rows, fits_rows}
use Rattle.senders.specs.declared.Writer.{Writer}
use Rattle.frame_writer.specs.Writer.{starting_with, framed_by}
use Rattle.observation.specs.Edition.{Observed, obs, start_of, Head, head, observation, first, is_obs}
use Rattle.obs_writer.specs.ObsWriter.{writing_obs}
use Rattle.observation.specs.declared.entry.Observation.{Observation}

-- how many observations so many numbers are
abbrev pub rows_in : ℕ → ℕ
rows_in n = n / length observation.fields

-- the message that the numbers stand for
abbrev pub observed_of : List ℕ → List ℕ → Observed Head Observation
observed_of hs ns =
    record {
      header = head.make (narrow_row head.fields hs 0);
      observations = made_of observation (narrow_rows observation.fields (rows_in (length ns)) ns 0);
    }

-- 21 for another type, 22 for another number of fields or a part of an observation, 23 for a number that its field cannot hold, then as every OBS
abbrev pub writing_obs_row : ℕ → List ℕ → List ℕ → ℕ → Call ℕ
writing_obs_row kind hs ns room =
    record {
      tests =
          (is_obs kind, 21) ∷
          (eqb (length hs) (length head.fields) && eqb (length ns % length observation.fields) 0, 22) ∷
          (fits_row head.fields hs 0 && fits_rows observation.fields (rows_in (length ns)) ns 0, 23) ∷
          (writing_obs first (rows_in (length ns)) room).tests;
      value = start_of first (rows_in (length ns)) + 8;
    }

unfoldable pub write_obs_row : ℕ → List ℕ → List ℕ → ℕ → Answer ℕ
write_obs_row kind hs ns room = reply (writing_obs_row kind hs ns room)

-- the buffer after it
unfoldable pub obs_row_written : ℕ → Writer → List ℕ → List ℕ → List ℕ → List ℕ
obs_row_written kind w hs ns buf =
    leaves (starting_with (framed_by kind w (encode_body (obs first).layout ((obs first).row (observed_of hs ns))))) (write_obs_row kind hs ns (length buf)) buf
