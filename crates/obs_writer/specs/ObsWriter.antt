-- OBS written: a header and the first k of some observations, over the edition.
use Rattle.std.specs.Prelude.{ℕ, ◌+◌, List, ◌∷◌, leb, length, take}
use Rattle.layouts.specs.Layout.{encode_body}
use Rattle.refusals.specs.Refusals.{Answer, leaves, Call, reply}
use Rattle.senders.specs.declared.Writer.{Writer}
use Rattle.frame_writer.specs.Writer.{writing_frame, starting_with, framed_by}
use Rattle.observation.specs.Edition.{Edition, Observed, obs, start_of, Head}
use Rattle.observation.specs.declared.obs.Obs.{Obs}

module _ {H O : Type 0} (e : Edition H O) where
  -- 31 for more observations than the edition has, then 31 and 32 as every frame
  abbrev pub writing_obs : ℕ → ℕ → Call ℕ
  writing_obs k room = record { tests = (leb k e.most, 31) ∷ writing_frame (start_of e k) room; value = start_of e k + 8 }

  unfoldable pub obs_write_answer : ℕ → ℕ → Answer ℕ
  obs_write_answer k room = reply (writing_obs k room)

  -- what is written: the header, and the first k of the observations
  abbrev pub observed : H → ℕ → List O → Observed H O
  observed h k os = record { header = h; observations = take k os }

  -- the buffer after it: the frame and the bytes after it as they were, or all as it was
  unfoldable pub obs_written : Writer → H → ℕ → List O → List ℕ → List ℕ
  obs_written w h k os buf =
      leaves (starting_with (framed_by e.kind w (encode_body (obs e).layout ((obs e).row (observed h k os))))) (obs_write_answer k (length buf)) buf

-- the header that the code's summary has
abbrev pub head_of : Obs → Head
head_of o = record { tow = o.tow; wn = o.wn; n_obs = o.n_obs }
