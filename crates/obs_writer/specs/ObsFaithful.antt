-- What is promised of OBS: it is faithful as every message is, and what the code reads and writes of it is that message.
use Rattle.std.specs.Prelude.{ℕ, ◌≤◌, ◌<◌, ◌≡◌, List, length, get_or}
use Rattle.wire.specs.Number.{Bytes}
use Rattle.layouts.specs.Layout.{HeldBody}
use Rattle.layouts.specs.Description.{inside}
use Rattle.refusals.specs.Refusals.{given}
use Rattle.senders.specs.Senders.{HeldWriter}
use Rattle.senders.specs.declared.Writer.{Writer}
use Rattle.frames.specs.Step.{step_at, payload_in}
use Rattle.frame_writer.specs.Writer.{with_frame}
use Rattle.frame_writer.specs.Faithful.{Faithful, frame_written}
use Rattle.frames.specs.declared.step.Frame.{Frame}
use Rattle.frames.specs.declared.step.Step.TheVariants.{Found}
use Rattle.observation.specs.Edition.{Observed, obs, Head, first}
use Rattle.observation.specs.Obs.{read_obs, read_entry}
use Rattle.obs_writer.specs.ObsWriter.{obs_write_answer, observed, obs_written, head_of}
use Rattle.observation.specs.declared.entry.Observation.{Observation}
use Rattle.observation.specs.declared.obs.Obs.{Obs}

-- what the code writes for a summary and some observations: the message, its frame, and the buffer after it
abbrev pub written : Obs → List Observation → Observed Head Observation
written o entries = observed first (head_of o) o.count entries

abbrev pub obs_frame : Writer → Obs → List Observation → Frame
obs_frame w o entries = frame_written (obs first) w (written o entries)

abbrev pub buffer_after : Writer → Obs → List Observation → List ℕ → List ℕ
buffer_after w o entries buf = obs_written first w (head_of o) o.count entries buf

pub record ObsFaithful : Type 0 where
  pub message : Faithful (obs first)
  -- written it is found as its frame, whose payload gives the header with the count back, and each observation, at any default
  pub found : (w : Writer) (o : Obs) (entries : List Observation) (buf : List ℕ) {n : ℕ} → HeldWriter w → o.count ≤ length entries
      → obs_write_answer first o.count (length buf) ≡ given n → step_at (buffer_after w o entries buf) 0 ≡ Found (obs_frame w o entries)
  pub back : (w : Writer) (o : Obs) (entries : List Observation) (buf : List ℕ) {n : ℕ} → HeldWriter w → o.count ≤ length entries
      → obs_write_answer first o.count (length buf) ≡ given n → HeldBody (obs first).layout ((obs first).row (written o entries))
      → (read_obs (payload_in (buffer_after w o entries buf) (obs_frame w o entries)) ≡ given o)
      × ((i : ℕ) (d : Observation) → i < o.count → read_entry first (payload_in (buffer_after w o entries buf) (obs_frame w o entries)) i ≡ given (get_or entries i d))
  -- an accepted payload, with its observations, written again gives a frame of the same bytes
  pub again : (w : Writer) (o : Obs) (buf s : List ℕ) → Bytes s → read_obs s ≡ given o
      → buffer_after w o (inside (obs first) s).observations buf ≡ with_frame first.kind w s buf
