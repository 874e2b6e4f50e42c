-- OBS keeps its promise: that of every message, brought to what the code reads and writes.
use mathlib.Core.Path.{◌≡◌, refl, sym, ap, ◌∙◌}
use mathlib.Core.List.{List, [], ◌∷◌}
use Prim.Native.Nat.{ℕ, ◌≤◌, ◌<◌}
use native.Mathlib.Omega.{arith}
use lib.Dec.{lit<, lit≤}
use lib.ListN.{length, get_or, take}
use lib.Seq.{get_or-take, length-take-le, take_all}
use borrow.Author.Tests.{le-leb}
use mir.Syntax.{w32}
use Rattle.wire.specs.Number.{Bytes}
use Rattle.layouts.specs.Layout.{HeldRows, SettledRows, HeldBody, SettledBody, encode_body}
use Rattle.layouts.specs.Description.{rows_of, inside, read_as}
use Rattle.refusals.specs.Refusals.{given}
use Rattle.layouts.proofs.Fields.{signed_settled}
use Rattle.layouts.proofs.Layouts.{allowed_rows_lem}
use Rattle.layouts.proofs.Descriptions.{reads_same}
use Rattle.senders.specs.Senders.{HeldWriter}
use Rattle.senders.specs.declared.Writer.{Writer}
use Rattle.frames.specs.Step.{step_at, payload_in}
use Rattle.frame_writer.specs.Writer.{with_frame}
use Rattle.frame_writer.specs.Faithful.{Faithful, write_answer, written_as}
use Rattle.frames.specs.declared.step.Step.TheVariants.{Found}
use Rattle.frame_writer.proofs.Promised.{faithful}
use Rattle.observation.specs.Edition.{Observed, obs, Head, observation, first}
use Rattle.observation.specs.Obs.{read_obs, read_entry, shown}
use Rattle.obs_writer.specs.ObsWriter.{obs_write_answer, head_of}
use Rattle.obs_writer.specs.ObsFaithful.{written, obs_frame, buffer_after, ObsFaithful}
use Rattle.observation.specs.declared.entry.Observation.{Observation}
use Rattle.observation.specs.declared.obs.Obs.{Obs}
use Rattle.obs_writer.proofs.ObsLong.{rows_counted}
use Rattle.observation.proofs.ObsReading.{each_read, shown_read, only_shown}
use Rattle.obs_writer.proofs.ObsWritten.{same_answer, same_written}

message : Faithful (obs first)
message = faithful (obs first) (lit< tt) (lit≤ tt)

-- all values are whole numbers, which their own bits stand for
settled_rows : (os : List Observation) → HeldRows observation.fields (rows_of observation os) → SettledRows observation.fields (rows_of observation os)
settled_rows [] held = tt
settled_rows (o ∷ os) held = ((refl, (signed_settled w32 o.l_i held.0.1.0, (refl, (refl, (refl, (refl, (refl, (refl, tt)))))))), settled_rows os held.1)

pub settled : (r : Observed Head Observation) → HeldBody (obs first).layout ((obs first).row r) → SettledBody (obs first).layout ((obs first).row r)
settled r held = ((refl, (refl, (refl, tt))), settled_rows r.observations held.1)

-- the payload of a message that is not too long reads back whole
pub held_whole : (r : Observed Head Observation) → length r.observations ≤ 15 → HeldBody (obs first).layout ((obs first).row r)
    → read_as (obs first) (encode_body (obs first).layout ((obs first).row r)) ≡ given r
held_whole r few held = reads_same (obs first) (lit≤ tt) r held (allowed_rows_lem observation.fields (λ v. refl) (rows_of observation r.observations)) (rw (rows_counted first r.observations) (le-leb (length r.observations) 15 few)) (settled r held)

module _ (w : Writer) (o : Obs) (entries : List Observation) (buf : List ℕ) (enough : o.count ≤ length entries) where
  as_message : buffer_after w o entries buf ≡ written_as (obs first) w (written o entries) buf
  as_message = same_written first w (head_of o) o.count entries buf enough (λ v. refl) (λ v. refl)

  module _ {n : ℕ} (s : HeldWriter w) (g : obs_write_answer first o.count (length buf) ≡ given n) where
    answered : write_answer (obs first) (written o entries) (length buf) ≡ given n
    answered = sym (same_answer first w (head_of o) o.count entries buf enough (λ v. refl) (λ v. refl) (length buf)) ∙ g

    found_through : step_at (buffer_after w o entries buf) 0 ≡ Found (obs_frame w o entries)
    found_through = ap (λ (t : List ℕ). step_at t 0) as_message ∙ message.found w (written o entries) buf s answered

    module _ (held : HeldBody (obs first).layout ((obs first).row (written o entries))) where
      abbrev payload : List ℕ
      payload = payload_in (buffer_after w o entries buf) (obs_frame w o entries)

      counted : length (take o.count entries) ≡ o.count
      counted = length-take-le o.count entries enough

      whole : read_as (obs first) payload ≡ given (written o entries)
      whole =
          ap (λ (t : List ℕ). read_as (obs first) (payload_in t (obs_frame w o entries))) as_message
          ∙ message.same w (written o entries) buf s answered held (settled (written o entries) held)

      back_through : read_obs payload ≡ given o
      back_through =
          shown_read payload (written o entries) whole
          ∙ ap (λ (k : ℕ). given (record { tow = o.tow; wn = o.wn; n_obs = o.n_obs; count = k })) counted

      each_through : (i : ℕ) (d : Observation) → i < o.count → read_entry first payload i ≡ given (get_or entries i d)
      each_through i d h = each_read first payload (written o entries) whole i d (omega (arith, counted)) ∙ ap given (get_or-take o.count entries i d h)

again_through : (w : Writer) (o : Obs) (buf s : List ℕ) → Bytes s → read_obs s ≡ given o
    → buffer_after w o (inside (obs first) s).observations buf ≡ with_frame first.kind w s buf
again_through w o buf s bytes g =
    let r = inside (obs first) s in
    let read = only_shown s o g in
    let all : take (length r.observations) r.observations ≡ r.observations = take_all (length r.observations) r.observations (omega arith) in
    ap (λ (o : Obs). buffer_after w o r.observations buf) read.1
    ∙ as_message w (shown r) r.observations buf (omega arith)
    ∙ ap (λ (os : List Observation). written_as (obs first) w (record { header = r.header; observations = os }) buf) all
    ∙ message.again w r buf s bytes read.0

pub obs_faithful : ObsFaithful
obs_faithful = record {
  message = message;
  found = λ w o entries buf s enough g. found_through w o entries buf enough s g;
  back = λ w o entries buf s enough g held. (back_through w o entries buf enough s g held, each_through w o entries buf enough s g held);
  again = again_through;
}
