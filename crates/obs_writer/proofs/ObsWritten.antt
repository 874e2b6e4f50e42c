-- OBS written, over the edition: the ways through the writer; and a header and the first k of enough observations are written as every message is.
use mathlib.Core.Path.{◌≡◌, sym, ap, ◌∙◌}
use mathlib.Core.Bool.{true}
use mathlib.Core.List.{List}
use Prim.Native.Nat.{ℕ, ◌+◌, ◌≤◌, ◌<◌}
use lib.ListN.{length, take}
use borrow.Author.Tests.{le-leb, lt-leb}
use Rattle.layouts.specs.Field.{Row, allowed_row, size, row_stored}
use Rattle.layouts.specs.Layout.{allowed_body, few_enough, body_size, encode_body}
use Rattle.layouts.specs.Inner.{rows_stored}
use Rattle.layouts.specs.Description.{rows_of}
use Rattle.refusals.specs.Refusals.{refused, given, Answer, leaves}
use Rattle.layouts.proofs.Layouts.{allowed_rows_lem}
use Rattle.senders.specs.declared.Writer.{Writer}
use Rattle.frame_writer.specs.Writer.{planned, starting_with, framed_by, sealed}
use Rattle.frame_writer.specs.Faithful.{write_answer, written_as}
use Rattle.frame_writer.proofs.Promised as promised
use Rattle.observation.specs.Edition.{Edition, Observed, obs, start_of}
use Rattle.obs_writer.specs.ObsWriter.{obs_write_answer, observed, obs_written}
use Rattle.obs_writer.proofs.ObsLong.{first_rows, sized}

module _ {H O : Type 0} (e : Edition H O) (w : Writer) (h : H) (k : ℕ) (os : List O) (buf : List ℕ) where
  -- what the writer answers, and the buffer as it leaves it
  abbrev pub Wrote : Answer ℕ → List ℕ → Type 0
  Wrote a u = (a ≡ obs_write_answer e k (length buf)) × (u ≡ obs_written e w h k os buf)

  left_alone : {n : ℕ} → obs_write_answer e k (length buf) ≡ refused n → buf ≡ obs_written e w h k os buf
  unfolding obs_written
  left_alone r = rw r

  -- too many observations: nothing is written
  pub wrote_31 : e.most < k → Wrote (refused 31) buf
  unfolding obs_write_answer
  wrote_31 many = let r : obs_write_answer e k (length buf) ≡ refused 31 = rw (lt-leb k e.most many) in (sym r, left_alone r)

  -- ---- enough observations, of which every field takes any value

  module _ (enough : k ≤ length os) (any-header : (v : Row e.header.fields) → allowed_row e.header.fields v ≡ true) (any-row : (v : Row e.row.fields) → allowed_row e.row.fields v ≡ true) where
    abbrev r : Observed H O
    r = observed e h k os

    allowed : allowed_body (obs e).layout ((obs e).row r) ≡ true
    allowed = rw (any-header (e.header.row h)) (allowed_rows_lem e.row.fields any-row ((obs e).row r).1)

    -- the answer, and the buffer, are those of the message
    pub same_answer : (room : ℕ) → obs_write_answer e k room ≡ write_answer (obs e) r room
    unfolding obs_write_answer write_answer
    same_answer room = rw (allowed, first_rows e h k os enough)

    pub same_written : obs_written e w h k os buf ≡ written_as (obs e) w r buf
    unfolding obs_written written_as
    same_written =
        ap (λ (a : Answer ℕ). leaves (starting_with (framed_by e.kind w (encode_body (obs e).layout ((obs e).row r)))) a buf) (same_answer (length buf))

    module _ (few : k ≤ e.most) {a : Answer ℕ} (plan : a ≡ planned (start_of e k) (length buf)) where
      few_enough_lem : few_enough (obs e).layout ((obs e).row r) ≡ true
      few_enough_lem = rw (first_rows e h k os enough) (le-leb k e.most few)

      as_planned : planned (body_size (obs e).layout ((obs e).row r)) (length buf) ≡ planned (start_of e k) (length buf)
      as_planned = ap (λ (n : ℕ). planned n (length buf)) (sized e h k os enough)

      as_message : {u : List ℕ} → promised.Wrote (obs e) w r buf a u → Wrote a u
      as_message wrote = (wrote.0 ∙ sym (same_answer (length buf)), wrote.1 ∙ sym same_written)

      -- the frame has no room: nothing is written
      pub wrote_nothing : {n : ℕ} → planned (start_of e k) (length buf) ≡ refused n → Wrote a buf
      wrote_nothing q = as_message (promised.wrote_nothing (obs e) w r buf allowed few_enough_lem (plan ∙ sym as_planned) (as_planned ∙ q))

      -- the header and the observations stored, then sealed
      pub wrote : {n : ℕ} {s t u : List ℕ} → planned (start_of e k) (length buf) ≡ given n → s ≡ row_stored e.header.fields (e.header.row h) buf 6
          → t ≡ rows_stored e.row.fields (rows_of e.row (take k os)) s (6 + size e.header.fields) → u ≡ sealed e.kind w (start_of e k) t → Wrote a u
      wrote {t = t} q p o c =
          as_message
          (promised.wrote (obs e) w r buf allowed few_enough_lem (plan ∙ sym as_planned) (as_planned ∙ q)
          (o ∙ ap (λ (s : List ℕ). rows_stored e.row.fields (rows_of e.row (take k os)) s (6 + size e.header.fields)) p)
          (c ∙ ap (λ (n : ℕ). sealed e.kind w n t) (sym (sized e h k os enough))))
