-- What is written from numbers is what the typed writers write, once for every message; and of OBS.
use mathlib.Core.Path.{◌≡◌, refl, sym, ap, ap₂, ◌∙◌}
use mathlib.Core.Bool.{Bool, true, ◌&&◌}
use mathlib.Core.List.{List, ◌∷◌}
use Prim.Native.Nat.{ℕ, ◌+◌}
use native.Mathlib.Omega.{arith}
use lib.ListN.{length, take}
use lib.Seq.{take_all}
use borrow.Author.Tests.{eq-eqb}
use Rattle.layouts.specs.Layout.{Layout, Body, allowed_body, few_enough, body_size, encode_body}
use Rattle.layouts.specs.Description.{Description}
use Rattle.refusals.specs.Refusals.{given, Answer, Tests, ordered, leaves, reply}
use Rattle.refusals.proofs.Ordered.{exactly_all}
use Rattle.formats.specs.Wide.{narrow_rows, number_count}
use Rattle.senders.specs.declared.Writer.{Writer}
use Rattle.frame_writer.specs.Writer.{writing_frame, starting_with, framed_by}
use Rattle.frame_writer.specs.Faithful.{write_answer, written_as}
use Rattle.observation.specs.Edition.{obs, start_of, observation, first}
use Rattle.obs_writer.specs.ObsWriter.{writing_obs, obs_write_answer}
use Rattle.observation.specs.declared.entry.Observation.{Observation}
use Rattle.obs_writer.proofs.ObsWritten.{same_answer}
use Rattle.payloads.specs.Payloads.{Described, messages, Entry}
use Rattle.payloads.proofs.Entries.{Found, found, all_of}
use Rattle.row_writer.specs.WriteRow.{alone, body_of, writing_by, write_row, row_written}
use Rattle.row_writer.specs.WriteObsRow.{rows_in, observed_of, writing_obs_row, write_obs_row, obs_row_written}
use Rattle.row_writer.specs.WritesTyped.{WritesTyped, AllWritten}
use Rattle.row_writer.proofs.Alone.{fields_alone}
use Rattle.row_writer.proofs.ObsRows.{length-made, length-narrow}

-- ---- a message without a tail

-- what is answered, and left, by an entry of the table
abbrev answer_by : Entry → List ℕ → ℕ → Answer ℕ
answer_by e ns room = reply (writing_by e ns room)

module _ {R : Type 0} (d : Description R) (ns : List ℕ) (only : alone d.layout ≡ true) (room : ℕ) where
  abbrev l : Layout
  l = d.layout

  abbrev v : Body l
  v = body_of l ns

  -- a value that fits goes by its own writer's tests
  as_described : ordered ((allowed_body l v, 23) ∷ writing_frame (body_size l v) room) (body_size l v + 8) ≡ write_answer d (d.make v) room
  unfolding write_answer
  as_described =
      ap (λ (t : Bool). ordered ((allowed_body l v, 23) ∷ (t, 31) ∷ writing_frame (body_size l v) room) (body_size l v + 8)) (sym (fields_alone l ns only).few)
      ∙ ap (λ (w : Body l). ordered ((allowed_body l w, 23) ∷ (few_enough l w, 31) ∷ writing_frame (body_size l w) room) (body_size l w + 8)) (sym (d.row_make v))

-- past three tests
opened : {a b f : Bool} (x : Bool) (rest : Tests) (y : ℕ) → a ≡ true → b ≡ true → f ≡ true
    → ordered ((a, 21) ∷ (b, 22) ∷ (f && x, 23) ∷ rest) y ≡ ordered ((x, 23) ∷ rest) y
opened x rest y p q r = rw (p, q, r)

pub typed : (m : Described) → Found m → WritesTyped m
unfolding write_row row_written written_as
typed m h by ns buf only counted fits =
    let d = m.description in
    let l = d.layout in
    let v = body_of l ns in
    let room = length buf in
    let answer : write_row d.kind ns room ≡ write_answer d (d.make v) room
    = ap (λ (e : Entry). answer_by e ns room) h.0
    ∙ opened (allowed_body l v) (writing_frame (body_size l v) room) (body_size l v + 8) only (eq-eqb (length ns) (number_count l) counted) fits
    ∙ as_described d ns only room in (
      answer,
      ap (λ (e : Entry). leaves (starting_with (framed_by d.kind by (encode_body e.layout (body_of e.layout ns)))) (write_row d.kind ns room) buf) h.0
          ∙ ap₂ (λ (w : Body l) (a : Answer ℕ). leaves (starting_with (framed_by d.kind by (encode_body l w))) a buf) (sym (d.row_make v)) answer,
    )

-- ---- OBS

module _ (by : Writer) (hs ns buf : List ℕ) {n : ℕ} (g : write_obs_row first.kind hs ns (length buf) ≡ given n) where
  abbrev k : ℕ
  k = rows_in (length ns)

  abbrev os : List Observation
  os = (observed_of hs ns).observations

  many : length os ≡ k
  many = length-made observation (narrow_rows observation.fields k ns 0) ∙ length-narrow observation.fields k ns 0

  -- what passes all tests passes those of the writer of OBS
  as_obs : obs_write_answer first k (length buf) ≡ given n
  unfolding write_obs_row obs_write_answer
  as_obs =
      let size = start_of first k + 8 in
      let pass = (exactly_all size (writing_obs_row first.kind hs ns (length buf)).tests n).0 g in
      (exactly_all size (writing_obs first k (length buf)).tests n).1 (pass.0.1.1.1, pass.1)

  obs_answer : write_answer (obs first) (observed_of hs ns) (length buf) ≡ given n
  obs_answer =
      let h = (observed_of hs ns).header in
      let all : take k os ≡ os = take_all k os (omega (arith, many)) in
      ap (λ (o : List Observation). write_answer (obs first) (record { header = h; observations = o }) (length buf)) (sym all)
      ∙ sym (same_answer first by h k os buf (omega (arith, many)) (λ v. refl) (λ v. refl) (length buf))
      ∙ as_obs

  obs_left : obs_row_written first.kind by hs ns buf ≡ written_as (obs first) by (observed_of hs ns) buf
  unfolding obs_row_written written_as
  obs_left =
      ap (λ (a : Answer ℕ). leaves (starting_with (framed_by first.kind by (encode_body (obs first).layout ((obs first).row (observed_of hs ns))))) a buf) (g ∙ sym obs_answer)

pub as_typed : AllWritten
as_typed = record {
  each = all_of {P = Found} {Q = WritesTyped} typed messages found;
  obs_written = λ by hs ns buf g. (obs_answer by hs ns buf g, obs_left by hs ns buf g);
}
