-- Numbers that were written come back, once for every message: its writer is the typed one, its frame is found, and the record read from it has
-- those numbers.
use mathlib.Core.Path.{◌≡◌, refl, sym, ap, ◌∙◌, subst, subst⁻¹}
use mathlib.Core.Bool.{true, false≢true, and-eq-true_iff}
use mathlib.Core.List.{List}
use Prim.Native.Nat.{ℕ, ◌+◌}
use native.Mathlib.Omega.{arith}
use lib.ListN.{length}
use lib.Seq.{take_all}
use borrow.Author.Tests.{eqb-true}
use Rattle.refusals.specs.Refusals.{given, mapped, reply}
use Rattle.layouts.specs.Field.{SettledRow}
use Rattle.layouts.specs.Layout.{Layout, run, then, bytes, text, rows, HeldBody, SettledBody, allowed_body, body_size}
use Rattle.refusals.proofs.Ordered.{exactly_all}
use Rattle.frame_writer.specs.Faithful.{write_answer, frame_written}
use Rattle.frames.specs.Step.{step_at, payload_in}
use Rattle.frame_writer.proofs.Promised.{faithful}
use Rattle.formats.specs.Wide.{narrow_row, fits_row, wide_body, number_count}
use Rattle.formats.specs.Digits.{front_of}
use Rattle.formats.proofs.Narrow.{within_all, held_narrow, settled_narrow, wide_narrow}
use Rattle.payloads.specs.Payloads.{Described, messages, Entry, entry_of}
use Rattle.payloads.proofs.Entries.{Found, found, all_of}
use Rattle.row_reader.specs.ReadRow.{read_row}
use Rattle.row_reader.proofs.EachRead.{reads_typed}
use Rattle.row_writer.specs.WriteRow.{alone, body_of, writing_by, write_row, row_written}
use Rattle.row_writer.proofs.Alone.{fields_alone, plain_for}
use Rattle.row_writer.proofs.WrittenTyped.{typed}
use Rattle.rows_back.specs.RowsBack.{Words, RowsBack, AllBack}

-- ---- fields alone

module _ (ns : List ℕ) (words : Words ns) where
  settled_alone : (l : Layout) → alone l ≡ true → SettledRow (front_of l) (narrow_row (front_of l) ns 0) → SettledBody l (body_of l ns)
  settled_alone (run fs) h v = v
  settled_alone (then fs l) h v = absurd (false≢true h)
  settled_alone (bytes most) h v = absurd (false≢true h)
  settled_alone (text most) h v = absurd (false≢true h)
  settled_alone (rows fs most) h v = absurd (false≢true h)

  same_numbers : (l : Layout) → alone l ≡ true → length ns ≡ number_count l → wide_body l (body_of l ns) ≡ ns
  same_numbers (run fs) h counted = wide_narrow ns words fs 0 (omega (arith, counted)) ∙ take_all (length fs) ns (omega (arith, counted))
  same_numbers (then fs l) h counted = absurd (false≢true h)
  same_numbers (bytes most) h counted = absurd (false≢true h)
  same_numbers (text most) h counted = absurd (false≢true h)
  same_numbers (rows fs most) h counted = absurd (false≢true h)

-- ---- a message

module _ (m : Described) (own : Found m) where
  -- what was written has as many numbers as fields, each of which its field holds
  fit : (ns : List ℕ) (room : ℕ) {n : ℕ} → write_row m.description.kind ns room ≡ given n
      → (length ns ≡ number_count m.description.layout) × (fits_row (front_of m.description.layout) ns 0 ≡ true)
  unfolding write_row
  fit ns room {n} g =
      let l = m.description.layout in
      let w : reply (writing_by (entry_of m) ns room) ≡ given n = ap (λ (e : Entry). reply (writing_by e ns room)) (sym own.0) ∙ g in
      let all = ((exactly_all (body_size l (body_of l ns) + 8) (writing_by (entry_of m) ns room).tests n).0 w).0 in
      let counted = eqb-true (length ns) (number_count l) all.1.0 in
      (counted, ((and-eq-true_iff (fits_row (front_of l) ns 0) (allowed_body l (body_of l ns))).0 all.1.1.0).0)

  back : RowsBack m
  back by ns buf n only small words g room enough =
      let d = m.description in
      let l = d.layout in
      let r = d.make (body_of l ns) in
      let here = fit ns (length buf) g in
      let own-writer = typed m own by ns buf only here.0 here.1 in
      let kept = faithful d own.1 own.2 in
      let written : write_answer d r (length buf) ≡ given n = sym own-writer.0 ∙ g in
      let within : within_all (front_of l) ≡ true = subst (λ (e : Entry). within_all (front_of e.layout) ≡ true) own.0 (plain_for d.kind).0 in
      let held : HeldBody l (d.row r)
      = subst⁻¹ (HeldBody l) (d.row_make (body_of l ns)) ((fields_alone l ns only).held (held_narrow ns words (front_of l) 0 within here.1)) in
      let in-fields = settled_narrow ns words (front_of l) 0 within here.1 in
      let settled : SettledBody l (d.row r) = subst⁻¹ (SettledBody l) (d.row_make (body_of l ns)) (settled_alone ns words l only in-fields) in
      let read = kept.same by r buf small written held settled in
      let numbers : wide_body l (d.row r) ≡ ns = ap (wide_body l) (d.row_make (body_of l ns)) ∙ same_numbers ns words l only here.0 in
      let f = frame_written d by r in
      let bytes = row_written d.kind by ns buf in (
        f,
        ap (λ (t : List ℕ). step_at t 0) own-writer.1 ∙ kept.found by r buf small written,
        refl,
        ap (λ (t : List ℕ). read_row d.kind (payload_in t f) room) own-writer.1
            ∙ reads_typed m own _ room (omega (arith, here.0))
            ∙ ap (mapped (λ (q : m.Of). wide_body l (d.row q))) read
            ∙ ap given numbers,
      )

pub all_back : AllBack
all_back = all_of {P = Found} {Q = RowsBack} back messages found
