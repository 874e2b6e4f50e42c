-- One observation's row: what is read by digits in the bytes from its start on, and what is answered and left, case by case.
use mathlib.Core.Path.{◌≡◌, refl, sym, ap, ap₂, ◌∙◌}
use mathlib.Core.List.{List, map}
use Prim.Native.Nat.{ℕ, ◌+◌, ◌*◌, ◌≤◌, ◌<◌}
use native.Mathlib.Nat.{add-zero}
use native.Mathlib.Omega.{arith}
use lib.ListN.{length, length-map}
use borrow.Author.Tests.{ltb-true}
use Rattle.wire.specs.Number.{bytes_stored}
use Rattle.wire.specs.Value.{Format}
use Rattle.layouts.specs.Field.{format_of, size}
use Rattle.refusals.specs.Refusals.{refused, given, AllPass, zero_or}
use Rattle.refusals.proofs.Ordered.{exactly_all}
use Rattle.formats.specs.Digits.{up_to, formats_by, size_of, numbers_at}
use Rattle.formats.specs.declared.Shape.{Shape}
use Rattle.formats.proofs.Rows.{length-numbers}
use Rattle.formats.proofs.Widened.{numbers_wide, numbers_drop, size_formats}
use Rattle.observation.specs.Edition.{count_in, start_of, first}
use Rattle.observation.specs.Obs.{entry_at, one_of_frame, read_entry_of}
use Rattle.observation.specs.declared.entry.Observation.{Observation}
use Rattle.observation.proofs.Editions.{whole}
use Rattle.payloads.specs.Payloads.{entry_for, shape_for}
use Rattle.payloads.proofs.Shapes.{shaped_each}
use Rattle.row_reader.specs.ReadRow.{beginning, observation_numbers, read_one, row_after_one}
use Rattle.wire.proofs.Lent.{lent_from, lent_all}
use Rattle.row_reader.proofs.Filling.{stored_front}
use Rattle.row_reader.proofs.Roomy.{stands, too_short, roomy}

-- a run read from the bytes that are lent from its start on
pub read_from : (ks : List Format) (s row : List ℕ) {at start : ℕ} {t : List ℕ} → at ≡ start → length ks ≤ length row
    → t ≡ bytes_stored (numbers_at ks (lent_from at s) 0) row 0 → t ≡ beginning (numbers_at ks s start) row
read_from ks s row {at} {start} there room e =
    let room' : length (numbers_at ks s start) ≤ length row = omega (arith, length-numbers ks s start) in
    e
    ∙ ap (λ (ns : List ℕ). bytes_stored ns row 0) (ap (λ (t : List ℕ). numbers_at ks t 0) (lent_all at s) ∙ numbers_drop ks s at 0 ∙ ap (numbers_at ks s) (add-zero at ∙ there))
    ∙ stored_front (numbers_at ks s start) row room'

-- the header's digits
head_size : size_of (formats_by (shape_for first.kind).head) ≡ size first.header.fields
unfolding entry_for up_to size_of
head_size = refl

module _ (kind : ℕ) (s : List ℕ) (i : ℕ) (row : List ℕ) where
  abbrev Done : ℕ → List ℕ → Type 0
  Done r t = (r ≡ zero_or (read_one kind s i (length row))) × (t ≡ row_after_one kind s i row)

  pub one_refused : {n : ℕ} → refused n ≡ read_entry_of kind s i → Done n row
  unfolding read_one read_entry_of
  one_refused p = stands (one_of_frame kind s i).tests (entry_at first s i) (observation_numbers s i) (length first.row.fields) row p

  module _ {o : Observation} (p : given o ≡ read_entry_of kind s i) {shape : Shape} (shown : shape ≡ shape_for first.kind) where
    passed : AllPass (one_of_frame kind s i).tests
    unfolding read_entry_of
    passed = ((exactly_all (entry_at first s i) (one_of_frame kind s i).tests o).0 (sym p)).0

    each : formats_by shape.each ≡ map format_of first.row.fields
    each = ap (λ (shape : Shape). formats_by shape.each) shown ∙ shaped_each

    many : length (formats_by shape.each) ≡ length first.row.fields
    many = ap length each ∙ length-map first.row.fields format_of

    start : size_of (formats_by shape.head) + i * size_of (formats_by shape.each) ≡ start_of first i
    start = ap₂ (λ (h n : ℕ). h + i * n) (ap (λ (shape : Shape). size_of (formats_by shape.head)) shown ∙ head_size) (ap size_of each ∙ size_formats first.row.fields)

    pub one_within : size_of (formats_by shape.head) + i * size_of (formats_by shape.each) ≤ length s
    one_within = omega (arith, start, (whole first (length s) passed.1.0).0, ltb-true i (count_in first (length s)) passed.1.1.0)

    module _ {m : ℕ} (counted : m ≡ length (formats_by shape.each)) where
      pub one_too_short : length row < m → Done 32 row
      unfolding read_one read_entry_of
      one_too_short h = too_short (one_of_frame kind s i).tests (entry_at first s i) (observation_numbers s i) (length first.row.fields) row p (omega (arith, counted, many))

      module _ (h : m ≤ length row) where
        pub one_room : length (formats_by shape.each) ≤ length row
        one_room = omega (arith, counted)

        pub one_filled : {t : List ℕ} → t ≡ beginning (numbers_at (formats_by shape.each) s (size_of (formats_by shape.head) + i * size_of (formats_by shape.each))) row → Done 0 t
        unfolding read_one read_entry_of
        one_filled e =
            roomy (one_of_frame kind s i).tests (entry_at first s i) (observation_numbers s i) (length first.row.fields) row p (omega (arith, counted, many))
            (e ∙ ap (λ (ns : List ℕ). beginning ns row) (ap₂ (λ (ks : List Format) (at : ℕ). numbers_at ks s at) each start ∙ numbers_wide first.row.fields s (start_of first i)))
