-- What is answered and left of a payload's row, case by case, by its type's shape.
use mathlib.Core.Path.{◌≡◌, refl, sym, ap, ◌∙◌}
use mathlib.Core.List.{List, []}
use Prim.Native.Nat.{ℕ, ◌+◌, ◌≤◌, ◌<◌}
use native.Mathlib.Omega.{arith}
use lib.ListN.{length}
use Rattle.refusals.specs.Refusals.{given, zero_or}
use Rattle.refusals.proofs.Ordered.{exactly_all}
use Rattle.formats.specs.Wide.{number_count}
use Rattle.formats.specs.Digits.{formats_by, size_of}
use Rattle.formats.specs.declared.Shape.{Shape}
use Rattle.payloads.specs.Payloads.{table, entry_for, layout_for, shape_for, reading_any, read_for, answer_for}
use Rattle.payloads.proofs.Agreed.{refuses, gives}
use Rattle.row_reader.specs.ReadRow.{beginning, numbers_for, read_row, row_after}
use Rattle.row_reader.specs.Inner.{row_in}
use Rattle.row_reader.proofs.Shaped.{as_laid, as_many, whole}
use Rattle.row_reader.proofs.Roomy.{stands, too_short, roomy}

module _ (kind : ℕ) (s row : List ℕ) where
  abbrev Done : ℕ → List ℕ → Type 0
  Done r t = (r ≡ zero_or (read_row kind s (length row))) × (t ≡ row_after kind s row)

  module _ {n : ℕ} (answered : n ≡ answer_for kind s) where
    pub row_refused : (n ≡ 0 → ⊥) → Done n row
    unfolding read_row
    row_refused some = stands (reading_any kind s).tests ((entry_for table kind).holds s) (numbers_for kind s) (number_count (layout_for kind)) row (refuses kind s answered some)

    module _ (none : n ≡ 0) {shape : Shape} (shown : shape ≡ shape_for kind) where
      passed : given ((entry_for table kind).holds s) ≡ read_for kind s
      passed = gives kind s answered none refl refl

      pub row_whole : size_of (formats_by shape.head) + size_of (formats_by shape.more) ≤ length s
      row_whole = rw shown (whole kind s ((exactly_all ((entry_for table kind).holds s) (reading_any kind s).tests ((entry_for table kind).holds s)).0 (sym passed)).0)

      module _ {m : ℕ} (counted : m ≡ length (row_in shape [])) where
        many : (t : List ℕ) → length (row_in shape t) ≡ number_count (layout_for kind)
        many t = ap (λ (shape : Shape). length (row_in shape t)) shown ∙ as_many kind t

        pub row_too_short : length row < m → Done 32 row
        unfolding read_row
        row_too_short h = too_short (reading_any kind s).tests ((entry_for table kind).holds s) (numbers_for kind s) (number_count (layout_for kind)) row passed (omega (arith, counted, many []))

        module _ (h : m ≤ length row) where
          pub row_room : length (row_in shape s) ≤ length row
          row_room = omega (arith, counted, many [], many s)

          pub row_filled : {t : List ℕ} → t ≡ beginning (row_in shape s) row → Done 0 t
          unfolding read_row
          row_filled e =
              roomy (reading_any kind s).tests ((entry_for table kind).holds s) (numbers_for kind s) (number_count (layout_for kind)) row passed (omega (arith, counted, many []))
              (e ∙ ap (λ (ns : List ℕ). beginning ns row) (ap (λ (shape : Shape). row_in shape s) shown ∙ as_laid kind s))
