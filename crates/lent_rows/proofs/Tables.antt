-- Rows stored one after the other: each decodes where it stands.
use mathlib.Core.Path.{◌≡◌, refl, sym, ap, ◌∙◌}
use mathlib.Core.Bool.{Bool, true, false}
use mathlib.Core.List.{List}
use Prim.Native.Nat.{ℕ, zero, suc, ◌+◌, ◌*◌, ◌≤◌, ◌<◌}
use native.Mathlib.Nat.{suc-mul, mul-le-mul_right}
use native.Mathlib.Numerals.{add-one}
use native.Mathlib.Omega.{arith}
use lib.Dec.{eqb}
use lib.ListN.{length}
use borrow.Author.Tests.{eqb-true, eqb-false}
use Rattle.layouts.specs.Field.{Field, Row, HeldRow, SettledRow, size, decode, row_stored}
use Rattle.layouts.proofs.Fields.{length-row}
use Rattle.lent_rows.specs.Lent.{first_rows_stored}
use Rattle.lent_rows.proofs.Parts.{decode_stored, decode_before}

module _ (fs : List Field) (row : ℕ → Row fs) (s : List ℕ) (at : ℕ) where
  pub length-stored : (n : ℕ) → length (first_rows_stored fs row n s at) ≡ length s
  unfolding first_rows_stored
  length-stored zero = refl
  length-stored (suc n) = length-row fs (row n) (first_rows_stored fs row n s at) (at + n * size fs) ∙ length-stored n

  pub rows_none : s ≡ first_rows_stored fs row 0 s at
  unfolding first_rows_stored
  rows_none = refl

  -- one row more
  pub rows_more : (n : ℕ) {t u : List ℕ} → t ≡ first_rows_stored fs row n s at → u ≡ row_stored fs (row n) t (at + n * size fs) → u ≡ first_rows_stored fs row (n + 1) s at
  unfolding first_rows_stored
  rows_more n p q = q ∙ ap (λ (t : List ℕ). row_stored fs (row n) t (at + n * size fs)) p ∙ rw add-one

  -- the row after n others has room
  next_room : (n : ℕ) → at + suc n * size fs ≤ length s → at + n * size fs + size fs ≤ length (first_rows_stored fs row n s at)
  next_room n room = omega (arith, length-stored n, suc-mul n (size fs))

  fewer_room : (n : ℕ) → at + suc n * size fs ≤ length s → at + n * size fs ≤ length s
  fewer_room n room = omega (arith, suc-mul n (size fs))

  module _ (gs : List Field) (b : ℕ) where
    pub rows_before : (n : ℕ) → at + n * size fs ≤ length s → b + size gs ≤ at → decode gs (first_rows_stored fs row n s at) b ≡ decode gs s b
    unfolding first_rows_stored
    rows_before zero room h = refl
    rows_before (suc n) room h =
        decode_before fs (row n) (first_rows_stored fs row n s at) (at + n * size fs) (next_room n room) gs b (omega arith)
        ∙ rows_before n (fewer_room n room) h

  -- each row decodes where it stands
  pub rows_own : (n : ℕ) → at + n * size fs ≤ length s → ((j : ℕ) → j < n → HeldRow fs (row j) × SettledRow fs (row j))
      → (j : ℕ) → j < n → decode fs (first_rows_stored fs row n s at) (at + j * size fs) ≡ row j
  unfolding first_rows_stored
  rows_own zero room kept j h = absurd (omega arith)
  rows_own (suc n) room kept j h = by (eqb j n) refl (rows_own n (fewer_room n room) (λ k b. kept k (omega arith)) j)
    where
      by : (t : Bool) → eqb j n ≡ t → (j < n → decode fs (first_rows_stored fs row n s at) (at + j * size fs) ≡ row j)
          → decode fs (first_rows_stored fs row (suc n) s at) (at + j * size fs) ≡ row j
      by true e earlier =
          let same : j ≡ n = eqb-true j n e in
          ap (λ (k : ℕ). decode fs (first_rows_stored fs row (suc n) s at) (at + k * size fs)) same
          ∙ decode_stored fs (row n) (first_rows_stored fs row n s at) (at + n * size fs) (next_room n room) (kept n (omega arith)).0 (kept n (omega arith)).1
          ∙ ap row (sym same)
      by false e earlier =
          let other : j ≡ n → ⊥ = eqb-false j n e in
          let below : suc j ≤ n = omega arith in
          let ordered : suc j * size fs ≤ n * size fs = mul-le-mul_right (size fs) below in
          decode_before fs (row n) (first_rows_stored fs row n s at) (at + n * size fs) (next_room n room) fs (at + j * size fs) (omega (arith, suc-mul j (size fs)))
          ∙ earlier below
