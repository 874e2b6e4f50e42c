-- Rows of one part stored one after the other, over the part: the loop of a writer that lends each row the buffer from where the row begins.
use mathlib.Core.Path.{◌≡◌, sym, ap, ap₂, ◌∙◌}
use mathlib.Core.List.{List, ◌∷◌}
use Prim.Native.Nat.{ℕ, suc, ◌+◌, ◌*◌, ◌≤◌, ◌<◌}
use native.Mathlib.Nat.{zero-mul, suc-mul, add-zero, mul-le-mul_right}
use native.Mathlib.Numerals.{add-one}
use native.Mathlib.Omega.{arith}
use lib.ListN.{length, get_or, take, drop, drop_of_length-le}
use lib.Seq.{sets, drop-cons, get_or-take, length-take-le}
use Rattle.layouts.specs.Field.{Row, size, encode, row_stored}
use Rattle.layouts.specs.Inner.{rows_stored}
use Rattle.layouts.specs.Description.{Part, rows_of}
use Rattle.wire.proofs.Numbers.{sets-lent}
use Rattle.wire.proofs.Lent.{lent_from, back_from, lent_length}
use Rattle.layouts.proofs.Fields.{row_sets}
use Rattle.layouts.proofs.Layouts.{length-rows_stored}

-- where row i goes, the first at some offset
abbrev row_start : {R : Type 0} → Part R → ℕ → ℕ → ℕ
row_start p at i = at + i * size p.fields

-- buf is what start has become once i of the first k rows are stored from at on: those left, stored from there on, make what all k make of start
pub record Stored {R : Type 0} (p : Part R) (at : ℕ) (start : List ℕ) (rs : List R) (k : ℕ) (buf : List ℕ) (i : ℕ) : Type 0 where
  pub enough : k ≤ length rs
  pub room : at + k * size p.fields ≤ length start
  pub left : rows_stored p.fields (rows_of p (drop i (take k rs))) buf (row_start p at i) ≡ rows_stored p.fields (rows_of p (take k rs)) start at

module _ {R : Type 0} {p : Part R} {at : ℕ} {start : List ℕ} {rs : List R} {k : ℕ} where
  pub stored_none : k ≤ length rs → at + k * size p.fields ≤ length start → Stored p at start rs k start 0
  stored_none enough room = record { enough = enough; room = room; left = rw (zero-mul, add-zero) }

  module _ {buf : List ℕ} {i : ℕ} (inv : Stored p at start rs k buf i) where
    all : length (take k rs) ≡ k
    all = length-take-le k rs inv.enough

    -- stores keep the buffer's length
    pub stored_length : length buf ≡ length start
    stored_length =
        sym (length-rows_stored p.fields (rows_of p (drop i (take k rs))) buf (row_start p at i))
        ∙ ap length inv.left
        ∙ length-rows_stored p.fields (rows_of p (take k rs)) start at

    -- with none left the buffer is the start with all k stored
    pub stored_all : k ≤ i → buf ≡ rows_stored p.fields (rows_of p (take k rs)) start at
    stored_all h =
        let past : length (take k rs) ≤ i = omega (arith, all) in
        sym (ap (λ (left : List R). rows_stored p.fields (rows_of p left) buf (row_start p at i)) (drop_of_length-le (take k rs) past)) ∙ inv.left

    module _ (h : i < k) where
      -- row i has room in the buffer
      pub has_room : row_start p at i + size p.fields ≤ length buf
      has_room =
          let before : suc i * size p.fields ≤ k * size p.fields = mul-le-mul_right (size p.fields) h in
          omega (arith, inv.room, stored_length, suc-mul i (size p.fields))

      -- row i is the first of those left
      next_row : (d : R) → get_or rs i d ∷ drop (suc i) (take k rs) ≡ drop i (take k rs)
      next_row d = sym (drop-cons (take k rs) i d (omega (arith, all)) ∙ ap (λ (r : R). r ∷ drop (suc i) (take k rs)) (get_or-take k rs i d h))

      -- a row stored in what is lent from there on is stored in the whole
      lent_row : (v : Row p.fields) {t : List ℕ} → t ≡ row_stored p.fields v (lent_from (row_start p at i) buf) 0
          → back_from (row_start p at i) buf t ≡ row_stored p.fields v buf (row_start p at i)
      lent_row v e =
          let n = row_start p at i in
          let long = lent_length n buf in
          sets-lent n buf 0 (encode p.fields v) (omega (arith, has_room)) (e ∙ row_sets p.fields v (lent_from n buf) 0 (omega (arith, has_room)))
          ∙ ap (λ (j : ℕ). sets buf j (encode p.fields v)) (add-zero n)
          ∙ sym (row_sets p.fields v buf n has_room)

      -- and row i so stored leaves one row less
      pub stored_more : (d : R) {t : List ℕ} → t ≡ row_stored p.fields (p.row (get_or rs i d)) (lent_from (row_start p at i) buf) 0
          → Stored p at start rs k (back_from (row_start p at i) buf t) (i + 1)
      stored_more d e =
          let next : row_start p at (suc i) ≡ row_start p at i + size p.fields = omega (arith, suc-mul i (size p.fields)) in
          let left = ap₂ (λ (s : List ℕ) (j : ℕ). rows_stored p.fields (rows_of p (drop (suc i) (take k rs))) s j) (lent_row (p.row (get_or rs i d)) e) next
          ∙ ap (λ (left : List R). rows_stored p.fields (rows_of p left) buf (row_start p at i)) (next_row d)
          ∙ inv.left in
          record { enough = inv.enough; room = inv.room; left = rw add-one left }
