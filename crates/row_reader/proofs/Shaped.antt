-- What a type's digits make of a payload is what its layout says, and there are as many numbers; a payload that is accepted has all its fields.
use mathlib.Core.Path.{◌≡◌, refl, sym, ap, ap₂, ◌∙◌}
use mathlib.Core.Bool.{Bool, true, false, cond}
use mathlib.Core.List.{List, [], ◌∷◌, ◌++◌, append_assoc, append-nil}
use Prim.Native.Nat.{ℕ, suc, ◌+◌, ◌/◌, ◌≤◌}
use native.Mathlib.Nat.{div-one}
use native.Mathlib.Omega.{arith}
use lib.Dec.{eqb}
use lib.ListN.{length, drop, length-append}
use lib.Seq.{drop-drop}
use Rattle.wire.specs.Value.{Format}
use Rattle.layouts.specs.Field.{Field, Row, size, decode}
use Rattle.layouts.specs.Layout.{Layout, run, then, bytes, text, rows, count_in, Body, LengthOf, decode_body}
use Rattle.refusals.specs.Refusals.{AllPass}
use Rattle.layouts.proofs.Layouts.{lengths_of, length-rows}
use Rattle.formats.specs.Wide.{wide_row, wide_body, number_count}
use Rattle.formats.specs.Digits.{up_to, formats_by, size_of, numbers_at, text_digit, front_of, repeated, digits_of, shape_of}
use Rattle.formats.specs.Inner.{formats_in}
use Rattle.formats.specs.declared.Shape.{Shape}
use Rattle.formats.proofs.Rows.{length-numbers}
use Rattle.formats.proofs.Widened.{numbers_wide, numbers_joined, numbers_drop, size_formats, size_joined}
use Rattle.payloads.proofs.Shapes.{Ends, Unpacks, unpacks, measured}
use Rattle.payloads.specs.Payloads.{layout_for, shape_for, reading_any}
use Rattle.row_reader.specs.ReadRow.{numbers_for}
use Rattle.row_reader.specs.Inner.{text_numbers, tail_in, row_in}
use Rattle.row_reader.proofs.Filling.{no_tail, text_tail, one_tail}

-- ---- a shape's two runs are one

module _ (shape : Shape) where
  joined : (s : List ℕ) → row_in shape s ≡ numbers_at (formats_in shape) s 0 ++ tail_in shape.each (drop (size_of (formats_in shape)) s)
  joined s =
      let h = size_of (formats_by shape.head) in
      let m = size_of (formats_by shape.more) in
      let offset : h + 0 ≡ 0 + h = omega arith in
      ap₂ (λ (ns : List ℕ) (t : List ℕ). numbers_at (formats_by shape.head) s 0 ++ (ns ++ tail_in shape.each t))
      (numbers_drop (formats_by shape.more) s h 0 ∙ ap (numbers_at (formats_by shape.more) s) offset)
      (drop-drop m h s ∙ ap (λ (k : ℕ). drop k s) (sym (size_joined (formats_by shape.more) (formats_by shape.head))))
      ∙ sym (append_assoc (numbers_at (formats_by shape.head) s 0) (numbers_at (formats_by shape.more) s (0 + h)) (tail_in shape.each (drop (size_of (formats_in shape)) s)))
      ∙ ap (λ (ns : List ℕ). ns ++ tail_in shape.each (drop (size_of (formats_in shape)) s)) (sym (numbers_joined (formats_by shape.more) (formats_by shape.head) s 0))

-- ---- over the layout

one_byte : size_of (formats_by 1) ≡ 1
unfolding up_to size_of
one_byte = refl

-- what is repeated to the end
tails : (l : Layout) → Ends l → (s : List ℕ) → wide_row (front_of l) (decode (front_of l) s 0) ++ tail_in (repeated l) (drop (size (front_of l)) s) ≡ wide_body l (decode_body l s)
tails (then fs (run _)) e s = elim e [ ]
tails (then fs (then _ _)) e s = elim e [ ]
tails (bytes _) e s = elim e [ ]
tails (text _) e s = elim e [ ]
tails (rows _ _) e s = elim e [ ]
tails (run fs) e s = append-nil (wide_row fs (decode fs s 0))
tails (then fs (bytes most)) e s =
    let t = drop (size fs) s in
    ap (λ (n : ℕ). wide_row fs (decode fs s 0) ++ (n ∷ [])) (ap (λ (k : ℕ). length t / k) one_byte ∙ div-one (length t))
tails (then fs (text most)) e s = refl
tails (then fs (rows gs most)) e s =
    let t = drop (size fs) s in
    let counted : length t / size_of (formats_by (digits_of gs)) ≡ length (decode_body (rows gs most) t)
    = ap (λ (n : ℕ). length t / n) (ap size_of e.0 ∙ size_formats gs) ∙ sym (length-rows gs (count_in gs (length t)) t) in
    rw (e.1, e.2) (ap (λ (n : ℕ). wide_row fs (decode fs s 0) ++ (n ∷ [])) counted)

module _ (l : Layout) (u : Unpacks l) where
  head_size : size_of (formats_in (shape_of l)) ≡ size (front_of l)
  head_size = ap size_of u.0 ∙ size_formats (front_of l)

  laid : (s : List ℕ) → row_in (shape_of l) s ≡ wide_body l (decode_body l s)
  laid s =
      joined (shape_of l) s
      ∙ ap₂ (λ (ns : List ℕ) (k : ℕ). ns ++ tail_in (repeated l) (drop k s)) (ap (λ (ks : List Format). numbers_at ks s 0) u.0 ∙ numbers_wide (front_of l) s 0) head_size
      ∙ tails l u.1 s

-- how many numbers that are
wide_row_lem : (fs : List Field) (v : Row fs) → length (wide_row fs v) ≡ length fs
wide_row_lem [] v = refl
wide_row_lem (f ∷ fs) v = ap suc (wide_row_lem fs v.1)

wide_body_lem : (l : Layout) (v : Body l) → length (wide_body l v) ≡ number_count l
wide_body_lem (run fs) v = wide_row_lem fs v
wide_body_lem (then fs l) v = length-append (wide_row fs v.0) (wide_body l v.1) ∙ ap₂ ◌+◌ (wide_row_lem fs v.0) (wide_body_lem l v.1)
wide_body_lem (bytes most) v = refl
wide_body_lem (text most) v = refl
wide_body_lem (rows fs most) v = refl

-- the fields in front take no more than there is
front : (l : Layout) (n : ℕ) → LengthOf l n → size (front_of l) ≤ n
front (run fs) n h = omega arith
front (then fs l) n h = h.0
front (bytes most) n h = omega arith
front (text most) n h = omega arith
front (rows fs most) n h = omega arith

-- ---- of every type

module _ (kind : ℕ) (s : List ℕ) where
  pub as_laid : row_in (shape_for kind) s ≡ numbers_for kind s
  as_laid = laid (layout_for kind) (unpacks kind) s

  pub as_many : length (row_in (shape_for kind) s) ≡ number_count (layout_for kind)
  as_many = ap length as_laid ∙ wide_body_lem (layout_for kind) (decode_body (layout_for kind) s)

  pub whole : AllPass (reading_any kind s).tests → size_of (formats_by (shape_for kind).head) + size_of (formats_by (shape_for kind).more) ≤ length s
  whole h =
      let l = layout_for kind in
      let sum = size_joined (formats_by (shape_for kind).more) (formats_by (shape_for kind).head) in
      omega (arith, front l (length s) (lengths_of l (length s) (measured kind s h)), head_size l (unpacks kind), sum)

-- ---- how many numbers a shape gives, of any payload

tail_many : (each : ℕ) (s t : List ℕ) → length (tail_in each s) ≡ length (tail_in each t)
tail_many each s t = by (eqb each 0) (eqb each text_digit)
  where
    by : (none words : Bool) → length (cond none [] (cond words (text_numbers s) (length s / size_of (formats_by each) ∷ [])))
        ≡ length (cond none [] (cond words (text_numbers t) (length t / size_of (formats_by each) ∷ [])))
    by true words = refl
    by false true = refl
    by false false = refl

module _ (shape : Shape) (s : List ℕ) {h m : ℕ} (p : h ≡ length (formats_by shape.head)) (q : m ≡ length (formats_by shape.more)) where
  counted : h + m + length (tail_in shape.each []) ≡ length (row_in shape s)
  counted =
      let t = drop (size_of (formats_by shape.head)) s in
      let u = drop (size_of (formats_by shape.more)) t in
      let ns = numbers_at (formats_by shape.head) s 0 in
      let ms = numbers_at (formats_by shape.more) t 0 in
      omega (arith, p, q, length-numbers (formats_by shape.head) s 0, length-numbers (formats_by shape.more) t 0, length-append ns (ms ++ tail_in shape.each u), length-append ms (tail_in shape.each u), tail_many shape.each [] u)

  pub no_tail_counted : shape.each ≡ 0 → h + m ≡ length (row_in shape s)
  no_tail_counted none = omega (arith, counted, ap length (no_tail shape.each [] none))

  pub text_counted : shape.each ≡ text_digit → h + m + 2 ≡ length (row_in shape s)
  text_counted words = omega (arith, counted, ap length (text_tail shape.each [] words))

  pub tail_counted : (shape.each ≡ 0 → ⊥) → (shape.each ≡ text_digit → ⊥) → h + m + 1 ≡ length (row_in shape s)
  tail_counted some other = omega (arith, counted, ap length (one_tail shape.each [] some other))
