-- Layouts that are fields alone, and what holds of every type's layout.
use mathlib.Core.Path.{◌≡◌, refl, sym, ap, ap₂, ◌∙◌}
use mathlib.Core.Bool.{Bool, true, false, ◌&&◌, false≢true, and-eq-true_iff}
use mathlib.Core.List.{List, [], ◌∷◌, map}
use Prim.Native.Nat.{ℕ, ◌+◌, ◌≤◌}
use lib.Dec.{leb, eqb}
use lib.ListN.{length, length-append, length-map}
use borrow.Author.Tests.{leb-true, eq-eqb, ne_eqb}
use Rattle.wire.specs.Value.{Format}
use Rattle.layouts.specs.Field.{format_of, HeldRow, allowed_row, size, encode}
use Rattle.layouts.specs.Layout.{Layout, run, then, bytes, text, rows, HeldBody, allowed_body, few_enough, body_size, lengths, encode_body, decode_body, Sound}
use Rattle.layouts.proofs.Fields.{allowed_again_row, decode_encode}
use Rattle.formats.specs.Wide.{narrow_row, fits_row, number_count}
use Rattle.formats.specs.Digits.{formats_by, size_of, run_fits, repeated, front_of}
use Rattle.formats.specs.Inner.{formats_in}
use Rattle.formats.specs.declared.Shape.{Shape}
use Rattle.formats.proofs.Widened.{size_formats, size_joined}
use Rattle.formats.proofs.Narrow.{within_all, fits_row_lem}
use Rattle.payloads.specs.Payloads.{Described, messages, Entry, entry_of, table, entry_for, layout_for, known_for, shape_for}
use Rattle.payloads.proofs.Shapes.{OfEach, of_any, Ends, unpacks, shaped}
use Rattle.row_writer.specs.WriteRow.{alone, body_of}

-- ---- fields alone: all of it is said by the fields

pub record FieldsAlone (l : Layout) (ns : List ℕ) : Type 0 where
  pub few : few_enough l (body_of l ns) ≡ true
  pub sized : body_size l (body_of l ns) ≡ size (front_of l)
  pub counted : number_count l ≡ length (front_of l)
  pub encoded : encode_body l (body_of l ns) ≡ encode (front_of l) (narrow_row (front_of l) ns 0)
  pub ranged : HeldBody l (body_of l ns) → allowed_body l (decode_body l (encode_body l (body_of l ns))) ≡ allowed_body l (body_of l ns)
  pub held : HeldRow (front_of l) (narrow_row (front_of l) ns 0) → HeldBody l (body_of l ns)
  pub sound : Sound l

pub fields_alone : (l : Layout) (ns : List ℕ) → alone l ≡ true → FieldsAlone l ns
fields_alone (run fs) ns h =
    let v = narrow_row fs ns 0 in
    record { few = refl; sized = refl; counted = refl; encoded = refl; ranged = λ held. ap (allowed_row fs) (decode_encode fs v held) ∙ allowed_again_row fs v held; held = λ v. v; sound = tt }
fields_alone (then fs l) ns h = absurd (false≢true h)
fields_alone (bytes most) ns h = absurd (false≢true h)
fields_alone (text most) ns h = absurd (false≢true h)
fields_alone (rows fs most) ns h = absurd (false≢true h)

pub only_fields : (kind : ℕ) → (known_for kind && alone (layout_for kind)) ≡ true → alone (layout_for kind) ≡ true
only_fields kind h = ((and-eq-true_iff (known_for kind) (alone (layout_for kind))).0 h).1

-- its shape tells: nothing is repeated
pub alone_by_shape : (l : Layout) → Ends l → eqb (repeated l) 0 ≡ alone l
alone_by_shape (run fs) e = refl
alone_by_shape (then fs (run gs)) e = absurd e
alone_by_shape (then fs (then gs l)) e = absurd e
alone_by_shape (then fs (bytes most)) e = refl
alone_by_shape (then fs (text most)) e = refl
alone_by_shape (then fs (rows gs most)) e = e.1
alone_by_shape (bytes most) e = absurd e
alone_by_shape (text most) e = absurd e
alone_by_shape (rows fs most) e = absurd e

-- ---- every type's layout

-- numbers of 64 bits fill its fields, and these fit a payload
abbrev plain : Layout → Bool
plain l = within_all (front_of l) && leb (size (front_of l)) 255

abbrev all_plain : List Entry → Bool
all_plain [] = true
all_plain (e ∷ es) = plain e.layout && all_plain es

each_plain : (es : List Entry) → all_plain es ≡ true → OfEach (λ e. plain e.layout ≡ true) es
each_plain [] h = tt
each_plain (e ∷ es) h = let p = (and-eq-true_iff (plain e.layout) (all_plain es)).0 h in (p.0, each_plain es p.1)

pub plain_for : (kind : ℕ) → (within_all (front_of (layout_for kind)) ≡ true) × (size (front_of (layout_for kind)) ≤ 255)
plain_for kind =
    let fs = front_of (layout_for kind) in
    let p = (and-eq-true_iff (within_all fs) (leb (size fs) 255)).0 (of_any (λ e. plain e.layout ≡ true) table (each_plain table refl) kind refl) in
    (p.0, leb-true (size fs) 255 p.1)

-- a type that has a reading is tested by its layout
abbrev Reads : Entry → Type 0
Reads e = e.known ≡ true → (s : List ℕ) → e.tests s ≡ (lengths e.layout (length s), 22) ∷ (allowed_body e.layout (decode_body e.layout s), 23) ∷ []

each_reads : (ms : List Described) → OfEach Reads (map entry_of ms)
each_reads [] = tt
each_reads (m ∷ ms) = (λ h s. refl, each_reads ms)

pub reads_for : (kind : ℕ) → Reads (entry_for table kind)
reads_for kind = of_any Reads table (each_reads messages) kind (λ h. absurd (false≢true h))

-- ---- and its shape, as code has it

module _ (kind : ℕ) {s : Shape} (e : s ≡ shape_for kind) where
  pub formats_shaped : formats_in s ≡ map format_of (front_of (layout_for kind))
  formats_shaped = ap formats_in e ∙ shaped kind

  pub size_shaped : size_of (formats_by s.head) + size_of (formats_by s.more) ≡ size (front_of (layout_for kind))
  size_shaped = sym (size_joined (formats_by s.more) (formats_by s.head)) ∙ ap size_of formats_shaped ∙ size_formats (front_of (layout_for kind))

  numbers_shaped : length (formats_by s.head) + length (formats_by s.more) ≡ length (front_of (layout_for kind))
  numbers_shaped = sym (length-append (formats_by s.head) (formats_by s.more)) ∙ ap length formats_shaped ∙ length-map (front_of (layout_for kind)) format_of

  pub fits_shaped : (ns : List ℕ) → run_fits (formats_in s) ns 0 ≡ fits_row (front_of (layout_for kind)) ns 0
  fits_shaped ns = ap (λ (ks : List Format). run_fits ks ns 0) formats_shaped ∙ fits_row_lem (front_of (layout_for kind)) ns 0

  alone_shaped : eqb s.each 0 ≡ alone (layout_for kind)
  alone_shaped = ap (λ (s : Shape). eqb s.each 0) e ∙ alone_by_shape (layout_for kind) (unpacks kind).1

  -- it tells whether the type is written so
  pub has_tail : known_for kind ≡ true → (s.each ≡ 0 → ⊥) → (known_for kind && alone (layout_for kind)) ≡ false
  has_tail known h = ap (λ (t : Bool). t && alone (layout_for kind)) known ∙ sym alone_shaped ∙ ne_eqb s.each 0 h

  pub no_tail : known_for kind ≡ true → s.each ≡ 0 → (known_for kind && alone (layout_for kind)) ≡ true
  no_tail known h = ap (λ (t : Bool). t && alone (layout_for kind)) known ∙ sym alone_shaped ∙ eq-eqb s.each 0 h

  -- how many numbers, as code counts them
  pub counted_as : {x y : ℕ} → x ≡ length (formats_by s.head) → y ≡ length (formats_by s.more) → alone (layout_for kind) ≡ true → x + y ≡ number_count (layout_for kind)
  counted_as p q only = ap₂ ◌+◌ p q ∙ numbers_shaped ∙ sym (fields_alone (layout_for kind) [] only).counted
