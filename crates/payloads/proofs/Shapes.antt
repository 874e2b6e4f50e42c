-- The digits of every type's shape unpack to the formats of its layout, once for the whole list; and a payload that passes
-- the tests of its type is as long as its layout says.
use mathlib.Core.Path.{◌≡◌, refl}
use mathlib.Core.Bool.{Bool, true, false, cond, ◌&&◌, false≢true}
use mathlib.Core.List.{List, [], ◌∷◌, ◌++◌, map}
use Prim.Native.Nat.{ℕ, ◌≤◌}
use native.Mathlib.Omega.{arith}
use lib.Dec.{leb, eqb}
use lib.ListN.{length}
use borrow.Author.Tests.{ne_eqb, leb-true}
use Rattle.layouts.specs.Field.{format_of}
use Rattle.layouts.specs.Layout.{Layout, run, then, bytes, text, rows, lengths}
use Rattle.refusals.specs.Refusals.{AllPass}
use Rattle.formats.specs.Digits.{up_to, formats_by, text_digit, front_of, digits_of, shape_of}
use Rattle.formats.proofs.Packed.{fits_one, unpacked, fits_two, unpacked_two}
use Rattle.observation.specs.Edition.{first}
use Rattle.payloads.specs.Payloads.{Described, messages, Entry, entry_of, no_entry, table, entry_for, layout_for, shape_for, tests_of, reading_any}
use Rattle.payloads.proofs.Entries.{both}

-- ---- what holds of each row of the table, and where there is none, holds of every type

abbrev pub OfEach : (Entry → Type 0) → List Entry → Type 0
OfEach P [] = Unit {0}
OfEach P (e ∷ es) = P e × OfEach P es

pub of_any : (P : Entry → Type 0) (es : List Entry) → OfEach P es → (kind : ℕ) → P (no_entry kind) → P (entry_for es kind)
unfolding entry_for
of_any P [] h kind none = none
of_any P (e ∷ es) h kind none = by (eqb kind e.kind) (of_any P es h.1 kind none)
  where
    by : (t : Bool) → P (entry_for es kind) → P (cond t e (entry_for es kind))
    by true rest = h.0
    by false rest = rest

-- ---- a layout's digits

-- one run of fields, after which bytes or a text may come, or rows of some field whose digits unpack too and are no text's
abbrev pub Ends : Layout → Type 0
Ends (run fs) = Unit {0}
Ends (then fs (run gs)) = ⊥
Ends (then fs (then gs l)) = ⊥
Ends (then fs (bytes most)) = Unit {0}
Ends (then fs (text most)) = Unit {0}
Ends (then fs (rows gs most)) = (formats_by (digits_of gs) ≡ map format_of gs) × (eqb (digits_of gs) 0 ≡ false) × (eqb (digits_of gs) text_digit ≡ false)
Ends (bytes most) = ⊥
Ends (text most) = ⊥
Ends (rows fs most) = ⊥

abbrev pub Unpacks : Layout → Type 0
Unpacks l = (formats_by (shape_of l).head ++ formats_by (shape_of l).more ≡ map format_of (front_of l)) × Ends l

-- the same follows from a test, which the whole table passes; rows have two fields at least
abbrev packs : Layout → Bool
packs (run fs) = fits_two fs
packs (then fs (run gs)) = false
packs (then fs (then gs l)) = false
packs (then fs (bytes most)) = fits_two fs
packs (then fs (text most)) = fits_two fs
packs (then fs (rows gs most)) = fits_two fs && (fits_one gs && leb 16 (digits_of gs))
packs (bytes most) = false
packs (text most) = false
packs (rows fs most) = false

packed : (l : Layout) → packs l ≡ true → Unpacks l
packed (run fs) h = (unpacked_two fs h, tt)
packed (then fs (run gs)) h = absurd (false≢true h)
packed (then fs (then gs l)) h = absurd (false≢true h)
packed (then fs (bytes most)) h = (unpacked_two fs h, tt)
packed (then fs (text most)) h = (unpacked_two fs h, tt)
packed (then fs (rows gs most)) h =
    let b = both (fits_two fs) (fits_one gs && leb 16 (digits_of gs)) h in
    let r = both (fits_one gs) (leb 16 (digits_of gs)) b.1 in
    let many : 16 ≤ digits_of gs = leb-true 16 (digits_of gs) r.1 in
    (unpacked_two fs b.0, (unpacked gs r.0, ne_eqb (digits_of gs) 0 (λ e. omega arith), ne_eqb (digits_of gs) text_digit (λ e. omega arith)))
packed (bytes most) h = absurd (false≢true h)
packed (text most) h = absurd (false≢true h)
packed (rows fs most) h = absurd (false≢true h)

abbrev each_packs : List Entry → Bool
each_packs [] = true
each_packs (e ∷ es) = packs e.layout && each_packs es

each_packs_lem : (es : List Entry) → each_packs es ≡ true → OfEach (λ e. packs e.layout ≡ true) es
each_packs_lem [] h = tt
each_packs_lem (e ∷ es) h = let b = both (packs e.layout) (each_packs es) h in (b.0, each_packs_lem es b.1)

pub unpacks : (kind : ℕ) → Unpacks (layout_for kind)
unpacks kind = packed (layout_for kind) (of_any (λ e. packs e.layout ≡ true) table (each_packs_lem table refl) kind refl)

pub shaped : (kind : ℕ) → formats_by (shape_for kind).head ++ formats_by (shape_for kind).more ≡ map format_of (front_of (layout_for kind))
shaped kind = (unpacks kind).0

pub shaped_each : formats_by (shape_for first.kind).each ≡ map format_of first.row.fields
unfolding entry_for up_to
shaped_each = refl

-- ---- what passes the tests of its type has a length of its layout

abbrev Measured : List ℕ → Entry → Type 0
Measured s e = AllPass (tests_of e s) → lengths e.layout (length s) ≡ true

all_measured : (s : List ℕ) (ms : List Described) → OfEach (Measured s) (map entry_of ms)
all_measured s [] = tt
all_measured s (m ∷ ms) = (λ h. h.1.0, all_measured s ms)

pub measured : (kind : ℕ) (s : List ℕ) → AllPass (reading_any kind s).tests → lengths (layout_for kind) (length s) ≡ true
measured kind s = of_any (Measured s) table (all_measured s messages) kind (λ h. absurd (false≢true h.0))
