-- A message: its type number, its layout, and its record as a value of it. Reading a payload answers 22, then 23.
use Rattle.std.specs.Prelude.{ℕ, ◌≡◌, refl, true, List, [], ◌∷◌, length}
use Rattle.std.proofs.Common.{ap₂, subst}
use Rattle.layouts.specs.Field.{Field, Row, size}
use Rattle.layouts.specs.Layout.{Layout, run, Body, lengths, LengthOf, allowed_body, few_enough, body_size, decode_body}
use Rattle.refusals.specs.Refusals.{Answer, Call, reply}

-- the type of the frames that carry it, and its layout; a record and a value of the layout are the same thing
pub record Description (R : Type 0) : Type 0 where
  pub kind : ℕ
  pub layout : Layout
  pub row : R → Body layout
  pub make : Body layout → R
  pub row_make : (v : Body layout) → row (make v) ≡ v
  pub make_row : (r : R) → make (row r) ≡ r

-- the record in a payload, part after part
abbrev pub inside : {R : Type 0} → Description R → List ℕ → R
inside d s = d.make (decode_body d.layout s)

-- its reader, which knows its type: 22 for a wrong length, then 23 for a field outside its range
abbrev pub reading : {R : Type 0} → Description R → List ℕ → Call R
reading d s = record { tests = (lengths d.layout (length s), 22) ∷ (allowed_body d.layout (decode_body d.layout s), 23) ∷ []; value = inside d s }

unfoldable pub read_as : {R : Type 0} → Description R → List ℕ → Answer R
read_as d s = reply (reading d s)

-- a message of this type whose bytes are always n: nothing of it repeats
pub record Fixed {R : Type 0} (d : Description R) (kind n : ℕ) : Type 0 where
  pub of_kind : d.kind ≡ kind
  pub few : (v : Body d.layout) → few_enough d.layout v ≡ true
  pub size : (v : Body d.layout) → body_size d.layout v ≡ n
  pub length : LengthOf d.layout n
  pub only_length : (m : ℕ) → LengthOf d.layout m → m ≡ n

-- so is each whose layout is a run of fields
pub fixed_run : {R : Type 0} (d : Description R) {fs : List Field} → run fs ≡ d.layout → Fixed d d.kind (size fs)
fixed_run d {fs} e =
    record {
      of_kind = refl;
      few = subst (λ (l : Layout). (v : Body l) → few_enough l v ≡ true) e (λ v. refl);
      size = subst (λ (l : Layout). (v : Body l) → body_size l v ≡ size fs) e (λ v. refl);
      length = subst (λ (l : Layout). LengthOf l (size fs)) e refl;
      only_length = subst (λ (l : Layout). (m : ℕ) → LengthOf l m → m ≡ size fs) e (λ m q. q);
    }

-- ---- a part of a message: a record that is a run of fields, with no type number of its own

pub record Part (R : Type 0) : Type 0 where
  pub fields : List Field
  pub row : R → Row fields
  pub make : Row fields → R
  pub row_make : (v : Row fields) → row (make v) ≡ v
  pub make_row : (r : R) → make (row r) ≡ r

-- records as rows and back, one after the other
abbrev pub rows_of : {R : Type 0} (p : Part R) → List R → List (Row p.fields)
rows_of p [] = []
rows_of p (r ∷ rs) = p.row r ∷ rows_of p rs

abbrev pub made_of : {R : Type 0} (p : Part R) → List (Row p.fields) → List R
made_of p [] = []
made_of p (v ∷ vs) = p.make v ∷ made_of p vs

pub rows_made : {R : Type 0} (p : Part R) (vs : List (Row p.fields)) → rows_of p (made_of p vs) ≡ vs
rows_made p [] = refl
rows_made p (v ∷ vs) = ap₂ ◌∷◌ (p.row_make v) (rows_made p vs)

pub made_rows : {R : Type 0} (p : Part R) (rs : List R) → made_of p (rows_of p rs) ≡ rs
made_rows p [] = refl
made_rows p (r ∷ rs) = ap₂ ◌∷◌ (p.make_row r) (made_rows p rs)
