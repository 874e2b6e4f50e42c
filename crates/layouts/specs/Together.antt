-- Parts put together: a part and then another are a part, and so is a part under the names of another record. What holds of every part
-- (sizes, decoding, storing, both round trips) then holds of what is put together.
use Rattle.std.specs.Prelude.{ℕ, ◌≡◌, refl, List, [], ◌∷◌, ◌++◌}
use Rattle.std.proofs.Common.{ap, ap₂, ◌∙◌}
use Rattle.layouts.specs.Field.{Field, Row, decode, row_stored}
use Rattle.layouts.specs.Layout.{run, joined}
use Rattle.layouts.specs.Description.{Description, Part}

-- ---- a row of two runs, taken apart

module _ (gs : List Field) where
  abbrev pub front : (fs : List Field) → Row (fs ++ gs) → Row fs
  front [] v = tt
  front (f ∷ fs) v = (v.0, front fs v.1)

  abbrev pub back : (fs : List Field) → Row (fs ++ gs) → Row gs
  back [] v = v
  back (f ∷ fs) v = back fs v.1

  pub joined_apart : (fs : List Field) (v : Row (fs ++ gs)) → joined fs gs (front fs v) (back fs v) ≡ v
  joined_apart [] v = refl
  joined_apart (f ∷ fs) v = λ i. (v.0, joined_apart fs v.1 i)

  pub front_joined : (fs : List Field) (v : Row fs) (w : Row gs) → front fs (joined fs gs v w) ≡ v
  front_joined [] v w = refl
  front_joined (f ∷ fs) v w = λ i. (v.0, front_joined fs v.1 w i)

  pub back_joined : (fs : List Field) (v : Row fs) (w : Row gs) → back fs (joined fs gs v w) ≡ w
  back_joined [] v w = refl
  back_joined (f ∷ fs) v w = back_joined fs v.1 w

-- ---- parts

-- the record at an offset, and s with a record stored at an offset
abbrev pub taken_at : {R : Type 0} → Part R → List ℕ → ℕ → R
taken_at p s at = p.make (decode p.fields s at)

abbrev pub put_at : {R : Type 0} → Part R → R → List ℕ → ℕ → List ℕ
put_at p r s at = row_stored p.fields (p.row r) s at

-- fields that have no record of their own
abbrev pub loose : (fs : List Field) → Part (Row fs)
loose fs = record { fields = fs; row = λ v. v; make = λ v. v; row_make = λ v. refl; make_row = λ v. refl }

-- this part, then that
abbrev pub both : {A B : Type 0} → Part A → Part B → Part (A × B)
both p q = record {
  fields = p.fields ++ q.fields;
  row = λ r. joined p.fields q.fields (p.row r.0) (q.row r.1);
  make = λ v. (p.make (front q.fields p.fields v), q.make (back q.fields p.fields v));
  row_make = λ v.
      ap₂ (joined p.fields q.fields) (p.row_make (front q.fields p.fields v)) (q.row_make (back q.fields p.fields v)) ∙ joined_apart q.fields p.fields v;
  make_row = λ r i. (
    (ap p.make (front_joined q.fields p.fields (p.row r.0) (q.row r.1)) ∙ p.make_row r.0) i,
    (ap q.make (back_joined q.fields p.fields (p.row r.0) (q.row r.1)) ∙ q.make_row r.1) i,
  );
}

-- a part as another record, which is the same thing
abbrev pub named : {A R : Type 0} (p : Part A) (to : R → A) (of : A → R) → ((a : A) → to (of a) ≡ a) → ((r : R) → of (to r) ≡ r) → Part R
named p to of to-of of-to = record {
  fields = p.fields;
  row = λ r. p.row (to r);
  make = λ v. of (p.make v);
  row_make = λ v. ap p.row (to-of (p.make v)) ∙ p.row_make v;
  make_row = λ r. ap of (p.make_row (to r)) ∙ of-to r;
}

-- a message that is a part and nothing else
abbrev pub message : {R : Type 0} → ℕ → Part R → Description R
message kind p = record { kind = kind; layout = run p.fields; row = p.row; make = p.make; row_make = p.row_make; make_row = p.make_row }
