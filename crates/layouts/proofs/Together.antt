-- Decoding and storing of parts put together are those of the parts, one after the other.
use Prim.Native.Nat.{ℕ, ◌+◌}
use mathlib.Core.Path.{◌≡◌, ap, ◌∙◌}
use mathlib.Core.List.{List}
use Rattle.layouts.specs.Field.{size, decode}
use Rattle.layouts.specs.Description.{Part}
use Rattle.layouts.specs.Together.{front_joined, back_joined, taken_at, put_at, both}
use Rattle.layouts.proofs.Fields.{decode_joined, stored_joined}

module _ {A B : Type 0} (p : Part A) (q : Part B) where
  pub taken_both : (s : List ℕ) (at : ℕ) → taken_at (both p q) s at ≡ (taken_at p s at, taken_at q s (at + size p.fields))
  taken_both s at =
      let v = decode p.fields s at in
      let w = decode q.fields s (at + size p.fields) in
      ap (both p q).make (decode_joined q.fields p.fields s at)
      ∙ (λ i. (p.make (front_joined q.fields p.fields v w i), q.make (back_joined q.fields p.fields v w i)))

  pub put_both : (r : A × B) (s : List ℕ) (at : ℕ) → put_at (both p q) r s at ≡ put_at q r.1 (put_at p r.0 s at) (at + size p.fields)
  put_both r s at = stored_joined q.fields p.fields (p.row r.0) (q.row r.1) s at

-- one part more: s as it was found to be, then a part stored in it
pub then_part : {R : Type 0} {s t u : List ℕ} (p : Part R) (r : R) (at : ℕ) → t ≡ s → u ≡ put_at p r t at → u ≡ put_at p r s at
then_part p r at e q = q ∙ ap (λ (t : List ℕ). put_at p r t at) e
