-- Layouts: both round trips, sizes, lengths and storing, each once from the parts. First of rows one after the other, then of a whole body.
use mathlib.Core.Path.{◌≡◌, refl, sym, ap, ap₂, ◌∙◌}
use mathlib.Core.Bool.{Bool, true, false, ◌&&◌, true≢false, and-eq-true_iff}
use mathlib.Core.List.{List, [], ◌∷◌, ◌++◌}
use Prim.Native.Nat.{ℕ, zero, suc, ◌+◌, ◌-◌, ◌*◌, ◌%◌, ◌≤◌, ◌<◌}
use native.Mathlib.Nat.{zero-mul, suc-mul, add_comm, mul-div_cancel, mul-mod_left, div-add-mod', not-suc-le-zero, le_of_suc-le-suc}
use native.Mathlib.Omega.{arith}
use lib.ListN.{length, get_or, take, drop, length-append, length-drop, take-append-drop}
use lib.Seq.{sets, drop-drop, drop_at, length-take-le}
use borrow.Author.Tests.{le-leb, leb-true, eq-eqb, eqb-true}
use Rattle.wire.specs.Number.{Bytes, bytes_stored}
use Rattle.padded.specs.Padded.{no_zero, all_zero}
use Rattle.layouts.specs.Field.{Field, Row, allowed_row, size, encode, decode, row_stored}
use Rattle.layouts.specs.Layout as lay
use Rattle.layouts.specs.Layout.{Layout, HeldRows, SettledRows, allowed_rows, rows_bits, encode_rows, decode_rows, count_in, Body, HeldBody, SettledBody, allowed_body, few_enough, body_bits, body_size, lengths, LengthOf, encode_body, decode_body, Sound}
use Rattle.layouts.specs.Inner.{rows_stored, body_stored}
use Rattle.wire.proofs.Numbers.{bytes_take, bytes_drop, sets-append}
use Rattle.wire.proofs.Stored.{bytes_sets, length-bytes_stored}
use Rattle.padded.proofs.Texts.{before_from, length-split, split_joined}
use Rattle.layouts.proofs.Fields.{again, again_bits, again_settled, allowed_again_row, length-encode, decode_encode, encode_decode, decode_settled, decode_drop, decode_take, decode_append, row_sets, length-row}

-- ---- rows one after the other

-- rows as they come back from their bits
abbrev again_rows : (fs : List Field) → List (Row fs) → List (Row fs)
again_rows fs [] = []
again_rows fs (v ∷ vs) = again fs v ∷ again_rows fs vs

module _ (fs : List Field) where
  again_rows_bits : (vs : List (Row fs)) → HeldRows fs vs → rows_bits fs (again_rows fs vs) ≡ rows_bits fs vs
  again_rows_bits [] h = refl
  again_rows_bits (v ∷ vs) h = ap₂ ◌++◌ (again_bits fs v h.0) (again_rows_bits vs h.1)

  again_rows_settled : (vs : List (Row fs)) → SettledRows fs vs → again_rows fs vs ≡ vs
  again_rows_settled [] h = refl
  again_rows_settled (v ∷ vs) h = ap₂ ◌∷◌ (again_settled fs v h.0) (again_rows_settled vs h.1)

  allowed_again_rows : (vs : List (Row fs)) → HeldRows fs vs → allowed_rows fs (again_rows fs vs) ≡ allowed_rows fs vs
  allowed_again_rows [] h = refl
  allowed_again_rows (v ∷ vs) h = ap₂ ◌&&◌ (allowed_again_row fs v h.0) (allowed_again_rows vs h.1)

  length-again_rows : (vs : List (Row fs)) → length (again_rows fs vs) ≡ length vs
  length-again_rows [] = refl
  length-again_rows (v ∷ vs) = ap suc (length-again_rows vs)

  -- where no row is refused, rows are not
  pub allowed_rows_lem : ((v : Row fs) → allowed_row fs v ≡ true) → (vs : List (Row fs)) → allowed_rows fs vs ≡ true
  allowed_rows_lem any [] = refl
  allowed_rows_lem any (v ∷ vs) = rw (any v) (allowed_rows_lem any vs)

  product : (n : ℕ) → suc n * size fs ≡ size fs + n * size fs
  product n = suc-mul n (size fs) ∙ add_comm (n * size fs) (size fs)

  -- ---- both ways

  pub length-encode_rows : (vs : List (Row fs)) → length (encode_rows fs vs) ≡ length vs * size fs
  length-encode_rows [] = sym (zero-mul (size fs))
  length-encode_rows (v ∷ vs) = length-append (encode fs v) (encode_rows fs vs) ∙ ap₂ ◌+◌ (length-encode fs v) (length-encode_rows vs) ∙ sym (product (length vs))

  decode_encode_rows : (vs : List (Row fs)) → HeldRows fs vs → decode_rows fs (length vs) (encode_rows fs vs) ≡ again_rows fs vs
  decode_encode_rows [] h = refl
  decode_encode_rows (v ∷ vs) h =
      ap₂ ◌∷◌
      (decode_append fs (encode fs v) (encode_rows fs vs) (length-encode fs v) ∙ decode_encode fs v h.0)
      (ap (decode_rows fs (length vs)) (drop_at (encode fs v) (encode_rows fs vs) (size fs) (length-encode fs v)) ∙ decode_encode_rows vs h.1)

  -- the bytes of the run at the front
  front_again : (s : List ℕ) → Bytes s → size fs ≤ length s → encode fs (decode fs s 0) ≡ take (size fs) s
  front_again s b h =
      ap (encode fs) (sym (decode_take fs s)) ∙ encode_decode fs (take (size fs) s) (bytes_take (size fs) s b) (length-take-le (size fs) s h)

  encode_decode_rows : (n : ℕ) (s : List ℕ) → Bytes s → length s ≡ n * size fs → encode_rows fs (decode_rows fs n s) ≡ s
  encode_decode_rows zero [] b e = refl
  encode_decode_rows zero (x ∷ s) b e = absurd (omega (arith, zero-mul (size fs)))
  encode_decode_rows (suc n) s b e =
      let left : length (drop (size fs) s) ≡ n * size fs = rw length-drop (omega (arith, product n)) in
      ap₂ ◌++◌ (front_again s b (omega (arith, product n))) (encode_decode_rows n (drop (size fs) s) (bytes_drop (size fs) s b) left)
      ∙ take-append-drop (size fs) s

  decode_rows_settled : (n : ℕ) (s : List ℕ) → Bytes s → SettledRows fs (decode_rows fs n s)
  decode_rows_settled zero s b = tt
  decode_rows_settled (suc n) s b = (decode_settled fs s 0 b, decode_rows_settled n (drop (size fs) s) (bytes_drop (size fs) s b))

  -- ---- row by row

  pub length-rows : (n : ℕ) (s : List ℕ) → length (decode_rows fs n s) ≡ n
  length-rows zero s = refl
  length-rows (suc n) s = ap suc (length-rows n (drop (size fs) s))

  -- row i of those decoded, at any default, is the row that stands there
  pub row_at : (n : ℕ) (s : List ℕ) (i : ℕ) (d : Row fs) → i < n → get_or (decode_rows fs n s) i d ≡ decode fs s (i * size fs)
  row_at zero s i d h = absurd (not-suc-le-zero h)
  row_at (suc n) s zero d h = rw zero-mul
  row_at (suc n) s (suc i) d h =
      row_at n (drop (size fs) s) i d (le_of_suc-le-suc h)
      ∙ decode_drop fs (drop (size fs) s) (i * size fs)
      ∙ ap (λ (t : List ℕ). decode fs t 0) (drop-drop (i * size fs) (size fs) s ∙ ap (λ (k : ℕ). drop k s) (sym (product i)))
      ∙ sym (decode_drop fs s (suc i * size fs))

  -- ---- stored

  pub length-rows_stored : (vs : List (Row fs)) (s : List ℕ) (at : ℕ) → length (rows_stored fs vs s at) ≡ length s
  length-rows_stored [] s at = refl
  length-rows_stored (v ∷ vs) s at = length-rows_stored vs (row_stored fs v s at) (at + size fs) ∙ length-row fs v s at

  pub rows_sets : (vs : List (Row fs)) (s : List ℕ) (at : ℕ) → at + length vs * size fs ≤ length s → rows_stored fs vs s at ≡ sets s at (encode_rows fs vs)
  rows_sets [] s at h = refl
  rows_sets (v ∷ vs) s at h =
      let room : at + size fs + length vs * size fs ≤ length (row_stored fs v s at) = rw length-row (omega (arith, product (length vs))) in
      rows_sets vs (row_stored fs v s at) (at + size fs) room
      ∙ ap₂ (λ (t : List ℕ) (i : ℕ). sets t i (encode_rows fs vs)) (row_sets fs v s at (omega (arith, product (length vs)))) (ap (λ (k : ℕ). at + k) (sym (length-encode fs v)))
      ∙ sym (sets-append s at (encode fs v) (encode_rows fs vs))

-- ---- a whole body

-- a body as it comes back from its bits
abbrev pub again_body : (l : Layout) → Body l → Body l
again_body (lay.run fs) v = again fs v
again_body (lay.then fs l) v = (again fs v.0, again_body l v.1)
again_body (lay.bytes most) v = v
again_body (lay.text most) v = v
again_body (lay.rows fs most) v = again_rows fs v

pub again_body_bits : (l : Layout) (v : Body l) → HeldBody l v → body_bits l (again_body l v) ≡ body_bits l v
again_body_bits (lay.run fs) v h = again_bits fs v h
again_body_bits (lay.then fs l) v h = ap₂ ◌++◌ (again_bits fs v.0 h.0) (again_body_bits l v.1 h.1)
again_body_bits (lay.bytes most) v h = refl
again_body_bits (lay.text most) v h = refl
again_body_bits (lay.rows fs most) v h = again_rows_bits fs v h

pub again_body_settled : (l : Layout) (v : Body l) → SettledBody l v → again_body l v ≡ v
again_body_settled (lay.run fs) v h = again_settled fs v h
again_body_settled (lay.then fs l) v h = λ i. (again_settled fs v.0 h.0 i, again_body_settled l v.1 h.1 i)
again_body_settled (lay.bytes most) v h = refl
again_body_settled (lay.text most) v h = refl
again_body_settled (lay.rows fs most) v h = again_rows_settled fs v h

pub allowed_again_body : (l : Layout) (v : Body l) → HeldBody l v → allowed_body l (again_body l v) ≡ allowed_body l v
allowed_again_body (lay.run fs) v h = allowed_again_row fs v h
allowed_again_body (lay.then fs l) v h = ap₂ ◌&&◌ (allowed_again_row fs v.0 h.0) (allowed_again_body l v.1 h.1)
allowed_again_body (lay.bytes most) v h = refl
allowed_again_body (lay.text most) v h = refl
allowed_again_body (lay.rows fs most) v h = allowed_again_rows fs v h

-- ---- lengths

-- the test says what the statement says
pub lengths_true : (l : Layout) (n : ℕ) → LengthOf l n → lengths l n ≡ true
lengths_true (lay.run fs) n h = eq-eqb n (size fs) h
lengths_true (lay.then fs l) n h = rw (le-leb (size fs) n h.0) (lengths_true l (n - size fs) h.1)
lengths_true (lay.bytes most) n h = le-leb n most h
lengths_true (lay.text most) n h = le-leb n most h
lengths_true (lay.rows fs most) n h = rw (eq-eqb (n % size fs) 0 h.0) (le-leb (count_in fs n) most h.1)

pub lengths_of : (l : Layout) (n : ℕ) → lengths l n ≡ true → LengthOf l n
lengths_of (lay.run fs) n e = eqb-true n (size fs) e
lengths_of (lay.then fs l) n e = let both = (and-eq-true_iff _ _).0 e in (leb-true (size fs) n both.0, lengths_of l (n - size fs) both.1)
lengths_of (lay.bytes most) n e = leb-true n most e
lengths_of (lay.text most) n e = leb-true n most e
lengths_of (lay.rows fs most) n e = let both = (and-eq-true_iff _ _).0 e in (eqb-true (n % size fs) 0 both.0, leb-true (count_in fs n) most both.1)

pub lengths_false : (l : Layout) (n : ℕ) → (LengthOf l n → ⊥) → lengths l n ≡ false
lengths_false l n h = by (lengths l n) refl
  where
    by : (t : Bool) → lengths l n ≡ t → lengths l n ≡ false
    by true e = absurd (h (lengths_of l n e))
    by false e = e

pub no_length : (l : Layout) (n : ℕ) → lengths l n ≡ false → LengthOf l n → ⊥
no_length l n e h = true≢false (sym (lengths_true l n h) ∙ e)

-- a value that is not too long has a length of the layout
pub size_fits : (l : Layout) (v : Body l) → Sound l → few_enough l v ≡ true → LengthOf l (body_size l v)
size_fits (lay.run fs) v some few = refl
size_fits (lay.then fs l) v some few =
    let rest : size fs + body_size l v.1 - size fs ≡ body_size l v.1 = omega arith in
    (omega arith, rw rest (size_fits l v.1 some few))
size_fits (lay.bytes most) v some few = leb-true (length v) most few
size_fits (lay.text most) v some few = leb-true (length v.0 + length v.1) most few
size_fits (lay.rows fs most) v some few = (mul-mod_left (length v) (size fs), rw (mul-div_cancel (length v) some) (leb-true (length v) most few))

-- whole rows
whole : (fs : List Field) (n : ℕ) → n % size fs ≡ 0 → n ≡ count_in fs n * size fs
whole fs n e = omega (arith, div-add-mod' n (size fs))

-- ---- both ways

pub length-encode_body : (l : Layout) (v : Body l) → length (encode_body l v) ≡ body_size l v
length-encode_body (lay.run fs) v = length-encode fs v
length-encode_body (lay.then fs l) v = length-append (encode fs v.0) (encode_body l v.1) ∙ ap₂ ◌+◌ (length-encode fs v.0) (length-encode_body l v.1)
length-encode_body (lay.bytes most) v = refl
length-encode_body (lay.text most) v = length-append v.0 v.1
length-encode_body (lay.rows fs most) v = length-encode_rows fs v

-- what is allowed and encoded decodes to the same bits
pub decode_encode_body : (l : Layout) (v : Body l) → Sound l → HeldBody l v → allowed_body l v ≡ true → decode_body l (encode_body l v) ≡ again_body l v
decode_encode_body (lay.run fs) v some h ok = decode_encode fs v h
decode_encode_body (lay.then fs l) v some h ok =
    let rest = encode_body l v.1 in
    let first = decode_append fs (encode fs v.0) rest (length-encode fs v.0) ∙ decode_encode fs v.0 h.0 in
    let then = ap (decode_body l) (drop_at (encode fs v.0) rest (size fs) (length-encode fs v.0)) ∙ decode_encode_body l v.1 some h.1 ((and-eq-true_iff (allowed_row fs v.0) (allowed_body l v.1)).0 ok).1 in
    λ i. (first i, then i)
decode_encode_body (lay.bytes most) v some h ok = refl
decode_encode_body (lay.text most) v some h ok =
    let both = (and-eq-true_iff (no_zero v.0) (all_zero v.1)).0 ok in
    let split = split_joined v.0 v.1 both.0 both.1 in
    λ i. (split.0 i, split.1 i)
decode_encode_body (lay.rows fs most) v some h ok =
    ap (λ (n : ℕ). decode_rows fs n (encode_rows fs v)) (ap (count_in fs) (length-encode_rows fs v) ∙ mul-div_cancel (length v) some) ∙ decode_encode_rows fs v h

-- bytes of a length of the layout decode and encode to the same bytes
pub encode_decode_body : (l : Layout) (s : List ℕ) → Bytes s → LengthOf l (length s) → encode_body l (decode_body l s) ≡ s
encode_decode_body (lay.run fs) s b e = encode_decode fs s b e
encode_decode_body (lay.then fs l) s b e =
    ap₂ ◌++◌ (front_again fs s b e.0) (encode_decode_body l (drop (size fs) s) (bytes_drop (size fs) s b) (rw length-drop e.1))
    ∙ take-append-drop (size fs) s
encode_decode_body (lay.bytes most) s b e = refl
encode_decode_body (lay.text most) s b e = before_from s
encode_decode_body (lay.rows fs most) s b e = encode_decode_rows fs (count_in fs (length s)) s b (whole fs (length s) e.0)

-- what is decoded is settled, and not too long
pub decode_body_settled : (l : Layout) (s : List ℕ) → Bytes s → SettledBody l (decode_body l s)
decode_body_settled (lay.run fs) s b = decode_settled fs s 0 b
decode_body_settled (lay.then fs l) s b = (decode_settled fs s 0 b, decode_body_settled l (drop (size fs) s) (bytes_drop (size fs) s b))
decode_body_settled (lay.bytes most) s b = tt
decode_body_settled (lay.text most) s b = tt
decode_body_settled (lay.rows fs most) s b = decode_rows_settled fs (count_in fs (length s)) s b

pub decode_few : (l : Layout) (s : List ℕ) → LengthOf l (length s) → few_enough l (decode_body l s) ≡ true
decode_few (lay.run fs) s e = refl
decode_few (lay.then fs l) s e = decode_few l (drop (size fs) s) (rw length-drop e.1)
decode_few (lay.bytes most) s e = le-leb (length s) most e
decode_few (lay.text most) s e = le-leb _ most (rw length-split e)
decode_few (lay.rows fs most) s e = le-leb _ most (rw length-rows e.1)

-- ---- stored

pub length-body_stored : (l : Layout) (v : Body l) (s : List ℕ) (at : ℕ) → length (body_stored l v s at) ≡ length s
length-body_stored (lay.run fs) v s at = length-row fs v s at
length-body_stored (lay.then fs l) v s at = length-body_stored l v.1 (row_stored fs v.0 s at) (at + size fs) ∙ length-row fs v.0 s at
length-body_stored (lay.bytes most) v s at = length-bytes_stored v s at
length-body_stored (lay.text most) v s at = length-bytes_stored v.1 (bytes_stored v.0 s at) (at + length v.0) ∙ length-bytes_stored v.0 s at
length-body_stored (lay.rows fs most) v s at = length-rows_stored fs v s at

-- a value that has room, stored part after part, is its bytes stored
pub body_sets : (l : Layout) (v : Body l) (s : List ℕ) (at : ℕ) → at + body_size l v ≤ length s → body_stored l v s at ≡ sets s at (encode_body l v)
body_sets (lay.run fs) v s at h = row_sets fs v s at h
body_sets (lay.then fs l) v s at h =
    let room : at + size fs + body_size l v.1 ≤ length (row_stored fs v.0 s at) = rw length-row (omega arith) in
    body_sets l v.1 (row_stored fs v.0 s at) (at + size fs) room
    ∙ ap₂ (λ (t : List ℕ) (i : ℕ). sets t i (encode_body l v.1)) (row_sets fs v.0 s at (omega arith)) (ap (λ (k : ℕ). at + k) (sym (length-encode fs v.0)))
    ∙ sym (sets-append s at (encode fs v.0) (encode_body l v.1))
body_sets (lay.bytes most) v s at h = bytes_sets v s at h
body_sets (lay.text most) v s at h =
    let room : at + length v.0 + length v.1 ≤ length (bytes_stored v.0 s at) = rw length-bytes_stored (omega arith) in
    bytes_sets v.1 (bytes_stored v.0 s at) (at + length v.0) room
    ∙ ap (λ (t : List ℕ). sets t (at + length v.0) v.1) (bytes_sets v.0 s at (omega arith))
    ∙ sym (sets-append s at v.0 v.1)
body_sets (lay.rows fs most) v s at h = rows_sets fs v s at h
