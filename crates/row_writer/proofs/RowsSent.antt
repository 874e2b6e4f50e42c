-- The ways through the writer of a row: refused by its numbers, or packed and sent.
use mathlib.Core.Path.{◌≡◌, refl, sym, ap, ap₂, ◌∙◌, subst⁻¹}
use mathlib.Core.Bool.{Bool, true, false, ◌&&◌, cond, and-eq-true_iff}
use mathlib.Core.List.{List, [], ◌∷◌, ◌++◌}
use Prim.Native.Nat.{ℕ, ◌+◌, ◌≤◌}
use native.Mathlib.Omega.{arith}
use lib.Dec.{eqb}
use lib.ListN.{length, take}
use Rattle.wire.specs.Value.{Format}
use Rattle.layouts.specs.Field.{size, encode}
use Rattle.layouts.specs.Layout.{Layout, Body, HeldBody, allowed_body, body_size, lengths, LengthOf, encode_body}
use Rattle.refusals.specs.Refusals.{refused, given, Answer, Tests, ordered, zero_or}
use Rattle.layouts.proofs.Fields.{row_sets, length-encode}
use Rattle.layouts.proofs.Layouts.{lengths_true, size_fits, length-encode_body}
use Rattle.formats.specs.Wide.{narrow_row, fits_row, number_count}
use Rattle.formats.specs.Digits.{run_stored, front_of}
use Rattle.formats.specs.Inner.{formats_in}
use Rattle.formats.specs.declared.Shape.{Shape}
use Rattle.formats.proofs.Narrow.{Words, held_narrow, stored_narrow}
use Rattle.senders.specs.declared.Writer.{Writer}
use Rattle.frame_writer.specs.Writer.{writing_frame}
use Rattle.payloads.specs.Payloads.{table, entry_for, layout_for, known_for, shape_for, answer_for}
use Rattle.row_writer.specs.WriteRow.{alone, body_of, write_row, row_written}
use Rattle.row_writer.specs.Inner.{testing_row, sent}
use Rattle.row_writer.proofs.Tested.{stands, goes_on, all_pass}
use Rattle.row_writer.proofs.Sends.{LeftBy, left_as, left_alone, left_of}
use Rattle.row_writer.proofs.Runs.{front_sets}
use Rattle.row_writer.proofs.Alone.{FieldsAlone, fields_alone, plain_for, reads_for, formats_shaped}

-- ---- the tests in two lists: of the numbers alone, and those that come after

-- two tests with one number
both_23 : (f x : Bool) (a : Answer ℕ) → cond (f && x) a (refused 23) ≡ cond f (cond x a (refused 23)) (refused 23)
both_23 true x a = refl
both_23 false x a = refl

abbrev after : ℕ → List ℕ → ℕ → Tests
after kind ns room = let l = layout_for kind in (allowed_body l (body_of l ns), 23) ∷ writing_frame (body_size l (body_of l ns)) room

in_parts : (kind : ℕ) (ns : List ℕ) (room : ℕ) → write_row kind ns room ≡ ordered (testing_row kind ns ++ after kind ns room) (body_size (layout_for kind) (body_of (layout_for kind) ns) + 8)
unfolding write_row
in_parts kind ns room =
    let l = layout_for kind in
    let v = body_of l ns in
    ap (λ (a : Answer ℕ). cond (known_for kind && alone l) (cond (eqb (length ns) (number_count l)) a (refused 22)) (refused 21))
    (both_23 (fits_row (front_of l) ns 0) (allowed_body l v) (ordered (writing_frame (body_size l v) room) (body_size l v + 8)))

-- a payload is taken where its last test passes
taken : {A : Type 0} (x : A) (t : Bool) → eqb (zero_or (ordered ((t, 23) ∷ []) x)) 0 ≡ t
taken x true = refl
taken x false = refl

-- ---- the numbers tested

module _ (kind : ℕ) (ns : List ℕ) where
  abbrev Alone : Bool → Type 0
  Alone t = (known_for kind && alone (layout_for kind)) ≡ t

  abbrev Counted : Bool → Type 0
  Counted t = eqb (length ns) (number_count (layout_for kind)) ≡ t

  abbrev Fits : Bool → Type 0
  Fits t = fits_row (front_of (layout_for kind)) ns 0 ≡ t

  module _ {A : Type 0} (x : A) where
    pub is_21 : Alone false → refused 21 ≡ ordered (testing_row kind ns) x
    is_21 p = rw p

    pub is_22 : Alone true → Counted false → refused 22 ≡ ordered (testing_row kind ns) x
    is_22 p q = rw (p, q)

    pub is_23 : Alone true → Counted true → Fits false → refused 23 ≡ ordered (testing_row kind ns) x
    is_23 p q r = rw (p, q, r)

    pub is_given : Alone true → Counted true → Fits true → given x ≡ ordered (testing_row kind ns) x
    is_given p q r = rw (p, q, r)

-- ---- where the numbers fit

-- past the tests
pub record Fitting (kind : ℕ) (ns : List ℕ) : Type 0 where
  pub known : known_for kind ≡ true
  pub only : alone (layout_for kind) ≡ true
  pub counted : eqb (length ns) (number_count (layout_for kind)) ≡ true
  pub fits : fits_row (front_of (layout_for kind)) ns 0 ≡ true
  pub on : (room : ℕ) → write_row kind ns room ≡ ordered (after kind ns room) (body_size (layout_for kind) (body_of (layout_for kind) ns) + 8)

pub fitting : {A : Type 0} (x : A) (kind : ℕ) (ns : List ℕ) {z : A} → given z ≡ ordered (testing_row kind ns) x → Fitting kind ns
fitting x kind ns p =
    let ts = testing_row kind ns in
    let all = (all_pass ts x p).0 in
    let both = (and-eq-true_iff (known_for kind) (alone (layout_for kind))).0 all.0 in record {
      known = both.0;
      only = both.1;
      counted = all.1.0;
      fits = all.1.1.0;
      on = λ room. in_parts kind ns room ∙ goes_on ts (after kind ns room) x (body_size (layout_for kind) (body_of (layout_for kind) ns) + 8) p;
    }

module _ (kind : ℕ) (ns : List ℕ) (words : Words ns) (f : Fitting kind ns) where
  abbrev l : Layout
  l = layout_for kind

  abbrev v : Body l
  v = body_of l ns

  abbrev p : List ℕ
  p = encode_body l v

  is : FieldsAlone l ns
  is = fields_alone l ns f.only

  held : HeldBody l v
  held = is.held (held_narrow ns words (front_of l) 0 (plain_for kind).0 f.fits)

  -- the fields' bytes are taken exactly when the numbers are within their ranges
  accepted : eqb (answer_for kind p) 0 ≡ allowed_body l v
  accepted =
      let e = entry_for table kind in
      let long : lengths l (length p) ≡ true = lengths_true l (length p) (subst⁻¹ (LengthOf l) (length-encode_body l v) (size_fits l v is.sound is.few)) in
      ap₂ (λ (t : Bool) (ts : Tests). eqb (zero_or (ordered ((t, 21) ∷ ts) (e.holds p))) 0) f.known (reads_for kind f.known p)
      ∙ ap₂ (λ (t u : Bool). eqb (zero_or (ordered ((t, 22) ∷ (u, 23) ∷ []) (e.holds p))) 0) long (is.ranged held)
      ∙ taken (e.holds p) (allowed_body l v)

  pub as_sent : (room : ℕ) → write_row kind ns room ≡ sent kind p room
  unfolding sent
  as_sent room = f.on room ∙ ap₂ (λ (t : Bool) (n : ℕ). ordered ((t, 23) ∷ writing_frame n room) (n + 8)) (sym accepted) (sym (length-encode_body l v))

  -- the fields stored from a buffer's start on, by the type's shape
  pub payload_packed : {s : Shape} (buf : List ℕ) {t : List ℕ} {n : ℕ} → s ≡ shape_for kind → n ≡ size (front_of l)
      → t ≡ run_stored (formats_in s) ns 0 buf 0 → 255 ≤ length buf → take n t ≡ p
  payload_packed buf {n = n} e sized q room =
      let fs = front_of l in
      let stored = q ∙ ap (λ (ks : List Format). run_stored ks ns 0 buf 0) (formats_shaped kind e)
      ∙ stored_narrow ns words fs 0 buf 0 (plain_for kind).0 f.fits ∙ row_sets fs (narrow_row fs ns 0) buf 0 (omega (arith, (plain_for kind).1)) in
      ap (take n) stored
      ∙ front_sets (encode fs (narrow_row fs ns 0)) buf n (length-encode fs (narrow_row fs ns 0) ∙ sym sized) (omega (arith, (plain_for kind).1))
      ∙ sym is.encoded

-- ---- what a call leaves

module _ (kind : ℕ) (by : Writer) (ns buf : List ℕ) where
  abbrev pub Wrote : Answer ℕ → List ℕ → Type 0
  Wrote r u = (r ≡ write_row kind ns (length buf)) × (u ≡ row_written kind by ns buf)

  abbrev payload : List ℕ
  payload = encode_body (layout_for kind) (body_of (layout_for kind) ns)

  pub wrote_refused : {A : Type 0} (x : A) {n : ℕ} → refused n ≡ ordered (testing_row kind ns) x → Wrote (refused n) buf
  unfolding row_written
  wrote_refused x p =
      let e = in_parts kind ns (length buf)
      ∙ stands (testing_row kind ns) (after kind ns (length buf)) x (body_size (layout_for kind) (body_of (layout_for kind) ns) + 8) p in
      left_alone kind by buf payload (write_row kind ns (length buf)) e

  pub wrote_sent : Words ns → Fitting kind ns → {q : List ℕ} {r : Answer ℕ} {u : List ℕ} → q ≡ payload
      → LeftBy kind by buf q (sent kind q (length buf)) r u → Wrote r u
  unfolding row_written
  wrote_sent words f e w =
      left_as kind by buf payload (sent kind payload (length buf)) (write_row kind ns (length buf))
      (left_of kind by buf payload (λ q. sent kind q (length buf)) e w) (sym (as_sent kind ns words f (length buf)))
