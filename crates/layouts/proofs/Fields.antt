-- Both round trips, once for every description of fields: what is encoded decodes to the same bits, and bytes of the right length decode
-- and encode to the same bytes. And a row stored value after value is its bytes stored.
use mathlib.Core.Path.{◌≡◌, refl, sym, ap, ap₂, ◌∙◌}
use mathlib.Core.Bool.{Bool, ◌&&◌, and_assoc}
use mathlib.Core.List.{List, [], ◌∷◌, ◌++◌, append_assoc}
use Prim.Native.Nat.{ℕ, zero, suc, ◌+◌, ◌/◌, ◌^◌, ◌≤◌, ◌<◌}
use native.Mathlib.Nat.{suc-ne-zero, zero-add, add-zero, suc-add, add_assoc}
use native.Mathlib.Omega.{arith}
use lib.IntN.{ℤ}
use lib.Signed.{mag}
use lib.ListN.{length, take, drop, length-append, length-drop, take-append-drop}
use lib.Seq.{sets, drop-drop, take-nil, take-take, take_at, drop_at, length-take-le}
use mir.Syntax.{Width, w8, w16, w32, w64, w128}
use mir.Val.{bits, hbits, SFits, to_z, of_z}
use mir.ValLaws.{to_z-of_z, of_z-to_z, of_z_fits}
use Rattle.wire.specs.Number.{Bytes, little, bytes_of, number_at, stored_at}
use Rattle.wire.specs.Value.{Format, unsigned, signed, double, width, Value, Held, bits_of, value_of, value_at, value_stored, Settled}
use Rattle.layouts.specs.Field.{Field, any, ranged, ranged_signed, format_of, allowed, Row, HeldRow, SettledRow, allowed_row, row_bits, size, encode, decode, row_stored}
use Rattle.layouts.specs.Layout.{joined}
use Rattle.wire.proofs.Numbers.{bytes_take, bytes_drop, little_lt, number_lt, length-bytes_of, little_bytes_of, bytes_of_little, stored_sets, length-stored, sets-append}
use Rattle.wire.proofs.Doubles.{bits_double_of, double_bits_lt}

-- ---- one value

digits : (w : Width) → 2 ^ bits w ≡ 256 ^ (bits w / 8)
digits w8 = refl
digits w16 = refl
digits w32 = refl
digits w64 = refl
digits w128 = refl

-- a value's bits fit its bytes
bits_lt : (k : Format) (v : Value k) → Held k v → bits_of k v < 256 ^ width k
bits_lt (unsigned w) n h = rw (← digits w) h.fits
bits_lt (signed w) z h = rw (← digits w) (of_z_fits w z h).fits
bits_lt double d h = double_bits_lt d h.0 h.1

-- bits that are read come back
bits_value : (k : Format) (n : ℕ) → n < 256 ^ width k → bits_of k (value_of k n) ≡ n
bits_value (unsigned w) n h = refl
bits_value (signed w) n h = of_z-to_z w n (record { fits = rw digits h })
bits_value double n h = bits_double_of n h

-- whole numbers are settled, unsigned ones by computation, and so is whatever is read
pub signed_settled : (w : Width) (z : ℤ) → SFits w z → Settled (signed w) z
signed_settled w z h = to_z-of_z w z h

value_settled : (k : Format) (n : ℕ) → n < 256 ^ width k → Settled k (value_of k n)
value_settled k n h = ap (value_of k) (bits_value k n h)

-- ---- rows

-- a row as it comes back from its bits
abbrev pub again : (fs : List Field) → Row fs → Row fs
again [] v = tt
again (f ∷ fs) v = (value_of (format_of f) (bits_of (format_of f) v.0), again fs v.1)

pub again_bits : (fs : List Field) (v : Row fs) → HeldRow fs v → row_bits fs (again fs v) ≡ row_bits fs v
again_bits [] v h = refl
again_bits (f ∷ fs) v h =
    ap₂ (λ (n : ℕ) (ns : List ℕ). n ∷ ns) (bits_value (format_of f) (bits_of (format_of f) v.0) (bits_lt (format_of f) v.0 h.0)) (again_bits fs v.1 h.1)

pub again_settled : (fs : List Field) (v : Row fs) → SettledRow fs v → again fs v ≡ v
again_settled [] v h = refl
again_settled (f ∷ fs) v h = λ i. (h.0 i, again_settled fs v.1 h.1 i)

-- a range test says the same of the row that comes back
allowed_again : (f : Field) (v : Value (format_of f)) → Held (format_of f) v → allowed f (value_of (format_of f) (bits_of (format_of f) v)) ≡ allowed f v
allowed_again (any k) v h = refl
allowed_again (ranged w ok) n h = refl
allowed_again (ranged_signed w ok) z h = ap ok (to_z-of_z w z h)

pub allowed_again_row : (fs : List Field) (v : Row fs) → HeldRow fs v → allowed_row fs (again fs v) ≡ allowed_row fs v
allowed_again_row [] v h = refl
allowed_again_row (f ∷ fs) v h = ap₂ ◌&&◌ (allowed_again f v.0 h.0) (allowed_again_row fs v.1 h.1)

-- ---- both ways

pub length-encode : (fs : List Field) (v : Row fs) → length (encode fs v) ≡ size fs
length-encode [] v = refl
length-encode (f ∷ fs) v =
    length-append (bytes_of (width (format_of f)) (bits_of (format_of f) v.0)) (encode fs v.1)
    ∙ ap₂ ◌+◌ (length-bytes_of (width (format_of f)) (bits_of (format_of f) v.0)) (length-encode fs v.1)

-- decoding at an offset is decoding what stands from there on
abbrev decode_front : (fs : List Field) → List ℕ → Row fs
decode_front [] t = tt
decode_front (f ∷ fs) t = (value_of (format_of f) (little (take (width (format_of f)) t)), decode_front fs (drop (width (format_of f)) t))

decode_front_lem : (fs : List Field) (s : List ℕ) (at : ℕ) → decode fs s at ≡ decode_front fs (drop at s)
unfolding number_at
decode_front_lem [] s at = refl
decode_front_lem (f ∷ fs) s at =
    ap (λ (r : Row fs). (value_at (format_of f) s at, r))
    (decode_front_lem fs s (at + width (format_of f)) ∙ ap (decode_front fs) (sym (drop-drop (width (format_of f)) at s)))

front_encode : (fs : List Field) (v : Row fs) → HeldRow fs v → decode_front fs (encode fs v) ≡ again fs v
front_encode [] v h = refl
front_encode (f ∷ fs) v h =
    let k = format_of f in
    let bs = bytes_of (width k) (bits_of k v.0) in
    let first : little (take (width k) (bs ++ encode fs v.1)) ≡ bits_of k v.0
    = ap little (take_at bs (encode fs v.1) (width k) (length-bytes_of (width k) (bits_of k v.0))) ∙ little_bytes_of (width k) (bits_of k v.0) (bits_lt k v.0 h.0) in
    let rest : decode_front fs (drop (width k) (bs ++ encode fs v.1)) ≡ again fs v.1
    = ap (decode_front fs) (drop_at bs (encode fs v.1) (width k) (length-bytes_of (width k) (bits_of k v.0))) ∙ front_encode fs v.1 h.1 in
    λ i. (value_of k (first i), rest i)

-- what is encoded decodes to the same bits
pub decode_encode : (fs : List Field) (v : Row fs) → HeldRow fs v → decode fs (encode fs v) 0 ≡ again fs v
decode_encode fs v h = decode_front_lem fs (encode fs v) 0 ∙ front_encode fs v h

front_encoded : (fs : List Field) (t : List ℕ) → Bytes t → length t ≡ size fs → encode fs (decode_front fs t) ≡ t
front_encoded [] [] h e = refl
front_encoded [] (b ∷ t) h e = absurd (suc-ne-zero (length t) e)
front_encoded (f ∷ fs) t h e =
    let k = format_of f in
    let w = width (format_of f) in
    let whole : length (take w t) ≡ w = length-take-le w t (omega arith) in
    let first : bytes_of w (bits_of k (value_of k (little (take w t)))) ≡ take w t
    = ap (bytes_of w) (bits_value k (little (take w t)) (little_lt w t h))
    ∙ ap (λ (n : ℕ). bytes_of n (little (take w t))) (sym whole)
    ∙ bytes_of_little (take w t) (bytes_take w t h) in
    let left : length (drop w t) ≡ size fs = rw length-drop (omega arith) in
    ap₂ ◌++◌ first (front_encoded fs (drop w t) (bytes_drop w t h) left) ∙ take-append-drop w t

-- bytes of the right length decode and encode to the same bytes
pub encode_decode : (fs : List Field) (s : List ℕ) → Bytes s → length s ≡ size fs → encode fs (decode fs s 0) ≡ s
encode_decode fs s h e = ap (encode fs) (decode_front_lem fs s 0) ∙ front_encoded fs s h e

-- what is decoded is settled
pub decode_settled : (fs : List Field) (s : List ℕ) (at : ℕ) → Bytes s → SettledRow fs (decode fs s at)
decode_settled [] s at h = tt
decode_settled (f ∷ fs) s at h = (value_settled (format_of f) (number_at (width (format_of f)) s at) (number_lt (width (format_of f)) s at h), decode_settled fs s (at + width (format_of f)) h)

-- ---- a row among other bytes

-- at an offset it is the row of what stands from there on
pub decode_drop : (fs : List Field) (s : List ℕ) (at : ℕ) → decode fs s at ≡ decode fs (drop at s) 0
decode_drop fs s at = decode_front_lem fs s at ∙ sym (decode_front_lem fs (drop at s) 0)

drop-take : (n m : ℕ) (t : List ℕ) → drop n (take (n + m) t) ≡ take m (drop n t)
drop-take zero m t = rw zero-add
drop-take (suc n) m [] = rw suc-add (sym (take-nil m))
drop-take (suc n) m (b ∷ t) = rw suc-add (drop-take n m t)

-- and only its own bytes count
front_take : (fs : List Field) (t : List ℕ) (m : ℕ) → decode_front fs (take (size fs + m) t) ≡ decode_front fs t
front_take [] t m = refl
front_take (f ∷ fs) t m =
    let w = width (format_of f) in
    let split : w + size fs + m ≡ w + (size fs + m) = omega arith in
    let first : take w (take (w + size fs + m) t) ≡ take w t = take-take w (w + size fs + m) t (omega arith) in
    let rest : decode_front fs (drop w (take (w + size fs + m) t)) ≡ decode_front fs (drop w t)
    = ap (λ (k : ℕ). decode_front fs (drop w (take k t))) split ∙ ap (decode_front fs) (drop-take w (size fs + m) t) ∙ front_take fs (drop w t) m in
    λ i. (value_of (format_of f) (little (first i)), rest i)

pub decode_take : (fs : List Field) (s : List ℕ) → decode fs (take (size fs) s) 0 ≡ decode fs s 0
decode_take fs s =
    decode_front_lem fs (take (size fs) s) 0
    ∙ ap (λ (k : ℕ). decode_front fs (take k s)) (sym (add-zero (size fs)))
    ∙ front_take fs s 0
    ∙ sym (decode_front_lem fs s 0)

-- what stands after them does not
pub decode_append : (fs : List Field) (s t : List ℕ) → length s ≡ size fs → decode fs (s ++ t) 0 ≡ decode fs s 0
decode_append fs s t e = sym (decode_take fs (s ++ t)) ∙ ap (λ (u : List ℕ). decode fs u 0) (take_at s t (size fs) e)

-- ---- two runs as one

module _ (gs : List Field) where
  pub size_joined : (fs : List Field) → size (fs ++ gs) ≡ size fs + size gs
  size_joined [] = sym (zero-add (size gs))
  size_joined (f ∷ fs) = ap (λ (n : ℕ). width (format_of f) + n) (size_joined fs) ∙ sym (add_assoc (width (format_of f)) (size fs) (size gs))

  pub encode_joined : (fs : List Field) (v : Row fs) (w : Row gs) → encode (fs ++ gs) (joined fs gs v w) ≡ encode fs v ++ encode gs w
  encode_joined [] v w = refl
  encode_joined (f ∷ fs) v w =
      let bs = bytes_of (width (format_of f)) (bits_of (format_of f) v.0) in
      ap (λ (t : List ℕ). bs ++ t) (encode_joined fs v.1 w) ∙ sym (append_assoc bs (encode fs v.1) (encode gs w))

  pub decode_joined : (fs : List Field) (s : List ℕ) (at : ℕ) → decode (fs ++ gs) s at ≡ joined fs gs (decode fs s at) (decode gs s (at + size fs))
  decode_joined [] s at = ap (decode gs s) (sym (add-zero at))
  decode_joined (f ∷ fs) s at =
      let k = format_of f in
      ap (λ (r : Row (fs ++ gs)). (value_at k s at, r))
      (decode_joined fs s (at + width k) ∙ ap (λ (n : ℕ). joined fs gs (decode fs s (at + width k)) (decode gs s n)) (add_assoc at (width k) (size fs)))

  pub stored_joined : (fs : List Field) (v : Row fs) (w : Row gs) (s : List ℕ) (at : ℕ)
      → row_stored (fs ++ gs) (joined fs gs v w) s at ≡ row_stored gs w (row_stored fs v s at) (at + size fs)
  stored_joined [] v w s at = ap (row_stored gs w s) (sym (add-zero at))
  stored_joined (f ∷ fs) v w s at =
      let k = format_of f in
      stored_joined fs v.1 w (value_stored k v.0 s at) (at + width k)
      ∙ ap (row_stored gs w (row_stored fs v.1 (value_stored k v.0 s at) (at + width k))) (add_assoc at (width k) (size fs))

  pub allowed_joined : (fs : List Field) (v : Row fs) (w : Row gs) → allowed_row (fs ++ gs) (joined fs gs v w) ≡ (allowed_row fs v && allowed_row gs w)
  allowed_joined [] v w = refl
  allowed_joined (f ∷ fs) v w = ap (λ (t : Bool). allowed f v.0 && t) (allowed_joined fs v.1 w) ∙ sym (and_assoc (allowed f v.0) (allowed_row fs v.1) (allowed_row gs w))

-- ---- storing

-- a row that has room, stored value after value, is its bytes stored
pub row_sets : (fs : List Field) (v : Row fs) (s : List ℕ) (at : ℕ) → at + size fs ≤ length s → row_stored fs v s at ≡ sets s at (encode fs v)
row_sets [] v s at h = refl
row_sets (f ∷ fs) v s at h =
    let w = width (format_of f) in
    let n = bits_of (format_of f) v.0 in
    let room : at + w + size fs ≤ length (stored_at w n s at) = rw length-stored (omega arith) in
    row_sets fs v.1 (stored_at w n s at) (at + w) room
    ∙ ap₂ (λ (t : List ℕ) (i : ℕ). sets t i (encode fs v.1)) (stored_sets w n s at (omega arith)) (ap (λ (x : ℕ). at + x) (sym (length-bytes_of w n)))
    ∙ sym (sets-append s at (bytes_of w n) (encode fs v.1))

-- one store more: s as it was found to be, then a value stored in it
pub then : {s t u : List ℕ} (w n at : ℕ) → t ≡ s → u ≡ stored_at w n t at → u ≡ stored_at w n s at
then w n at p q = q ∙ ap (λ (t : List ℕ). stored_at w n t at) p

-- the same for a signed value as the machine hands it over
pub then_signed : {s t u : List ℕ} (v : Width) (z : ℤ) (at : ℕ) → mag z < 2 ^ hbits v → t ≡ s → u ≡ stored_at (bits v / 8) (of_z v (to_z v (of_z v z))) t at → u ≡ stored_at (bits v / 8) (of_z v z) s at
then_signed v z at h p q = then (bits v / 8) (of_z v z) at p (rw (to_z-of_z v z (record { sfits = h })) at q)

pub length-row : (fs : List Field) (v : Row fs) (s : List ℕ) (at : ℕ) → length (row_stored fs v s at) ≡ length s
length-row [] v s at = refl
length-row (f ∷ fs) v s at = length-row fs v.1 (value_stored (format_of f) v.0 s at) (at + width (format_of f)) ∙ length-stored (width (format_of f)) (bits_of (format_of f) v.0) s at
