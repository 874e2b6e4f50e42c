-- Layouts: what a payload is made of. Runs of fields one after the other, and at the end, where there is more, bytes, a text or rows of the
-- same fields. Each has a value, both ways between the value and bytes, and the lengths that its bytes have.
use Rattle.std.specs.Prelude.{ℕ, zero, suc, ◌+◌, ◌-◌, ◌*◌, ◌/◌, ◌%◌, ◌≤◌, ◌≡◌, Bool, true, ◌&&◌, List, [], ◌∷◌, ◌++◌, leb, eqb, length, drop}
use Rattle.wire.specs.Number.{Bytes}
use Rattle.padded.specs.Padded.{before_zero, from_zero, no_zero, all_zero}
use Rattle.layouts.specs.Field.{Field, Row, HeldRow, SettledRow, allowed_row, row_bits, size, encode, decode}

pub data Layout : Type 0 where
  -- a run of fields, and nothing after it
  run : List Field → Layout
  -- a run of fields, then that layout
  then : List Field → Layout → Layout
  -- bytes to the end, at most so many
  bytes : ℕ → Layout
  -- a text without a zero, then zeros to the end, at most so many bytes together
  text : ℕ → Layout
  -- rows of these fields to the end, at most so many
  rows : List Field → ℕ → Layout

-- ---- rows of the same fields

abbrev pub HeldRows : (fs : List Field) → List (Row fs) → Type 0
HeldRows fs [] = Unit {0}
HeldRows fs (v ∷ vs) = HeldRow fs v × HeldRows fs vs

abbrev pub SettledRows : (fs : List Field) → List (Row fs) → Type 0
SettledRows fs [] = Unit {0}
SettledRows fs (v ∷ vs) = SettledRow fs v × SettledRows fs vs

abbrev pub allowed_rows : (fs : List Field) → List (Row fs) → Bool
allowed_rows fs [] = true
allowed_rows fs (v ∷ vs) = allowed_row fs v && allowed_rows fs vs

abbrev pub rows_bits : (fs : List Field) → List (Row fs) → List ℕ
rows_bits fs [] = []
rows_bits fs (v ∷ vs) = row_bits fs v ++ rows_bits fs vs

abbrev pub encode_rows : (fs : List Field) → List (Row fs) → List ℕ
encode_rows fs [] = []
encode_rows fs (v ∷ vs) = encode fs v ++ encode_rows fs vs

-- the first n rows of s
abbrev pub decode_rows : (fs : List Field) → ℕ → List ℕ → List (Row fs)
decode_rows fs zero s = []
decode_rows fs (suc n) s = decode fs s 0 ∷ decode_rows fs n (drop (size fs) s)

-- how many rows n bytes are
abbrev pub count_in : List Field → ℕ → ℕ
count_in fs n = n / size fs

-- ---- a layout's value

abbrev pub Body : Layout → Type 0
Body (run fs) = Row fs
Body (then fs l) = Row fs × Body l
Body (bytes most) = List ℕ
Body (text most) = List ℕ × List ℕ
Body (rows fs most) = List (Row fs)

abbrev pub HeldBody : (l : Layout) → Body l → Type 0
HeldBody (run fs) v = HeldRow fs v
HeldBody (then fs l) v = HeldRow fs v.0 × HeldBody l v.1
HeldBody (bytes most) v = Bytes v
HeldBody (text most) v = Bytes v.0 × Bytes v.1
HeldBody (rows fs most) v = HeldRows fs v

abbrev pub SettledBody : (l : Layout) → Body l → Type 0
SettledBody (run fs) v = SettledRow fs v
SettledBody (then fs l) v = SettledRow fs v.0 × SettledBody l v.1
SettledBody (bytes most) v = Unit {0}
SettledBody (text most) v = Unit {0}
SettledBody (rows fs most) v = SettledRows fs v

-- every ranged field is in its range; a text has no zero in it, and nothing but zeros after it
abbrev pub allowed_body : (l : Layout) → Body l → Bool
allowed_body (run fs) v = allowed_row fs v
allowed_body (then fs l) v = allowed_row fs v.0 && allowed_body l v.1
allowed_body (bytes most) v = true
allowed_body (text most) v = no_zero v.0 && all_zero v.1
allowed_body (rows fs most) v = allowed_rows fs v

-- there are no more bytes or rows than the most
abbrev pub few_enough : (l : Layout) → Body l → Bool
few_enough (run fs) v = true
few_enough (then fs l) v = few_enough l v.1
few_enough (bytes most) v = leb (length v) most
few_enough (text most) v = leb (length v.0 + length v.1) most
few_enough (rows fs most) v = leb (length v) most

-- the bits of each value
abbrev pub body_bits : (l : Layout) → Body l → List ℕ
body_bits (run fs) v = row_bits fs v
body_bits (then fs l) v = row_bits fs v.0 ++ body_bits l v.1
body_bits (bytes most) v = v
body_bits (text most) v = v.0 ++ v.1
body_bits (rows fs most) v = rows_bits fs v

-- ---- and its bytes

-- how many bytes a value takes
abbrev pub body_size : (l : Layout) → Body l → ℕ
body_size (run fs) v = size fs
body_size (then fs l) v = size fs + body_size l v.1
body_size (bytes most) v = length v
body_size (text most) v = length v.0 + length v.1
body_size (rows fs most) v = length v * size fs

-- n bytes can be a value: the length of a run alone is its own, bytes and texts go up to the most, and rows are whole and go up to the most
abbrev pub lengths : Layout → ℕ → Bool
lengths (run fs) n = eqb n (size fs)
lengths (then fs l) n = leb (size fs) n && lengths l (n - size fs)
lengths (bytes most) n = leb n most
lengths (text most) n = leb n most
lengths (rows fs most) n = eqb (n % size fs) 0 && leb (count_in fs n) most

-- the same as a statement
abbrev pub LengthOf : Layout → ℕ → Type 0
LengthOf (run fs) n = n ≡ size fs
LengthOf (then fs l) n = (size fs ≤ n) × LengthOf l (n - size fs)
LengthOf (bytes most) n = n ≤ most
LengthOf (text most) n = n ≤ most
LengthOf (rows fs most) n = (n % size fs ≡ 0) × (count_in fs n ≤ most)

-- the bytes of a value
abbrev pub encode_body : (l : Layout) → Body l → List ℕ
encode_body (run fs) v = encode fs v
encode_body (then fs l) v = encode fs v.0 ++ encode_body l v.1
encode_body (bytes most) v = v
encode_body (text most) v = v.0 ++ v.1
encode_body (rows fs most) v = encode_rows fs v

-- the value that bytes are
abbrev pub decode_body : (l : Layout) → List ℕ → Body l
decode_body (run fs) s = decode fs s 0
decode_body (then fs l) s = (decode fs s 0, decode_body l (drop (size fs) s))
decode_body (bytes most) s = s
decode_body (text most) s = (before_zero s, from_zero s)
decode_body (rows fs most) s = decode_rows fs (count_in fs (length s)) s

-- rows take some bytes each, so that bytes say how many rows they are
abbrev pub Sound : Layout → Type 0
Sound (run fs) = Unit {0}
Sound (then fs l) = Sound l
Sound (bytes most) = Unit {0}
Sound (text most) = Unit {0}
Sound (rows fs most) = suc zero ≤ size fs

-- ---- two runs as one

-- a row of this run, then one of that
abbrev pub joined : (fs gs : List Field) → Row fs → Row gs → Row (fs ++ gs)
joined [] gs v w = w
joined (f ∷ fs) gs v w = (v.0, joined fs gs v.1 w)
