-- Document 01's columns Type and Length, and its ranges, as numbers: what a payload is tested for before it is read. That the descriptions say
-- the same is proved (proofs/Agreed.antt).
use Rattle.std.specs.Prelude.{ℕ, ◌%◌, ◌≡◌, Bool, true, ◌&&◌, List, [], ◌∷◌, eqb, leb, ℤ, pos, neg_ℤ, length, drop}
use Rattle.std.specs.Int.Signed.{le_z}
use Rattle.wire.specs.Value.{value_at, u8, s32}
use Rattle.padded.specs.Padded.{from_zero, all_zero}
use Rattle.refusals.specs.Refusals.{Tests}
use Rattle.payloads.specs.Payloads.{Entry, table, tests_of}
use Rattle.payloads.specs.declared.check.Check.{Check}
use Rattle.payloads.specs.declared.check.Check.TheVariants.{Length, Ns, Fix, Obs, Log}

-- each type with its length; ns or flags stand at an offset, and the fix mode goes up to the last; of LOG nothing but zeros stands after the text
abbrev pub document : List (ℕ × Check)
document =
    (0x0049, Obs) ∷
    (0x0100, Ns 11 6) ∷
    (0x0206, Length 14) ∷
    (0x0200, Fix 32 31 2) ∷
    (0x0201, Fix 34 33 2) ∷
    (0x0202, Fix 20 19 1) ∷
    (0x0204, Length 20) ∷
    (0x0203, Fix 22 21 1) ∷
    (0x0205, Length 22) ∷
    (0x0207, Fix 10 9 1) ∷
    (0x0044, Length 24) ∷
    (0x0048, Length 24) ∷
    (0x0081, Length 185) ∷
    (0x0082, Length 112) ∷
    (0x0083, Length 112) ∷
    (0x0090, Length 70) ∷
    (0x0091, Length 10) ∷
    (0x0092, Length 14) ∷
    (0x00a1, Length 0) ∷
    (0x00a6, Length 0) ∷
    (0x00a2, Length 2) ∷
    (0xff00, Length 4) ∷
    (0xffff, Length 4) ∷
    (0x0401, Log) ∷
    []

-- the tests of a payload of a known type: its length, its range
abbrev pub tests : Bool → Bool → Tests
tests fits inside = (true, 21) ∷ (fits, 22) ∷ (inside, 23) ∷ []

-- "16k + 7, k 0..15"
abbrev pub obs_long : ℕ → Bool
obs_long n = eqb (n % 16) 7 && leb n 247

-- "1..255"
abbrev pub log_long : ℕ → Bool
log_long n = leb 1 n && leb n 255

-- "ns from -500000 to 500000"
abbrev pub ns_inside : ℤ → Bool
ns_inside ns = le_z (neg_ℤ (pos 500000)) ns && le_z ns (pos 500000)

-- "Fix mode is the low three bits of flags"
abbrev pub mode_inside : ℕ → ℕ → Bool
mode_inside last flags = leb (flags % 8) last

-- after the level, zeros alone from the first zero on
abbrev pub zeros_last : List ℕ → Bool
zeros_last s = all_zero (from_zero (drop 1 s))

abbrev pub tests_by : Check → List ℕ → Tests
tests_by (Length n) s = tests (eqb (length s) n) true
tests_by (Ns n at) s = tests (eqb (length s) n) (ns_inside (value_at s32 s at))
tests_by (Fix n at last) s = tests (eqb (length s) n) (mode_inside last (value_at u8 s at))
tests_by Obs s = tests (obs_long (length s)) true
tests_by Log s = tests (log_long (length s)) (zeros_last s)

-- entry by entry the types are these, and the tests of the descriptions are these
abbrev pub Agrees : List Entry → List (ℕ × Check) → Type 0
Agrees [] [] = Unit {0}
Agrees [] (d ∷ ds) = ⊥
Agrees (e ∷ es) [] = ⊥
Agrees (e ∷ es) (d ∷ ds) = (e.kind ≡ d.0) × ((s : List ℕ) → tests_of e s ≡ tests_by d.1 s) × Agrees es ds

abbrev pub AsInDocument : Type 0
AsInDocument = Agrees table document
