-- The carrier phase and its pair, each the other's inverse over the whole range.
use mathlib.Core.Path.{◌≡◌, refl, sym, ap, ◌∙◌}
use mathlib.Core.Bool.{cond, true, and-true}
use Prim.Native.Nat.{ℕ, suc, ◌+◌, ◌-◌, ◌*◌, ◌/◌, ◌%◌, ◌^◌, ◌<◌}
use native.Mathlib.Omega.{arith}
use lib.Dec.{leb}
use lib.IntN.{ℤ, pos, negsuc, neg_ℤ, ◌+ℤ◌}
use lib.Signed.{mag}
use borrow.Author.Tests.{lt-ltb, le-leb, leb-true}
use Rattle.phases.specs.Phase.{phase_of, in_phase, parts_of}
use Rattle.phases.specs.declared.phase.Phase.{Phase}

abbrev pair : ℤ → ℕ → Phase
pair i f = record { l_i = i; l_f = f }

-- below zero too the phase grows with L.f
below_zero : (a f : ℕ) → f < 256 → phase_of (pair (negsuc a) f) ≡ negsuc (256 * a + (255 - f))
below_zero a f h =
    let product : 256 * suc a ≡ suc (256 * a + 255) = omega arith in
    let less : f < suc (256 * a + 255) = omega arith in
    let left : suc (256 * a + 255) - suc f ≡ 256 * a + (255 - f) = omega arith in
    ap (λ (n : ℕ). neg_ℤ (pos n) +ℤ pos f) product
    ∙ ap (λ t. cond t (negsuc (suc (256 * a + 255) - suc f)) (pos (f - suc (256 * a + 255)))) (lt-ltb f (suc (256 * a + 255)) less)
    ∙ ap negsuc left

-- ---- both ways

-- a phase taken apart and put together
pub phase_parts : (z : ℤ) → phase_of (parts_of z) ≡ z
phase_parts (pos n) = ap pos (omega arith)
phase_parts (negsuc n) =
    let low : 255 - n % 256 < 256 = omega arith in
    let back : 256 * (n / 256) + (255 - (255 - n % 256)) ≡ n = omega arith in
    below_zero (n / 256) (255 - n % 256) low ∙ ap negsuc back

-- a pair put together and taken apart, so no phase has two pairs
pair_back : (i : ℤ) (f : ℕ) → f < 256 → parts_of (phase_of (pair i f)) ≡ pair i f
pair_back (pos a) f h =
    let high : (256 * a + f) / 256 ≡ a = omega arith in
    let low : (256 * a + f) % 256 ≡ f = omega arith in
    λ j. pair (pos (high j)) (low j)
pair_back (negsuc a) f h =
    let n = 256 * a + (255 - f) in
    let high : n / 256 ≡ a = omega arith in
    let low : 255 - n % 256 ≡ f = omega arith in
    ap parts_of (below_zero a f h) ∙ (λ j. pair (negsuc (high j)) (low j))

pub parts_phase : (p : Phase) → p.l_f < 256 → parts_of (phase_of p) ≡ p
parts_phase p h = pair_back p.l_i p.l_f h

-- ---- the range

-- the last phase; the first is -1 - last
abbrev pub last : ℕ
last = 549755813887

pub in_range : (z : ℤ) → in_phase z ≡ leb (mag z) last
in_range (pos n) = refl
in_range (negsuc n) = and-true (leb n last)

pair_lt : (i : ℤ) (f : ℕ) → mag i < 2 ^ 31 → f < 256 → mag (phase_of (pair i f)) < 2 ^ 39
pair_lt (pos a) f hi hf = omega arith
pair_lt (negsuc a) f hi hf = rw (below_zero a f hf) (omega arith)

-- the phase of a pair as an observation has it is in the range
pub phase_lt : (p : Phase) → mag p.l_i < 2 ^ 31 → p.l_f < 256 → mag (phase_of p) < 2 ^ 39
phase_lt p hi hf = pair_lt p.l_i p.l_f hi hf

pub phase_in : (p : Phase) → mag p.l_i < 2 ^ 31 → p.l_f < 256 → in_phase (phase_of p) ≡ true
phase_in p hi hf = in_range (phase_of p) ∙ le-leb (mag (phase_of p)) last (omega (arith, phase_lt p hi hf))

-- and an observation has the pair of a phase in the range
pub parts_in : (z : ℤ) → in_phase z ≡ true → (mag (parts_of z).l_i < 2 ^ 31) × ((parts_of z).l_f < 256)
parts_in (pos n) e = omega (arith, leb-true n last e)
parts_in (negsuc n) e = omega (arith, leb-true n last (sym (in_range (negsuc n)) ∙ e))
