-- Numbers by their bits, the lowest first: one definition over the weight, 2 for a number of bits and 1 for how many are set.
use Rattle.std.proofs.Common.{◌≡◌, ℕ, zero, suc, ◌+◌, ◌*◌, ◌/◌, ◌%◌, ◌^◌, ◌<◌, ◌≤◌, Bool, true, false, cond, eqb, sym, refl, ap, ◌∙◌, ap₂, mod-lt, pow-suc, arith, pow_pos, shr-shr, eq-eqb, ne_eqb}
use native.Mathlib.Nat.{pow-zero}
use lib.Bits.{bit_and, bit_or, and_block, and_mask, and_zero_r, or_disjoint}
use lib.Dec.{eqb-zero-suc, eqb-suc-zero, eqb-suc-suc}
use lib.Pow.{split}
use borrow.Author.Tests.{eqb-false}
use Rattle.wire.specs.Number.{flag_at}

-- k ^ i for each i below n that passes
unfoldable pub weighed : ℕ → ℕ → (ℕ → Bool) → ℕ
weighed k zero f = 0
weighed k (suc n) f = cond (f 0) 1 0 + k * weighed k n (λ i. f (suc i))

pub none_weighed : (k n : ℕ) → weighed k n (λ i. false) ≡ 0
unfolding weighed
none_weighed k zero = refl
none_weighed k (suc n) = omega (arith, ap (λ (w : ℕ). k * w) (none_weighed k n))

-- one more adds its weight
pub one_more : (k n i : ℕ) (f : ℕ → Bool) → i < n → f i ≡ false → weighed k n (λ j. cond (eqb i j) true (f j)) ≡ weighed k n f + k ^ i
unfolding weighed
one_more k zero i f h e = absurd (omega arith)
one_more k (suc n) zero f h e = simp (eqb-zero-suc, e) (omega (arith, pow-zero k))
one_more k (suc n) (suc i) f h e =
    simp (eqb-suc-zero, eqb-suc-suc) (omega (arith, ap (λ (w : ℕ). k * w) (one_more k n i (λ j. f (suc j)) (omega arith) e), pow-suc k i))

-- ---- weight 1

pub one_power : (i : ℕ) → 1 ^ i ≡ 1
one_power zero = pow-zero 1
one_power (suc i) = omega (arith, pow-suc 1 i, one_power i)

one_low : (b : Bool) → cond b 1 0 ≤ 1
one_low true = omega arith
one_low false = omega arith

pub at_most : (n : ℕ) (f : ℕ → Bool) → weighed 1 n f ≤ n
unfolding weighed
at_most zero f = omega arith
at_most (suc n) f = omega (arith, one_low (f 0), at_most n (λ i. f (suc i)))

-- ---- weight 2

lowest : (b : Bool) (w : ℕ) → eqb ((cond b 1 0 + 2 * w) / 1 % 2) 1 ≡ b
lowest true w = eq-eqb ((1 + 2 * w) / 1 % 2) 1 (omega arith)
lowest false w = ne_eqb ((0 + 2 * w) / 1 % 2) 1 (λ e. omega arith)

-- bit i tells of i
pub bit_weighed : (n i : ℕ) (f : ℕ → Bool) → i < n → flag_at (weighed 2 n f) i ≡ f i
unfolding weighed flag_at
bit_weighed zero i f h = absurd (omega arith)
bit_weighed (suc n) zero f h = lowest (f 0) (weighed 2 n (λ i. f (suc i)))
bit_weighed (suc n) (suc i) f h =
    ap (λ (x : ℕ). eqb (x % 2) 1)
    (ap (λ (j : ℕ). weighed 2 (suc n) f / 2 ^ j) (omega arith) ∙ sym (shr-shr (weighed 2 (suc n) f) 1 i) ∙ ap (λ (x : ℕ). x / 2 ^ i) (omega (arith, one_low (f 0))))
    ∙ bit_weighed n i (λ j. f (suc j)) (omega arith)

-- all pass exactly where 1 more is 2 ^ n
pub all_full : (n : ℕ) (f : ℕ → Bool) → ((i : ℕ) → i < n → f i ≡ true) → weighed 2 n f + 1 ≡ 2 ^ n
unfolding weighed
all_full zero f all = refl
all_full (suc n) f all = rw (all 0 (omega arith)) (omega (arith, all_full n (λ i. f (suc i)) (λ i h. all (suc i) (omega arith))))

odd : (b : Bool) (w m : ℕ) → cond b 1 0 + 2 * w + 1 ≡ 2 * m → (b ≡ true) × (w + 1 ≡ m)
odd true w m e = (refl, omega arith)
odd false w m e = absurd (omega arith)

pub full_all : (n : ℕ) (f : ℕ → Bool) → weighed 2 n f + 1 ≡ 2 ^ n → (i : ℕ) → i < n → f i ≡ true
unfolding weighed
full_all zero f e i h = absurd (omega arith)
full_all (suc n) f e zero h = (odd (f 0) (weighed 2 n (λ i. f (suc i))) (2 ^ n) (omega arith)).0
full_all (suc n) f e (suc i) h = full_all n (λ j. f (suc j)) (odd (f 0) (weighed 2 n (λ i. f (suc i))) (2 ^ n) (omega arith)).1 i (omega arith)

-- a bit that is not there is added
pub or_new : (c i : ℕ) → flag_at c i ≡ false → bit_or c (2 ^ i) ≡ c + 2 ^ i
unfolding flag_at
or_new c i e = or_disjoint c (2 ^ i) (parts ∙ and_block i (c / 2 ^ i) 1 (c % 2 ^ i) 0 (mod-lt c (pow_pos i)) (pow_pos i) ∙ none)
  where
    parts : bit_and c (2 ^ i) ≡ bit_and (c / 2 ^ i * 2 ^ i + c % 2 ^ i) (1 * 2 ^ i + 0)
    parts = ap₂ bit_and (sym (split c i)) (omega arith)

    even : c / 2 ^ i % 2 ≡ 0
    even = omega (arith, eqb-false (c / 2 ^ i % 2) 1 e)

    none : bit_and (c / 2 ^ i) 1 * 2 ^ i + bit_and (c % 2 ^ i) 0 ≡ 0
    none = rw (and_mask (c / 2 ^ i) 1, even, and_zero_r (c % 2 ^ i)) (omega arith)
