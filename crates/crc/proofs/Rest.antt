-- What a number leaves in the register: its laws. A number that stands j bits up, `at`, leaves what j steps make of it.
use mathlib.Core.Path.{◌≡◌, refl, sym, ap, ap₂, ◌∙◌}
use Prim.Native.Nat.{ℕ, zero, suc, ◌+◌, ◌*◌, ◌/◌, ◌%◌, ◌^◌, ◌≤◌, ◌<◌}
use native.Mathlib.Nat.{not-suc-le-zero, le_refl, lt_of_lt_of_le, mul_assoc, mul_comm, mul-one, add-zero, mod-lt, pow-suc, div-add-mod'}
use native.Mathlib.Decide.{le_ind}
use native.Mathlib.Omega.{arith}
use lib.Arith.{half_le, bin_ind, lt-one}
use lib.Bits.{bit_xor, xor_shifted, xor_zero_r}
use lib.Pow.{pow-add, pow_mono, split, pow_pos}
use Rattle.crc.specs.Crc.{bit_step, bit_steps}
use Rattle.crc.specs.Inner.{rest_of, rest}
use Rattle.crc.proofs.Xor.{half, lowest, xor_swap, xor_shl}
use Rattle.crc.proofs.Linear.{step_linear, step_low}

-- ---- more bits than a number has leave nothing more

more : (k n : ℕ) → n ≤ k → rest_of (suc k) n ≡ rest_of k n
unfolding rest_of bit_step
more zero zero h = refl
more zero (suc n) h = absurd (not-suc-le-zero h)
more (suc k) n h = ap (λ (x : ℕ). bit_xor (bit_step x) (n % 2)) (more k (n / 2) (half_le h))

enough : (k n : ℕ) → n ≤ k → rest_of k n ≡ rest n
unfolding rest
enough k n h = le_ind (λ (m : ℕ). rest_of m n ≡ rest_of n n) refl (λ m i e. more m n i ∙ e) k h

-- a bit more: a step, and it is added
pub rest_step : (n : ℕ) → rest n ≡ bit_xor (bit_step (rest (n / 2))) (n % 2)
unfolding rest rest_of bit_step
rest_step zero = refl
rest_step (suc n) = ap (λ (x : ℕ). bit_xor (bit_step x) (suc n % 2)) (enough n (suc n / 2) (half_le (le_refl (suc n))))

-- ---- it goes through xor

none : (b : ℕ) → rest b ≡ bit_xor (rest 0) (rest b)
unfolding rest rest_of
none b = refl

pub rest_xor : (a b : ℕ) → rest (bit_xor a b) ≡ bit_xor (rest a) (rest b)
rest_xor =
    bin_ind (λ (a : ℕ). (b : ℕ) → rest (bit_xor a b) ≡ bit_xor (rest a) (rest b)) none
    (λ a ih b.
    rest_step (bit_xor a b)
    ∙ ap₂ (λ (x y : ℕ). bit_xor (bit_step (rest x)) y) (half a b) (lowest a b)
    ∙ ap (λ (x : ℕ). bit_xor (bit_step x) (bit_xor (a % 2) (b % 2))) (ih (b / 2))
    ∙ ap (λ (x : ℕ). bit_xor x (bit_xor (a % 2) (b % 2))) (step_linear (rest (a / 2)) (rest (b / 2)))
    ∙ xor_swap (bit_step (rest (a / 2))) (bit_step (rest (b / 2))) (a % 2) (b % 2)
    ∙ ap₂ bit_xor (sym (rest_step a)) (sym (rest_step b)))

-- ---- up by a bit it leaves what a step makes of it

pub rest_double : (n : ℕ) → rest (n * 2) ≡ bit_step (rest n)
rest_double n =
    let back : n * 2 / 2 ≡ n = omega arith in
    let even : n * 2 % 2 ≡ 0 = omega arith in
    rest_step (n * 2) ∙ ap₂ (λ (x y : ℕ). bit_xor (bit_step (rest x)) y) back even ∙ xor_zero_r (bit_step (rest n))

pub up_double : (n j : ℕ) → n * 2 * 2 ^ j ≡ n * 2 ^ j * 2
up_double n j = mul_assoc n 2 (2 ^ j) ∙ ap (λ (x : ℕ). n * x) (mul_comm 2 (2 ^ j)) ∙ sym (mul_assoc n (2 ^ j) 2)

pub rest_up : (j n : ℕ) → rest (n * 2 ^ j) ≡ bit_steps j (rest n)
unfolding bit_steps
rest_up zero n = ap rest (mul-one n)
rest_up (suc j) n =
    ap rest (ap (λ (x : ℕ). n * x) (pow-suc 2 j) ∙ sym (mul_assoc n (2 ^ j) 2) ∙ sym (up_double n j))
    ∙ rest_up j (n * 2)
    ∙ ap (bit_steps j) (rest_double n)

-- ---- a number that fits the register leaves itself

small : (k n : ℕ) → n < 2 ^ k → k ≤ 16 → rest n ≡ n
unfolding rest rest_of
small zero n h e = ap rest (lt-one h) ∙ sym (lt-one h)
small (suc k) n h e =
    let less : n / 2 < 2 ^ k = omega (arith, pow-suc 2 k) in
    let low : n / 2 < 32768 = lt_of_lt_of_le less (pow_mono {j = 15} (omega arith)) in
    rest_step n
    ∙ ap (λ (x : ℕ). bit_xor (bit_step x) (n % 2)) (small k (n / 2) less (omega arith))
    ∙ ap (λ (x : ℕ). bit_xor x (n % 2)) (step_low (n / 2) low)
    ∙ xor_shifted (n / 2) 1 (n % 2) (omega arith)
    ∙ div-add-mod' n 2

pub rest_small : (n : ℕ) → n < 65536 → rest n ≡ n
rest_small n h = small 16 n h (le_refl 16)

-- ---- a number that stands j bits up

abbrev pub at : ℕ → ℕ → ℕ
at n j = rest (n * 2 ^ j)

pub at_xor : (a b j : ℕ) → at (bit_xor a b) j ≡ bit_xor (at a j) (at b j)
at_xor a b j = ap rest (sym (xor_shl a b j)) ∙ rest_xor (a * 2 ^ j) (b * 2 ^ j)

pub up_up : (n i j : ℕ) → n * 2 ^ i * 2 ^ j ≡ n * 2 ^ (i + j)
up_up n i j = mul_assoc n (2 ^ i) (2 ^ j) ∙ ap (λ (x : ℕ). n * x) (sym (pow-add 2 i j))

pub at_up : (n i j : ℕ) → at (n * 2 ^ i) j ≡ at n (i + j)
at_up n i j = ap rest (up_up n i j)

-- what numbers leave that leave the same, both up by as much
pub at_same : (a b j : ℕ) → rest a ≡ rest b → at a j ≡ at b j
at_same a b j e = rest_up j a ∙ ap (bit_steps j) e ∙ sym (rest_up j b)

-- a number cut in two: what is above bit k stands k bits up
pub at_cut : (n k j : ℕ) → at n j ≡ bit_xor (at (n / 2 ^ k) (k + j)) (at (n % 2 ^ k) j)
at_cut n k j =
    ap (λ (x : ℕ). at x j) (sym (split n k) ∙ sym (xor_shifted (n / 2 ^ k) k (n % 2 ^ k) (mod-lt n (pow_pos k))))
    ∙ at_xor (n / 2 ^ k * 2 ^ k) (n % 2 ^ k) j
    ∙ ap (λ (x : ℕ). bit_xor x (at (n % 2 ^ k) j)) (at_up (n / 2 ^ k) k j)

pub rest_cut : (n k : ℕ) → rest n ≡ bit_xor (at (n / 2 ^ k) k) (rest (n % 2 ^ k))
rest_cut n k =
    ap rest (sym (mul-one n))
    ∙ at_cut n k 0
    ∙ ap₂ (λ (x y : ℕ). bit_xor (at (n / 2 ^ k) x) (rest y)) (add-zero k) (mul-one (n % 2 ^ k))
