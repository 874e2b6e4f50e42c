-- T^(16 s) = T^(12 s) + T^(5 s) + 1 for every power of two s, said of what numbers leave.
use mathlib.Core.Path.{◌≡◌, refl, sym, ap, ap₂, ◌∙◌}
use Prim.Native.Nat.{ℕ, ◌+◌, ◌*◌, ◌/◌, ◌%◌, ◌^◌}
use native.Mathlib.Nat.{zero-add, mul-one, div-add-mod'}
use native.Mathlib.Omega.{arith}
use lib.Arith.{bin_ind}
use lib.Bits.{bit_xor, xor_shifted}
use Rattle.crc.specs.Crc.{bit_step, bit_steps}
use Rattle.crc.specs.Inner.{rest, rest_of}
use Rattle.crc.proofs.Xor.{Bit, off, on, bit, xor_assoc, xor_left, xor_back, xor_swap}
use Rattle.crc.proofs.Linear.{step_linear}
use Rattle.crc.proofs.Rest.{rest_double, rest_up, at, at_xor, at_up, up_double}

-- what stands 16 s bits up may be added 12 s, 5 s and 0 bits up instead
abbrev pub Turning : ℕ → Type 0
Turning s = (n j : ℕ) → at n (j + 16 * s) ≡ bit_xor (at n (j + 12 * s)) (bit_xor (at n (j + 5 * s)) (at n j))

-- and where it ends
pub turned_down : (s : ℕ) → Turning s → (n : ℕ) → at n (16 * s) ≡ bit_xor (at n (12 * s)) (bit_xor (at n (5 * s)) (rest n))
turned_down s turn n =
    simp zero-add at (turn n 0) ∙ ap (λ (x : ℕ). bit_xor (at n (12 * s)) (bit_xor (at n (5 * s)) (rest x))) (mul-one n)

-- ---- s = 1, bit by bit

at_step : (n j : ℕ) → at n j ≡ bit_xor (bit_step (at (n / 2) j)) (at (n % 2) j)
at_step n j =
    ap (λ (x : ℕ). at x j) (sym (div-add-mod' n 2) ∙ sym (xor_shifted (n / 2) 1 (n % 2) (omega arith)))
    ∙ at_xor (n / 2 * 2) (n % 2) j
    ∙ ap (λ (x : ℕ). bit_xor x (at (n % 2) j)) (ap rest (up_double (n / 2) j) ∙ rest_double (n / 2 * 2 ^ j))

of_bit : {x : ℕ} → Bit x → at x 16 ≡ bit_xor (at x 12) (bit_xor (at x 5) (at x 0))
unfolding bit_step bit_steps rest rest_of
of_bit off = refl
of_bit on = rest_up 16 1 ∙ sym (ap₂ (λ (x y : ℕ). bit_xor x (bit_xor y 1)) (rest_up 12 1) (rest_up 5 1))

of_bits : (n : ℕ) → at n 16 ≡ bit_xor (at n 12) (bit_xor (at n 5) (at n 0))
of_bits =
    bin_ind (λ (n : ℕ). at n 16 ≡ bit_xor (at n 12) (bit_xor (at n 5) (at n 0))) (of_bit off)
    (λ n ih.
    let h = n / 2 in
    let b = n % 2 in
    at_step n 16
    ∙ ap₂ (λ (x y : ℕ). bit_xor (bit_step x) y) ih (of_bit (bit n))
    ∙ ap (λ (x : ℕ). bit_xor x (bit_xor (at b 12) (bit_xor (at b 5) (at b 0))))
    (step_linear (at h 12) (bit_xor (at h 5) (at h 0)) ∙ ap (bit_xor (bit_step (at h 12))) (step_linear (at h 5) (at h 0)))
    ∙ xor_swap (bit_step (at h 12)) (bit_xor (bit_step (at h 5)) (bit_step (at h 0))) (at b 12) (bit_xor (at b 5) (at b 0))
    ∙ ap (bit_xor (bit_xor (bit_step (at h 12)) (at b 12))) (xor_swap (bit_step (at h 5)) (bit_step (at h 0)) (at b 5) (at b 0))
    ∙ sym (ap₂ bit_xor (at_step n 12) (ap₂ bit_xor (at_step n 5) (at_step n 0))))

pub turning_1 : Turning 1
turning_1 n j =
    sym (at_up n j 16)
    ∙ of_bits (n * 2 ^ j)
    ∙ ap₂ bit_xor (at_up n j 12) (ap₂ bit_xor (at_up n j 5) (ap rest (mul-one (n * 2 ^ j))))

-- ---- squared: the mixed terms are there twice

twice_gone : (p r t u v : ℕ) {q q₁ : ℕ} → q₁ ≡ q
    → bit_xor (bit_xor p (bit_xor q₁ r)) (bit_xor (bit_xor q (bit_xor t u)) (bit_xor r (bit_xor u v))) ≡ bit_xor p (bit_xor t v)
twice_gone p r t u v e = rw e (simp (xor_assoc, xor_left, xor_back))

-- 16 s and 16 s more: three terms, and three of each
pub twice : (s : ℕ) → Turning s → Turning (s * 2)
twice s turn n j =
    ap (at n) (omega arith)
    ∙ turn n (j + 16 * s)
    ∙ ap₂ bit_xor (ap (at n) (omega arith) ∙ turn n (j + 12 * s)) (ap₂ bit_xor (ap (at n) (omega arith) ∙ turn n (j + 5 * s)) (turn n j))
    ∙ twice_gone (at n (j + 12 * s + 12 * s)) (at n (j + 12 * s)) (at n (j + 5 * s + 5 * s)) (at n (j + 5 * s)) (at n j) (ap (at n) (omega arith))
    ∙ ap₂ (λ (x y : ℕ). bit_xor (at n x) (bit_xor (at n y) (at n j))) (omega arith) (omega arith)

pub turning_4 : Turning 4
turning_4 = twice 2 (twice 1 turning_1)

pub turning_8 : Turning 8
turning_8 = twice 4 turning_4

pub turning_16 : Turning 16
turning_16 = twice 8 turning_8
