-- The single-bit step goes through xor, and a register of which nothing falls out is doubled.
use mathlib.Core.Path.{◌≡◌, sym, ap, ap₂, ◌∙◌}
use Prim.Native.Nat.{ℕ, ◌*◌, ◌/◌, ◌%◌, ◌<◌}
use native.Mathlib.Nat.{zero-mul}
use native.Mathlib.Omega.{arith}
use lib.Bits.{bit_xor, xor_shr, xor_mod, xor_zero_r, xor_self}
use Rattle.crc.specs.Crc.{bit_step}
use Rattle.crc.proofs.Xor.{Bit, off, on, bit, xor_swap, xor_shl}

moved_linear : (a b : ℕ) → bit_xor a b * 2 % 65536 ≡ bit_xor (a * 2 % 65536) (b * 2 % 65536)
moved_linear a b = ap (λ (x : ℕ). x % 65536) (sym (xor_shl a b 1)) ∙ xor_mod (a * 2) (b * 2) 16

-- added once for each of two bits, p is gone again
times_linear : (p : ℕ) {x y : ℕ} → Bit x → Bit y → bit_xor x y * p ≡ bit_xor (x * p) (y * p)
times_linear p off y = rw (zero-mul p)
times_linear p on off = rw (zero-mul p) (sym (xor_zero_r (1 * p)))
times_linear p on on = rw (zero-mul p) (sym (xor_self (1 * p)))

out_linear : (p a b : ℕ) → bit_xor a b / 32768 % 2 * p ≡ bit_xor (a / 32768 % 2 * p) (b / 32768 % 2 * p)
out_linear p a b =
    ap (λ (x : ℕ). x % 2 * p) (xor_shr a b 15)
    ∙ ap (λ (x : ℕ). x * p) (xor_mod (a / 32768) (b / 32768) 1)
    ∙ times_linear p (bit (a / 32768)) (bit (b / 32768))

pub step_linear : (a b : ℕ) → bit_step (bit_xor a b) ≡ bit_xor (bit_step a) (bit_step b)
unfolding bit_step
step_linear a b = ap₂ bit_xor (moved_linear a b) (out_linear _ a b) ∙ xor_swap (a * 2 % 65536) (b * 2 % 65536) _ _

pub step_low : (lo : ℕ) → lo < 32768 → bit_step lo ≡ lo * 2
unfolding bit_step
step_low lo h =
    let up : lo * 2 % 65536 ≡ lo * 2 = omega arith in
    let out : lo / 32768 % 2 ≡ 0 = omega arith in
    rw (up, out) (xor_zero_r (lo * 2))
