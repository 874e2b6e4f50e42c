-- The CRC is the remainder: a quotient is made bit by bit, as the register is, and what a number leaves is told by `rest`.
use mathlib.Core.Path.{◌≡◌, refl, sym, ap, ap₂, ◌∙◌}
use mathlib.Core.List.{List, [], ◌∷◌}
use Prim.Native.Nat.{ℕ, suc, ◌+◌, ◌*◌, ◌/◌, ◌%◌, ◌^◌, ◌<◌}
use native.Mathlib.Nat.{zero-mul, div-add-mod'}
use native.Mathlib.Omega.{arith}
use lib.Arith.{bin_ind}
use lib.Bits.{bit_xor, xor_shifted, xor_self, xor_lt, xor_zero_r}
use lib.Dec.{lit<}
use lib.ListN.{length}
use Rattle.crc.specs.Crc.{bit_step, crc_from}
use Rattle.crc.specs.Remainder.{Bytes, with_bytes, times, Leaves, IsRemainder}
use Rattle.crc.specs.Inner.{behind, number_of, rest, rest_of}
use Rattle.crc.proofs.Xor.{Bit, off, on, bit, xor_assoc, xor_left, xor_swap, xor_shl}
use Rattle.crc.proofs.Fold.{step_fits}
use Rattle.crc.proofs.Rest.{rest_step, rest_xor, rest_small, at, up_double}
use Rattle.crc.proofs.Turning.{turned_down, turning_1}
use Rattle.crc.proofs.Numbers.{crc_number}

-- ---- what a number leaves is its remainder

times_xor : (p q : ℕ) → times (bit_xor p q) ≡ bit_xor (times p) (times q)
times_xor p q =
    sym (ap₂ bit_xor (xor_shl p q 16) (ap₂ bit_xor (xor_shl p q 12) (ap (λ (x : ℕ). bit_xor x (bit_xor p q)) (xor_shl p q 5))))
    ∙ regroup (p * 2 ^ 16) (p * 2 ^ 12) (p * 2 ^ 5) p (q * 2 ^ 16) (q * 2 ^ 12) (q * 2 ^ 5) q
  where
    regroup : (a b c d e f g h : ℕ)
        → bit_xor (bit_xor a e) (bit_xor (bit_xor b f) (bit_xor (bit_xor c g) (bit_xor d h))) ≡ bit_xor (bit_xor a (bit_xor b (bit_xor c d))) (bit_xor e (bit_xor f (bit_xor g h)))
    regroup a b c d e f g h = simp (xor_assoc, xor_left)

times_up : (q : ℕ) → times (q * 2) ≡ times q * 2
times_up q =
    ap₂ bit_xor (up_double q 16) (ap₂ bit_xor (up_double q 12) (ap (λ (x : ℕ). bit_xor x (q * 2)) (up_double q 5)))
    ∙ ap (bit_xor (q * 2 ^ 16 * 2)) (ap (bit_xor (q * 2 ^ 12 * 2)) (xor_shl (q * 2 ^ 5) q 1) ∙ xor_shl (q * 2 ^ 12) (bit_xor (q * 2 ^ 5) q) 1)
    ∙ xor_shl (q * 2 ^ 16) (bit_xor (q * 2 ^ 12) (bit_xor (q * 2 ^ 5) q)) 1

-- the polynomial once, or not at all
times_bit : {x : ℕ} → Bit x → times x ≡ bit_xor (x * 65536) (x * 0x1021)
times_bit off = refl
times_bit on = refl

-- a register moved up by a bit: what falls out takes the polynomial with it
of_step : (r : ℕ) → r < 65536 → r * 2 ≡ bit_xor (times (r / 32768 % 2)) (bit_step r)
unfolding bit_step
of_step r h =
    let top = r / 32768 % 2 in
    let low = r * 2 % 65536 in
    let sum : r * 2 ≡ top * 65536 + low = omega arith in
    let less : low < 65536 = omega arith in
    sum
    ∙ sym (xor_shifted top 16 low less)
    ∙ sym (ap (λ (x : ℕ). bit_xor x (bit_step r)) (times_bit (bit (r / 32768)))
    ∙ xor_swap (top * 65536) (top * 0x1021) low (top * 0x1021)
    ∙ ap (bit_xor (bit_xor (top * 65536) low)) (xor_self (top * 0x1021))
    ∙ xor_zero_r (bit_xor (top * 65536) low))

rest_fits : (n : ℕ) → rest n < 65536
rest_fits n = rw (rest_step n) (xor_lt 16 (bit_step (rest (n / 2))) (n % 2) (step_fits (rest (n / 2))) (omega arith))

-- a bit more
divides : (n : ℕ) (half : Leaves (n / 2) (rest (n / 2))) → n ≡ bit_xor (times (bit_xor (half.quotient * 2) (rest (n / 2) / 32768 % 2))) (rest n)
divides n half =
    let q = half.quotient in
    let r = rest (n / 2) in
    let top = r / 32768 % 2 in
    sym (div-add-mod' n 2)
    ∙ sym (xor_shifted (n / 2) 1 (n % 2) (omega arith))
    ∙ ap (λ (x : ℕ). bit_xor (x * 2) (n % 2)) half.divided
    ∙ ap (λ (x : ℕ). bit_xor x (n % 2))
    (sym (xor_shl (times q) r 1) ∙ ap₂ bit_xor (sym (times_up q)) (of_step r half.fits) ∙ sym (xor_assoc (times (q * 2)) (times top) (bit_step r)))
    ∙ xor_assoc (bit_xor (times (q * 2)) (times top)) (bit_step r) (n % 2)
    ∙ ap₂ bit_xor (sym (times_xor (q * 2) top)) (sym (rest_step n))

leaves_rest : (n : ℕ) → Leaves n (rest n)
unfolding rest rest_of
leaves_rest =
    bin_ind (λ (n : ℕ). Leaves n (rest n)) (record { quotient = 0; divided = refl; fits = lit< tt })
    (λ n ih. record { quotient = bit_xor (ih.quotient * 2) (rest (n / 2) / 32768 % 2); divided = divides n ih; fits = rest_fits n })

times_gone : (q : ℕ) → rest (times q) ≡ 0
times_gone q =
    rest_xor (q * 2 ^ 16) (bit_xor (q * 2 ^ 12) (bit_xor (q * 2 ^ 5) q))
    ∙ ap₂ bit_xor (turned_down 1 turning_1 q) (rest_xor (q * 2 ^ 12) (bit_xor (q * 2 ^ 5) q) ∙ ap (bit_xor (at q 12)) (rest_xor (q * 2 ^ 5) q))
    ∙ xor_self (bit_xor (at q 12) (bit_xor (at q 5) (rest q)))

left_is : (n r : ℕ) → Leaves n r → r ≡ rest n
left_is n r h =
    sym (ap rest h.divided ∙ rest_xor (times h.quotient) r ∙ ap₂ bit_xor (times_gone h.quotient) (rest_small r h.fits))

-- ---- of bytes

same_number : (n : ℕ) (s : List ℕ) → Bytes s → with_bytes n s ≡ behind n s
unfolding with_bytes behind
same_number n [] bytes = refl
same_number n (b ∷ s) bytes =
    same_number (n * 256 + b) s (λ i. bytes (suc i)) ∙ ap (λ (x : ℕ). behind x s) (sym (xor_shifted n 8 b (bytes 0)))

of_bytes : (c : ℕ) (s : List ℕ) → c < 65536 → Bytes s → Leaves (bit_xor (c * 2 ^ (8 * length s)) (with_bytes 0 s * 65536)) (crc_from c s)
of_bytes c s h bytes = rw (crc_number c s h bytes, same_number 0 s bytes) (leaves_rest (bit_xor (c * 2 ^ (8 * length s)) (number_of s * 65536)))

pub is_remainder : IsRemainder
is_remainder = record {
  crc = λ s bytes. rw (zero-mul (2 ^ (8 * length s))) at (of_bytes 0 s (lit< tt) bytes);
  begun = of_bytes;
  only = λ n r t p q. left_is n r p ∙ sym (left_is n t q);
}
