-- Bytes as one number, highest first: its parts, and that the CRC is what that number leaves 16 bits up, with the start added to its first two
-- bytes.
use mathlib.Core.Path.{◌≡◌, refl, sym, ap, ap₂, ◌∙◌}
use mathlib.Core.List.{List, [], ◌∷◌, ◌++◌}
use Prim.Native.Nat.{ℕ, zero, suc, ◌+◌, ◌*◌, ◌^◌, ◌<◌}
use native.Mathlib.Nat.{mul-one}
use native.Mathlib.Omega.{arith}
use lib.Arith.{digits_lt}
use lib.Bits.{bit_xor, xor_shifted, xor_zero_r}
use lib.Dec.{lit<}
use lib.ListN.{length, take, drop}
use lib.Pow.{pow-add}
use lib.Seq.{get_or-drop}
use Rattle.crc.specs.Crc.{bit_steps, byte_step, crc_from}
use Rattle.crc.specs.Remainder.{Bytes}
use Rattle.crc.specs.Inner.{behind, number_of, rest}
use Rattle.crc.proofs.Xor.{xor_assoc, xor_shl}
use Rattle.crc.proofs.Rest.{rest_xor, rest_up, rest_small, at_same, up_up}

pub bytes_drop : (k : ℕ) (s : List ℕ) → Bytes s → Bytes (drop k s)
bytes_drop k s bytes i = rw get_or-drop (bytes (k + i))

pub bytes_take : (k : ℕ) (s : List ℕ) → Bytes s → Bytes (take k s)
bytes_take zero s bytes i = lit< tt
bytes_take (suc k) [] bytes i = lit< tt
bytes_take (suc k) (b ∷ s) bytes zero = bytes 0
bytes_take (suc k) (b ∷ s) bytes (suc i) = bytes_take k s (λ j. bytes (suc j)) i

pub behind_append : (n : ℕ) (s t : List ℕ) → behind n (s ++ t) ≡ behind (behind n s) t
unfolding behind
behind_append n [] t = refl
behind_append n (b ∷ s) t = behind_append (bit_xor (n * 256) b) s t

-- n stands up by what is behind it
pub behind_apart : (n : ℕ) (s : List ℕ) → behind n s ≡ bit_xor (n * 2 ^ (8 * length s)) (number_of s)
unfolding behind
behind_apart n [] = sym (xor_zero_r (n * 1) ∙ mul-one n)
behind_apart n (b ∷ s) =
    let m = 8 * length s in
    let more : 8 + m ≡ 8 * suc (length s) = omega arith in
    behind_apart (bit_xor (n * 256) b) s
    ∙ ap (λ (x : ℕ). bit_xor x (number_of s)) (sym (xor_shl (n * 256) b m))
    ∙ xor_assoc (n * 256 * 2 ^ m) (b * 2 ^ m) (number_of s)
    ∙ ap₂ bit_xor (up_up n 8 m ∙ ap (λ (x : ℕ). n * 2 ^ x) more) (sym (behind_apart b s))

-- two numbers added: one goes up by itself
pub behind_xor : (m n : ℕ) (s : List ℕ) → behind (bit_xor m n) s ≡ bit_xor (m * 2 ^ (8 * length s)) (behind n s)
behind_xor m n s =
    let k = 8 * length s in
    behind_apart (bit_xor m n) s
    ∙ ap (λ (x : ℕ). bit_xor x (number_of s)) (sym (xor_shl m n k))
    ∙ xor_assoc (m * 2 ^ k) (n * 2 ^ k) (number_of s)
    ∙ ap (bit_xor (m * 2 ^ k)) (sym (behind_apart n s))

pub number_fits : (s : List ℕ) → Bytes s → number_of s < 2 ^ (8 * length s)
unfolding behind
number_fits [] bytes = omega arith
number_fits (b ∷ s) bytes =
    let m = 8 * length s in
    let less = number_fits s (λ i. bytes (suc i)) in
    let sum : behind b s ≡ b * 2 ^ m + number_of s = behind_apart b s ∙ xor_shifted b m (number_of s) less in
    let more : 2 ^ (8 * suc (length s)) ≡ 256 * 2 ^ m = ap (λ (x : ℕ). 2 ^ x) (omega arith) ∙ pow-add 2 8 m in
    rw (sum, more) (digits_lt (bytes 0) less)

-- numbers that leave the same, with the same bytes behind them
pub behind_same : (s : List ℕ) (a b : ℕ) → rest a ≡ rest b → rest (behind a s) ≡ rest (behind b s)
unfolding behind
behind_same [] a b e = e
behind_same (x ∷ s) a b e =
    behind_same s (bit_xor (a * 256) x) (bit_xor (b * 256) x) (rest_xor (a * 256) x ∙ ap (λ (y : ℕ). bit_xor y (rest x)) (at_same a b 8 e) ∙ sym (rest_xor (b * 256) x))

-- ---- the CRC is what a number leaves

byte_rest : (v b : ℕ) → b < 256 → byte_step (rest v) b ≡ rest (bit_xor v (b * 256) * 256)
unfolding byte_step
byte_rest v b h =
    ap (λ (x : ℕ). bit_steps 8 (bit_xor (rest v) x)) (sym (rest_small (b * 256) (omega arith)))
    ∙ ap (bit_steps 8) (sym (rest_xor v (b * 256)))
    ∙ sym (rest_up 8 (bit_xor v (b * 256)))

crc_rest : (v : ℕ) (s : List ℕ) → Bytes s → crc_from (rest v) s ≡ rest (bit_xor (v * 2 ^ (8 * length s)) (number_of s * 65536))
unfolding crc_from behind
crc_rest v [] bytes = ap rest (sym (xor_zero_r (v * 1) ∙ mul-one v))
crc_rest v (b ∷ s) bytes =
    let m = 8 * length s in
    let w = bit_xor v (b * 256) in
    let longer : 8 + m ≡ 8 * suc (length s) = omega arith in
    let moved : 8 + (8 + m) ≡ m + 16 = omega arith in
    ap (λ (x : ℕ). crc_from x s) (byte_rest v b (bytes 0))
    ∙ crc_rest (w * 256) s (λ i. bytes (suc i))
    ∙ ap rest
    (ap (λ (x : ℕ). bit_xor x (number_of s * 65536)) (up_up w 8 m ∙ sym (xor_shl v (b * 256) (8 + m)))
    ∙ xor_assoc (v * 2 ^ (8 + m)) (b * 256 * 2 ^ (8 + m)) (number_of s * 65536)
    ∙ ap₂ bit_xor (ap (λ (x : ℕ). v * 2 ^ x) longer)
    (ap (λ (x : ℕ). bit_xor x (number_of s * 65536)) (up_up b 8 (8 + m) ∙ ap (λ (x : ℕ). b * 2 ^ x) moved ∙ sym (up_up b m 16))
    ∙ xor_shl (b * 2 ^ m) (number_of s) 16
    ∙ ap (λ (x : ℕ). x * 65536) (sym (behind_apart b s))))

pub crc_number : (c : ℕ) (s : List ℕ) → c < 65536 → Bytes s → crc_from c s ≡ rest (bit_xor (c * 2 ^ (8 * length s)) (number_of s * 65536))
crc_number c s h bytes = ap (λ (x : ℕ). crc_from x s) (sym (rest_small c h)) ∙ crc_rest c s bytes
