-- A word divided by the polynomial: moved up by its own width, and brought to the register.
use mathlib.Core.Path.{◌≡◌, sym, ap, ap₂, ◌∙◌}
use Prim.Native.Nat.{ℕ, ◌*◌, ◌/◌, ◌%◌, ◌^◌, ◌<◌}
use native.Mathlib.Nat.{mod-eq_of_lt, mod-lt, zero-lt-suc}
use lib.Bits.{bit_xor, xor_lt, xor_mod, xor_zero_r}
use lib.Dec.{lit≤}
use lib.Pow.{mod-mod-pow}
use Rattle.crc.specs.Inner.{rest, above}
use Rattle.crc.proofs.Xor.{xor_assoc}
use Rattle.crc.proofs.Rest.{rest_small, at}
use Rattle.crc.proofs.Turning.{turning_1, turning_4}
use Rattle.crc.proofs.Brought.{none_left, down_fits, above_8, above_16, added, above_twice, brought}

-- ---- what stands above, as the code has it

above_4 : (t : ℕ) → t < 2 ^ 64 → bit_xor (bit_xor t (t / 2 ^ 16)) (t / 2 ^ 44) ≡ above 4 t
unfolding above
above_4 t h =
    xor_assoc t (t / 2 ^ 16) (t / 2 ^ 44)
    ∙ ap (λ (x : ℕ). bit_xor t (bit_xor (t / 2 ^ 16) x)) (sym (ap (bit_xor (t / 2 ^ 44)) (none_left t 64 h (lit≤ tt)) ∙ xor_zero_r (t / 2 ^ 44)))

above_all : (s u : ℕ) → bit_xor (bit_xor (bit_xor u (u / 2 ^ (4 * s))) (u / 2 ^ (11 * s))) (u / 2 ^ (16 * s)) ≡ above s u
unfolding above
above_all s u =
    xor_assoc (bit_xor u (u / 2 ^ (4 * s))) (u / 2 ^ (11 * s)) (u / 2 ^ (16 * s)) ∙ xor_assoc u (u / 2 ^ (4 * s)) (bit_xor (u / 2 ^ (11 * s)) (u / 2 ^ (16 * s)))

-- the lowest bits of what is added, term by term
low : (a b q k : ℕ) → bit_xor a (bit_xor b q) % 2 ^ k ≡ bit_xor (bit_xor (a % 2 ^ k) (b % 2 ^ k)) (q % 2 ^ k)
low a b q k = xor_mod a (bit_xor b q) k ∙ ap (bit_xor (a % 2 ^ k)) (xor_mod b q k) ∙ sym (xor_assoc (a % 2 ^ k) (b % 2 ^ k) (q % 2 ^ k))

-- ---- the quotient at s = 4

pub divided_is : (r : ℕ) → r < 2 ^ 64 → let t = bit_xor r (r / 2 ^ 32) in
    (above 4 (bit_xor (bit_xor t (t / 2 ^ 16)) (t / 2 ^ 44)) ≡ r) × (bit_xor (bit_xor t (t / 2 ^ 16)) (t / 2 ^ 44) < 2 ^ 64)
divided_is r h =
    let t = bit_xor r (r / 2 ^ 32) in
    let fits : t < 2 ^ 64 = xor_lt 64 r (r / 2 ^ 32) h (down_fits r 32 h) in (
      ap (above 4) (above_4 t fits ∙ ap (above 4) (above_8 r h)) ∙ above_twice 4 (above 8 r) ∙ above_twice 8 r ∙ above_16 r h,
      xor_lt 64 (bit_xor t (t / 2 ^ 16)) (t / 2 ^ 44) (xor_lt 64 t (t / 2 ^ 16) fits (down_fits t 16 fits)) (down_fits t 44 fits),
    )

-- a word moved up by its own width
pub moved_is : (r q : ℕ) → above 4 q ≡ r → q < 2 ^ 64 → rest (bit_xor (bit_xor (q * 2 ^ 48 % 2 ^ 64) (q * 2 ^ 20 % 2 ^ 64)) q) ≡ rest (r * 2 ^ 64)
unfolding added
moved_is r q e h =
    ap rest (sym (low (q * 2 ^ 48) (q * 2 ^ 20) q 64 ∙ ap (bit_xor (bit_xor (q * 2 ^ 48 % 2 ^ 64) (q * 2 ^ 20 % 2 ^ 64))) (mod-eq_of_lt h)))
    ∙ sym (brought 4 turning_4 q)
    ∙ ap (λ (x : ℕ). at x 64) e

-- ---- the register: from the quotient at s = 4 to that at s = 1

module _ (r u : ℕ) (e : above 4 u ≡ r) where
  abbrev v : ℕ
  v = bit_xor (bit_xor (bit_xor u (u / 2 ^ 8)) (u / 2 ^ 22)) (u / 2 ^ 32)

  abbrev q : ℕ
  q = bit_xor (bit_xor (bit_xor v (v / 2 ^ 4)) (v / 2 ^ 11)) (v / 2 ^ 16)

  divided_1 : above 1 q ≡ r
  divided_1 = ap (above 1) (above_all 1 v ∙ ap (above 1) (above_all 2 u)) ∙ above_twice 1 (above 2 u) ∙ above_twice 2 u ∙ e

  pub register_is : bit_xor (bit_xor (q * 2 ^ 12 % 2 ^ 64) (q * 2 ^ 5 % 2 ^ 64)) q % 65536 ≡ rest (r * 65536)
  unfolding added
  register_is =
      let a = q * 2 ^ 12 in
      let b = q * 2 ^ 5 in
      xor_mod (bit_xor (a % 2 ^ 64) (b % 2 ^ 64)) q 16
      ∙ ap (λ (x : ℕ). bit_xor x (q % 65536)) (xor_mod (a % 2 ^ 64) (b % 2 ^ 64) 16 ∙ ap₂ bit_xor (mod-mod-pow a 48 16) (mod-mod-pow b 48 16))
      ∙ sym (low a b q 16)
      ∙ sym (rest_small (added 1 q % 65536) (mod-lt (added 1 q) (zero-lt-suc 65535)))
      ∙ sym (brought 1 turning_1 q)
      ∙ ap (λ (x : ℕ). at x 16) divided_1
