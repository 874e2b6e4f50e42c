-- A number 16 s bits up, brought back to 16 s bits: q times the polynomial at s leaves nothing, and above bit 16 s it is the number.
use mathlib.Core.Path.{◌≡◌, sym, ap, ap₂, ◌∙◌}
use Prim.Native.Nat.{ℕ, ◌+◌, ◌*◌, ◌/◌, ◌%◌, ◌^◌, ◌≤◌, ◌<◌}
use native.Mathlib.Nat.{add_comm, div-eq_of_lt, lt_of_lt_of_le, lt_of_le_of_lt}
use native.Mathlib.Omega.{arith}
use lib.Bits.{bit_xor, xor_comm, xor_shr, xor_zero_r}
use lib.Dec.{lit≤}
use lib.Pow.{pow_mono, shr_le, shr-shr, shl-shr}
use Rattle.crc.specs.Inner.{rest, above}
use Rattle.crc.proofs.Xor.{xor_assoc, xor_left, xor_back}
use Rattle.crc.proofs.Rest.{rest_xor, at, at_xor, rest_cut}
use Rattle.crc.proofs.Turning.{Turning, turned_down}

-- what q times the polynomial at s adds to q 16 s bits up
unfoldable pub added : ℕ → ℕ → ℕ
added s q = bit_xor (q * 2 ^ (12 * s)) (bit_xor (q * 2 ^ (5 * s)) q)

-- ---- twice above is above at twice s: again the mixed terms are there twice

squared : (a b c d e h j : ℕ) {f f₁ g g₁ i i₁ : ℕ} → f₁ ≡ f → g₁ ≡ g → i₁ ≡ i
    → bit_xor (bit_xor a (bit_xor b (bit_xor c d)))
    (bit_xor (bit_xor b (bit_xor e (bit_xor f₁ g₁))) (bit_xor (bit_xor c (bit_xor f (bit_xor h i₁))) (bit_xor d (bit_xor g (bit_xor i j)))))
    ≡ bit_xor a (bit_xor e (bit_xor h j))
squared a b c d e h j p q r = rw (p, q, r) (simp (xor_assoc, xor_left, xor_back))

-- shifted down, each term of it is
down : (s q k : ℕ) → above s q / 2 ^ k ≡ bit_xor (q / 2 ^ k) (bit_xor (q / 2 ^ (4 * s + k)) (bit_xor (q / 2 ^ (11 * s + k)) (q / 2 ^ (16 * s + k))))
unfolding above
down s q k =
    xor_shr q (bit_xor (q / 2 ^ (4 * s)) (bit_xor (q / 2 ^ (11 * s)) (q / 2 ^ (16 * s)))) k
    ∙ ap (bit_xor (q / 2 ^ k))
    (xor_shr (q / 2 ^ (4 * s)) (bit_xor (q / 2 ^ (11 * s)) (q / 2 ^ (16 * s))) k
    ∙ ap₂ bit_xor (shr-shr q (4 * s) k) (xor_shr (q / 2 ^ (11 * s)) (q / 2 ^ (16 * s)) k ∙ ap₂ bit_xor (shr-shr q (11 * s) k) (shr-shr q (16 * s) k)))

pub above_twice : (s q : ℕ) → above s (above s q) ≡ above (s * 2) q
unfolding above
above_twice s q =
    ap (bit_xor (above s q)) (ap₂ bit_xor (down s q (4 * s)) (ap₂ bit_xor (down s q (11 * s)) (down s q (16 * s))))
    ∙ squared q (n (4 * s)) (n (11 * s)) (n (16 * s)) (n (4 * s + 4 * s)) (n (11 * s + 11 * s)) (n (16 * s + 16 * s))
    (ap n (add_comm (11 * s) (4 * s)))
    (ap n (add_comm (16 * s) (4 * s)))
    (ap n (add_comm (16 * s) (11 * s)))
    ∙ ap (bit_xor q) (ap₂ bit_xor (ap n (omega arith)) (ap₂ bit_xor (ap n (omega arith)) (ap n (omega arith))))
  where
    n : ℕ → ℕ
    n k = q / 2 ^ k

-- ---- of a word of 64 bits: nothing of it is above bit 64, so that at s = 16 it stays as it is

pub none_left : (r k : ℕ) → r < 2 ^ 64 → 64 ≤ k → r / 2 ^ k ≡ 0
none_left r k h g = div-eq_of_lt (lt_of_lt_of_le h (pow_mono g))

pub down_fits : (r k : ℕ) → r < 2 ^ 64 → r / 2 ^ k < 2 ^ 64
down_fits r k h = lt_of_le_of_lt (shr_le r k) h

pub above_16 : (r : ℕ) → r < 2 ^ 64 → above 16 r ≡ r
unfolding above
above_16 r h =
    ap (bit_xor r) (ap₂ bit_xor (none_left r 64 h (lit≤ tt)) (ap₂ bit_xor (none_left r 176 h (lit≤ tt)) (none_left r 256 h (lit≤ tt))))
    ∙ xor_zero_r r

pub above_8 : (r : ℕ) → r < 2 ^ 64 → bit_xor r (r / 2 ^ 32) ≡ above 8 r
unfolding above
above_8 r h =
    let none : bit_xor (r / 2 ^ 88) (r / 2 ^ 128) ≡ 0 = ap₂ bit_xor (none_left r 88 h (lit≤ tt)) (none_left r 128 h (lit≤ tt)) in
    sym (ap (λ (x : ℕ). bit_xor r x) (ap (bit_xor (r / 2 ^ 32)) none ∙ xor_zero_r (r / 2 ^ 32)))

-- ---- the number that stands 16 s bits up is what is above; so it leaves what is below

pub part_up : (q i k : ℕ) → q * 2 ^ i / 2 ^ (k + i) ≡ q / 2 ^ k
part_up q i k =
    ap (λ (x : ℕ). q * 2 ^ i / 2 ^ x) (omega arith)
    ∙ sym (shr-shr (q * 2 ^ i) i k)
    ∙ ap (λ (x : ℕ). x / 2 ^ k) (shl-shr q i)

cancelled : (p q r : ℕ) → p ≡ bit_xor q r → bit_xor p q ≡ r
cancelled p q r e = ap (λ (x : ℕ). bit_xor x q) e ∙ xor_comm (bit_xor q r) q ∙ xor_back q r

module _ (s : ℕ) (turn : Turning s) (q : ℕ) where
  -- all that is added leaves what q leaves, 16 s bits up
  all_added : rest (added s q) ≡ at q (16 * s)
  unfolding added
  all_added =
      rest_xor (q * 2 ^ (12 * s)) (bit_xor (q * 2 ^ (5 * s)) q)
      ∙ ap (bit_xor (at q (12 * s))) (rest_xor (q * 2 ^ (5 * s)) q)
      ∙ sym (turned_down s turn q)

  over : added s q / 2 ^ (16 * s) ≡ bit_xor (q / 2 ^ (4 * s)) (bit_xor (q / 2 ^ (11 * s)) (q / 2 ^ (16 * s)))
  unfolding added
  over =
      let a : 16 * s ≡ 4 * s + 12 * s = omega arith in
      let b : 16 * s ≡ 11 * s + 5 * s = omega arith in
      xor_shr (q * 2 ^ (12 * s)) (bit_xor (q * 2 ^ (5 * s)) q) (16 * s)
      ∙ ap₂ bit_xor (ap (λ (x : ℕ). q * 2 ^ (12 * s) / 2 ^ x) a ∙ part_up q (12 * s) (4 * s))
      (xor_shr (q * 2 ^ (5 * s)) q (16 * s) ∙ ap (λ (x : ℕ). bit_xor x (q / 2 ^ (16 * s))) (ap (λ (x : ℕ). q * 2 ^ (5 * s) / 2 ^ x) b ∙ part_up q (5 * s) (11 * s)))

  pub brought : at (above s q) (16 * s) ≡ rest (added s q % 2 ^ (16 * s))
  unfolding above
  brought =
      let y = bit_xor (q / 2 ^ (4 * s)) (bit_xor (q / 2 ^ (11 * s)) (q / 2 ^ (16 * s))) in
      let z = added s q in
      at_xor q y (16 * s)
      ∙ cancelled (at q (16 * s)) (at y (16 * s)) (rest (z % 2 ^ (16 * s)))
      (sym all_added ∙ rest_cut z (16 * s) ∙ ap (λ (x : ℕ). bit_xor (at x (16 * s)) (rest (z % 2 ^ (16 * s)))) over)
