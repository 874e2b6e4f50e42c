-- Words folded: what falls out of four, at s = 16, and of two, at s = 8, added where it belongs.
use mathlib.Core.Path.{◌≡◌, sym, ap, ap₂, ◌∙◌}
use Prim.Native.Nat.{ℕ, ◌+◌, ◌*◌, ◌/◌, ◌%◌, ◌^◌, ◌<◌}
use lib.Bits.{bit_xor, xor_comm, xor_lt}
use Rattle.crc.specs.Inner.{rest, then, above}
use Rattle.crc.proofs.Xor.{xor_assoc, xor_left, xor_back}
use Rattle.crc.proofs.Rest.{rest_xor, at, at_xor, at_up, at_cut, at_same, rest_cut}
use Rattle.crc.proofs.Turning.{turned_down, turning_8, turning_16}
use Rattle.crc.proofs.Brought.{down_fits, above_8, above_16, above_twice, part_up}

-- ---- a word behind a number

at_then : (n w j : ℕ) → at (then n w) j ≡ bit_xor (at n (64 + j)) (at w j)
at_then n w j = at_xor (n * 2 ^ 64) w j ∙ ap (λ (x : ℕ). bit_xor x (at w j)) (at_up n 64 j)

pub then_same : (w a b : ℕ) → rest a ≡ rest b → rest (then a w) ≡ rest (then b w)
then_same w a b e = rest_xor (a * 2 ^ 64) w ∙ ap (λ (x : ℕ). bit_xor x (rest w)) (at_same a b 64 e) ∙ sym (rest_xor (b * 2 ^ 64) w)

-- ---- four words, term by term, and with one more behind them

four : (a b c d : ℕ) → rest (then (then (then a b) c) d) ≡ bit_xor (bit_xor (bit_xor (at a 192) (at b 128)) (at c 64)) (rest d)
four a b c d =
    rest_xor (then (then a b) c * 2 ^ 64) d
    ∙ ap (λ (x : ℕ). bit_xor x (rest d)) (at_then (then a b) c 64 ∙ ap (λ (x : ℕ). bit_xor x (at c 64)) (at_then a b 128))

five : (a b c d w : ℕ) → rest (then (then (then (then a b) c) d) w) ≡ bit_xor (bit_xor (bit_xor (bit_xor (at a 256) (at b 192)) (at c 128)) (at d 64)) (rest w)
five a b c d w =
    rest_xor (then (then (then a b) c) d * 2 ^ 64) w
    ∙ ap (λ (x : ℕ). bit_xor x (rest w))
    (at_then (then (then a b) c) d 64
    ∙ ap (λ (x : ℕ). bit_xor x (at d 64)) (at_then (then a b) c 128 ∙ ap (λ (x : ℕ). bit_xor x (at c 128)) (at_then a b 192)))

-- what falls out: 256 bits up is 192, 80 and 0 bits up, and 80 bits up it lies in two words
falls : (a : ℕ) → at a 256 ≡ bit_xor (at a 192) (bit_xor (bit_xor (at (a / 2 ^ 48) 128) (at (a * 2 ^ 16 % 2 ^ 64) 64)) (rest a))
falls a =
    turned_down 16 turning_16 a
    ∙ ap (bit_xor (at a 192))
    (ap (λ (x : ℕ). bit_xor x (rest a)) (sym (at_up a 16 64) ∙ at_cut (a * 2 ^ 16) 64 64 ∙ ap (λ (x : ℕ). bit_xor (at x 128) (at (a * 2 ^ 16 % 2 ^ 64) 64)) (part_up a 16 48)))

regroup : (a b c d w x y z : ℕ)
    → bit_xor (bit_xor (bit_xor (bit_xor b x) (bit_xor c y)) (bit_xor d z)) (bit_xor w a)
    ≡ bit_xor (bit_xor (bit_xor (bit_xor (bit_xor x (bit_xor (bit_xor y z) a)) b) c) d) w
regroup a b c d w x y z = simp (xor_assoc, xor_left, xor_comm)

pub turned_is : (a b c d w : ℕ)
    → rest (then (then (then (bit_xor b a) (bit_xor c (a / 2 ^ 48))) (bit_xor d (a * 2 ^ 16 % 2 ^ 64))) (bit_xor w a))
    ≡ rest (then (then (then (then a b) c) d) w)
turned_is a b c d w =
    let h = a / 2 ^ 48 in
    let l = a * 2 ^ 16 % 2 ^ 64 in
    four (bit_xor b a) (bit_xor c h) (bit_xor d l) (bit_xor w a)
    ∙ ap₂ bit_xor (ap₂ bit_xor (ap₂ bit_xor (at_xor b a 192) (at_xor c h 128)) (at_xor d l 64)) (rest_xor w a)
    ∙ regroup (rest a) (at b 192) (at c 128) (at d 64) (rest w) (at a 192) (at h 128) (at l 64)
    ∙ sym (five a b c d w ∙ ap (λ (x : ℕ). bit_xor (bit_xor (bit_xor (bit_xor x (at b 192)) (at c 128)) (at d 64)) (rest w)) (falls a))

-- ---- the step: what is 128 bits up, without what of it falls out again

module _ (a : ℕ) (h : a < 2 ^ 64) where
  abbrev l : ℕ
  l = bit_xor a (a / 2 ^ 32)

  all_of : bit_xor l (l / 2 ^ 32) ≡ a
  all_of =
      above_8 l (xor_lt 64 a (a / 2 ^ 32) h (down_fits a 32 h))
      ∙ ap (above 8) (above_8 a h)
      ∙ above_twice 8 a
      ∙ above_16 a h

  goes : at a 128 ≡ bit_xor (at (l * 2 ^ 32 % 2 ^ 64) 64) (bit_xor (bit_xor (at (l / 2 ^ 24) 64) (rest (l * 2 ^ 40 % 2 ^ 64))) (rest l))
  goes =
      ap (λ (x : ℕ). at x 128) (sym all_of)
      ∙ at_xor l (l / 2 ^ 32) 128
      ∙ ap (λ (x : ℕ). bit_xor x (at (l / 2 ^ 32) 128))
      (turned_down 8 turning_8 l
      ∙ ap₂ bit_xor
      (sym (at_up l 32 64) ∙ at_cut (l * 2 ^ 32) 64 64 ∙ ap (λ (x : ℕ). bit_xor (at x 128) (at (l * 2 ^ 32 % 2 ^ 64) 64)) (part_up l 32 32))
      (ap (λ (x : ℕ). bit_xor x (rest l)) (rest_cut (l * 2 ^ 40) 64 ∙ ap (λ (x : ℕ). bit_xor (at x 64) (rest (l * 2 ^ 40 % 2 ^ 64))) (part_up l 40 24))))
      ∙ gone (at (l / 2 ^ 32) 128) (at (l * 2 ^ 32 % 2 ^ 64) 64) (bit_xor (bit_xor (at (l / 2 ^ 24) 64) (rest (l * 2 ^ 40 % 2 ^ 64))) (rest l))
    where
      gone : (p q r : ℕ) → bit_xor (bit_xor (bit_xor p q) r) p ≡ bit_xor q r
      gone p q r = ap (λ (x : ℕ). bit_xor x p) (xor_assoc p q r) ∙ xor_comm (bit_xor p (bit_xor q r)) p ∙ xor_back p (bit_xor q r)

  pub stepped_is : (b w : ℕ)
      → rest (then (bit_xor (bit_xor b (l * 2 ^ 32 % 2 ^ 64)) (l / 2 ^ 24)) (bit_xor (bit_xor w l) (l * 2 ^ 40 % 2 ^ 64))) ≡ rest (then (then a b) w)
  stepped_is b w =
      let p = l * 2 ^ 32 % 2 ^ 64 in
      let q = l / 2 ^ 24 in
      let r = l * 2 ^ 40 % 2 ^ 64 in
      rest_xor (bit_xor (bit_xor b p) q * 2 ^ 64) (bit_xor (bit_xor w l) r)
      ∙ ap₂ bit_xor
      (at_xor (bit_xor b p) q 64 ∙ ap (λ (x : ℕ). bit_xor x (at q 64)) (at_xor b p 64))
      (rest_xor (bit_xor w l) r ∙ ap (λ (x : ℕ). bit_xor x (rest r)) (rest_xor w l))
      ∙ places (at b 64) (at p 64) (at q 64) (rest w) (rest l) (rest r)
      ∙ sym (rest_xor (then a b * 2 ^ 64) w ∙ ap (λ (x : ℕ). bit_xor x (rest w)) (at_then a b 64 ∙ ap (λ (x : ℕ). bit_xor x (at b 64)) goes))
    where
      places : (b p q w l r : ℕ)
          → bit_xor (bit_xor (bit_xor b p) q) (bit_xor (bit_xor w l) r) ≡ bit_xor (bit_xor (bit_xor p (bit_xor (bit_xor q r) l)) b) w
      places b p q w l r = simp (xor_assoc, xor_left, xor_comm)
