-- A start goes in by itself: c is added to the first two bytes, cut where they are.
use mathlib.Core.Path.{◌≡◌, sym, ap, ap₂, ◌∙◌}
use mathlib.Core.List.{List}
use Prim.Native.Nat.{ℕ, ◌+◌, ◌*◌, ◌/◌, ◌%◌, ◌^◌, ◌≤◌, ◌<◌}
use native.Mathlib.Nat.{mod-lt, zero-lt-suc}
use native.Mathlib.Omega.{arith}
use lib.Bits.{bit_xor, xor_comm, xor_shifted}
use lib.Dec.{lit≤}
use lib.ListN.{length, take, drop, length-take, length-drop, take-append-drop}
use lib.Pow.{split, shl_exact}
use lib.Seq.{take-add}
use Rattle.crc.specs.Crc.{crc_from}
use Rattle.crc.specs.Remainder.{Bytes}
use Rattle.crc.specs.Inner.{behind, number_of, rest, then}
use Rattle.crc.proofs.Xor.{xor_assoc, xor_left, xor_shl}
use Rattle.crc.proofs.Rest.{rest_xor, rest_small, at, at_xor, at_same, rest_cut, up_up}
use Rattle.crc.proofs.Numbers.{behind_append, behind_apart, behind_xor, crc_number}

module _ (c : ℕ) (s : List ℕ) (fits : c < 65536) (bytes : Bytes s) where
  -- all bytes in one word: the rest of the start is past their end
  pub of_few : bit_xor (rest (bit_xor (number_of s) (c * 2 ^ (8 * length s) / 65536) * 65536)) (c * 2 ^ (8 * length s) % 65536) ≡ crc_from c s
  of_few =
      let e = c * 2 ^ (8 * length s) in
      let n = number_of s in
      let cut : rest e ≡ bit_xor (at (e / 65536) 16) (e % 65536) =
      rest_cut e 16 ∙ ap (bit_xor (at (e / 65536) 16)) (rest_small (e % 65536) (mod-lt e (zero-lt-suc 65535))) in
      ap (λ (x : ℕ). bit_xor x (e % 65536)) (at_xor n (e / 65536) 16)
      ∙ xor_assoc (at n 16) (at (e / 65536) 16) (e % 65536)
      ∙ ap (bit_xor (at n 16)) (sym cut)
      ∙ xor_comm (at n 16) (rest e)
      ∙ sym (crc_number c s fits bytes ∙ rest_xor e (n * 65536))

  -- k bytes, a word, and the others behind them
  module _ (k : ℕ) (inside : k + 8 ≤ length s) where
    abbrev e : ℕ
    e = c * 2 ^ (8 * k)

    first_two : then (bit_xor (number_of (take k s)) (e / 65536)) (bit_xor (number_of (take 8 (drop k s))) (e % 65536 * 2 ^ 48))
        ≡ bit_xor (e * 2 ^ 48) (number_of (take (k + 8) s))
    first_two =
        let f = number_of (take k s) in
        let w = number_of (take 8 (drop k s)) in
        let high = e / 65536 in
        let low = e % 65536 in
        let whole : e * 2 ^ 48 ≡ bit_xor (high * 2 ^ 64) (low * 2 ^ 48) =
        ap (λ (x : ℕ). x * 2 ^ 48) (sym (split e 16) ∙ sym (xor_shifted high 16 low (mod-lt e (zero-lt-suc 65535))))
        ∙ sym (xor_shl (high * 65536) low 48)
        ∙ ap (λ (x : ℕ). bit_xor x (low * 2 ^ 48)) (up_up high 16 48) in
        let eight : length (take 8 (drop k s)) ≡ 8 = simp (length-take, length-drop) (omega arith) in
        let both : number_of (take (k + 8) s) ≡ bit_xor (f * 2 ^ 64) w =
        ap number_of (take-add k 8 s)
        ∙ behind_append 0 (take k s) (take 8 (drop k s))
        ∙ behind_apart f (take 8 (drop k s))
        ∙ ap (λ (x : ℕ). bit_xor (f * 2 ^ (8 * x)) w) eight in
        ap (λ (x : ℕ). bit_xor x (bit_xor w (low * 2 ^ 48))) (sym (xor_shl f high 64))
        ∙ regroup (f * 2 ^ 64) (high * 2 ^ 64) w (low * 2 ^ 48)
        ∙ sym (ap₂ bit_xor whole both)
      where
        regroup : (p q r t : ℕ) → bit_xor (bit_xor p q) (bit_xor r t) ≡ bit_xor (bit_xor q t) (bit_xor p r)
        regroup p q r t = simp (xor_assoc, xor_left, xor_comm)

    pub of_many : {f g w l : ℕ} (x : ℕ)
        → f ≡ number_of (take k s)
        → g ≡ e / 65536
        → w ≡ number_of (take 8 (drop k s))
        → l ≡ e % 65536
        → rest x ≡ rest (behind (then (bit_xor f g) (bit_xor w (l * 2 ^ 48 % 2 ^ 64))) (drop (k + 8) s))
        → rest (x * 65536) ≡ crc_from c s
    of_many {f} {g} {w} {l} x hf hg hw hl r =
        let a = bit_xor f g in
        let b = bit_xor w (l * 2 ^ 48 % 2 ^ 64) in
        let p : a ≡ bit_xor (number_of (take k s)) (e / 65536) = ap₂ bit_xor hf hg in
        let q : b ≡ bit_xor (number_of (take 8 (drop k s))) (e % 65536 * 2 ^ 48) =
        ap₂ bit_xor hw (ap (λ (y : ℕ). y * 2 ^ 48 % 2 ^ 64) hl ∙ shl_exact 16 48 64 (mod-lt e (zero-lt-suc 65535)) (lit≤ tt)) in
        let t = drop (k + 8) s in
        let m = 8 * length t in
        let joined : behind (then a b) t ≡ bit_xor (e * 2 ^ 48 * 2 ^ m) (number_of s) =
        ap₂ (λ (y z : ℕ). behind (then y z) t) p q
        ∙ ap (λ (y : ℕ). behind y t) first_two
        ∙ behind_xor (e * 2 ^ 48) (number_of (take (k + 8) s)) t
        ∙ ap (bit_xor (e * 2 ^ 48 * 2 ^ m)) (sym (behind_append 0 (take (k + 8) s) t) ∙ ap number_of (take-append-drop (k + 8) s)) in
        let high : 8 * k + 48 + m + 16 ≡ 8 * length s = omega (arith, length-drop (k + 8) s) in
        let start : e * 2 ^ 48 * 2 ^ m * 65536 ≡ c * 2 ^ (8 * length s) =
        ap (λ (y : ℕ). y * 2 ^ m * 65536) (up_up c (8 * k) 48)
        ∙ ap (λ (y : ℕ). y * 65536) (up_up c (8 * k + 48) m)
        ∙ up_up c (8 * k + 48 + m) 16
        ∙ ap (λ (y : ℕ). c * 2 ^ y) high in
        at_same x (bit_xor (e * 2 ^ 48 * 2 ^ m) (number_of s)) 16 (r ∙ ap rest joined)
        ∙ ap rest (sym (xor_shl (e * 2 ^ 48 * 2 ^ m) (number_of s) 16) ∙ ap (λ (y : ℕ). bit_xor y (number_of s * 65536)) start)
        ∙ sym (crc_number c s fits bytes)
