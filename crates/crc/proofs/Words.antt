-- What bytes.rt takes: eight bytes by pairs, the first few of eight, a start cut in two; and what the loop over few bytes keeps.
use mathlib.Core.Path.{◌≡◌, refl, sym, ap, ap₂, ◌∙◌}
use mathlib.Core.List.{List}
use Prim.Native.Nat.{ℕ, suc, ◌+◌, ◌-◌, ◌*◌, ◌/◌, ◌%◌, ◌^◌, ◌≤◌, ◌<◌, zero-le}
use native.Mathlib.Nat.{add-zero, add-suc, div-eq_of_lt}
use native.Mathlib.Numerals.{add-one}
use native.Mathlib.Omega.{arith}
use lib.Arith.{digits_lt}
use lib.Bits.{bit_xor, xor_shifted, xor_shr, xor_zero_r}
use lib.Dec.{lit≤}
use lib.ListN.{length, get_or, take, drop, length-take, length-drop, take-append-drop, drop_of_length-le}
use lib.Pow.{pow-add, shl_exact, shl-shr}
use lib.Seq.{drop-cons, take-take}
use Rattle.crc.specs.Remainder.{Bytes}
use Rattle.crc.specs.Inner.{behind, number_of}
use Rattle.crc.proofs.Rest.{up_up}
use Rattle.crc.proofs.Numbers.{bytes_drop, bytes_take, behind_append, behind_apart, number_fits}
use Rattle.crc.proofs.Brought.{part_up}

-- ---- eight bytes

-- the next byte is put behind
next : (s : List ℕ) → Bytes s → (i n j m : ℕ) → i + j < length s
    → behind n (take (suc m) (drop (i + j) s)) ≡ behind (n * 256 + get_or s (i + j) 0) (take m (drop (i + suc j) s))
unfolding behind
next s bytes i n j m h =
    ap (λ (l : List ℕ). behind n (take (suc m) l)) (drop-cons s (i + j) 0 h)
    ∙ ap₂ (λ (x k : ℕ). behind x (take m (drop k s))) (xor_shifted n 8 (get_or s (i + j) 0) (bytes (i + j))) (sym (add-suc i j))

no_more : (n : ℕ) (l : List ℕ) → behind n (take 0 l) ≡ n
unfolding behind
no_more n l = refl

pub word_is : (s : List ℕ) → Bytes s → (i : ℕ) → i + 8 ≤ length s → {p q r t : ℕ}
    → p ≡ get_or s i 0 * 256 + get_or s (i + 1) 0
    → q ≡ get_or s (i + 2) 0 * 256 + get_or s (i + 2 + 1) 0
    → r ≡ get_or s (i + 4) 0 * 256 + get_or s (i + 4 + 1) 0
    → t ≡ get_or s (i + 6) 0 * 256 + get_or s (i + 6 + 1) 0
    → p * 281474976710656 + q * 4294967296 + r * 65536 + t ≡ number_of (take 8 (drop i s))
word_is s bytes i h {p} {q} {r} {t} hp hq hr ht =
    let first : get_or s (i + 0) 0 ≡ get_or s i 0 = ap (λ (x : ℕ). get_or s x 0) (add-zero i) in
    let third : get_or s (i + 2 + 1) 0 ≡ get_or s (i + 3) 0 = ap (λ (x : ℕ). get_or s x 0) (omega arith) in
    let fifth : get_or s (i + 4 + 1) 0 ≡ get_or s (i + 5) 0 = ap (λ (x : ℕ). get_or s x 0) (omega arith) in
    let last : get_or s (i + 6 + 1) 0 ≡ get_or s (i + 7) 0 = ap (λ (x : ℕ). get_or s x 0) (omega arith) in
    sym (
    ap (λ (x : ℕ). number_of (take 8 (drop x s))) (sym (add-zero i))
    ∙ next s bytes i _ 0 7 (omega arith)
    ∙ next s bytes i _ 1 6 (omega arith)
    ∙ next s bytes i _ 2 5 (omega arith)
    ∙ next s bytes i _ 3 4 (omega arith)
    ∙ next s bytes i _ 4 3 (omega arith)
    ∙ next s bytes i _ 5 2 (omega arith)
    ∙ next s bytes i _ 6 1 (omega arith)
    ∙ next s bytes i _ 7 0 (omega arith)
    ∙ no_more _ (drop (i + 8) s)
    ∙ omega arith)

-- ---- the first k of eight

pub first_is : (s : List ℕ) → Bytes s → (k : ℕ) → k < 8 → 8 ≤ length s → number_of (take 8 s) / 2 ^ (64 - 8 * k) ≡ number_of (take k s)
first_is s bytes k h long =
    let others = drop k (take 8 s) in
    let left : 8 * length others ≡ 64 - 8 * k = simp (length-drop, length-take) (omega arith) in
    let m = 8 * length others in
    let fits : number_of others < 2 ^ m = number_fits others (bytes_drop k (take 8 s) (bytes_take 8 s bytes)) in
    let cut : number_of (take 8 s) ≡ bit_xor (number_of (take k s) * 2 ^ m) (number_of others) =
    ap number_of (sym (take-append-drop k (take 8 s)))
    ∙ behind_append 0 (take k (take 8 s)) others
    ∙ behind_apart (number_of (take k (take 8 s))) others
    ∙ ap (λ (l : List ℕ). bit_xor (number_of l * 2 ^ m) (number_of others)) (take-take k 8 s (omega arith)) in
    ap₂ (λ (x y : ℕ). x / 2 ^ y) cut (sym left)
    ∙ xor_shr (number_of (take k s) * 2 ^ m) (number_of others) m
    ∙ ap₂ bit_xor (shl-shr (number_of (take k s)) m) (div-eq_of_lt fits)
    ∙ xor_zero_r (number_of (take k s))

pub none_is : (s : List ℕ) {k : ℕ} → k ≡ 0 → 0 ≡ number_of (take k s)
unfolding behind
none_is s e = sym (ap (λ (x : ℕ). number_of (take x s)) e)

-- ---- a start, cut after k bytes

pub early_is : (c k : ℕ) → c < 65536 → k < 8 → c * 2 ^ 40 % 2 ^ 64 / 2 ^ (56 - 8 * k) ≡ c * 2 ^ (8 * k) / 65536
early_is c k fits h =
    let m = 8 * k in
    let whole : 56 - m + m ≡ 16 + 40 = omega arith in
    ap (λ (x : ℕ). x / 2 ^ (56 - m)) (shl_exact 16 40 64 fits (lit≤ tt))
    ∙ sym (part_up (c * 2 ^ 40) m (56 - m))
    ∙ ap₂ (λ (x y : ℕ). x / 2 ^ y) (up_up c 40 m ∙ ap (λ (x : ℕ). c * 2 ^ x) (omega arith) ∙ sym (up_up c m 40)) whole
    ∙ part_up (c * 2 ^ m) 40 16

-- ---- the loop over few bytes: what it has with what is left behind it is the whole number

pub record Taken (s : List ℕ) (n i : ℕ) : Type 0 where
  pub inside : i ≤ length s
  pub fits : n < 2 ^ (8 * i)
  pub whole : behind n (drop i s) ≡ number_of s

module _ (s : List ℕ) where
  pub taken_none : Taken s 0 0
  taken_none = record { inside = zero-le; fits = lit≤ tt; whole = refl }

  pub taken_more : {n i : ℕ} → Bytes s → length s < 8 → Taken s n i → i < length s → Taken s (bit_xor (n * 256 % 2 ^ 64) (get_or s i 0)) (i + 1)
  unfolding behind
  taken_more {n} {i} bytes few h more =
      let b = get_or s i 0 in
      let up : n * 256 % 2 ^ 64 ≡ n * 256 = shl_exact (8 * i) 8 64 h.fits (omega arith) in
      let sum : bit_xor (n * 256) b ≡ n * 256 + b = xor_shifted n 8 b (bytes i) in
      let power : 2 ^ (8 * (i + 1)) ≡ 2 ^ (8 * i) * 256 = ap (λ (x : ℕ). 2 ^ x) (omega arith) ∙ pow-add 2 (8 * i) 8 in
      record {
        inside = omega arith;
        fits = rw (up, sum, power) (digits_lt h.fits (bytes i));
        whole =
            ap (λ (x : ℕ). behind (bit_xor x b) (drop (i + 1) s)) up
            ∙ rw add-one (rw (drop-cons s i 0 more) at h.whole);
      }

  pub taken_all : {n i : ℕ} → Taken s n i → length s ≤ i → n ≡ number_of s
  unfolding behind
  taken_all {n} {i} h all = sym (ap (behind n) (drop_of_length-le s all)) ∙ h.whole
