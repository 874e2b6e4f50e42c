-- Numbers in decimal: one digit and one more, and how many there are.
use Rattle.std.proofs.Common.{◌≡◌, ℕ, zero, suc, ◌+◌, ◌/◌, ◌%◌, ◌^◌, ◌<◌, ◌≤◌, Bool, true, false, ltb, List, [], ◌∷◌, ◌++◌, length, refl, ap, ◌∙◌, pow-suc, arith, length-append, ltb-false, ltb-true, le-ltb, lt-ltb}
use Rattle.text.specs.Decimal.{digit, digits_of, decimal}

-- how many digits are allowed for does not matter once they are enough
enough : (j k n : ℕ) → n < j → n < k → digits_of j n ≡ digits_of k n
unfolding digits_of
enough zero k n h g = absurd (omega arith)
enough (suc j) zero n h g = absurd (omega arith)
enough (suc j) (suc k) n h g = by (ltb n 10) refl (λ l m. enough j k (n / 10) l m)
  where
    by : (t : Bool) → ltb n 10 ≡ t → (n / 10 < j → n / 10 < k → digits_of j (n / 10) ≡ digits_of k (n / 10)) → digits_of (suc j) n ≡ digits_of (suc k) n
    by true e rest = rw e
    by false e rest = let big = ltb-false n 10 e in rw e (ap (λ (ds : List ℕ). ds ++ digit (n % 10) ∷ []) (rest (omega arith) (omega arith)))

pub one_digit : (n : ℕ) → n < 10 → decimal n ≡ digit n ∷ []
unfolding digits_of
one_digit n h = rw (lt-ltb n 10 h)

pub more_digits : (n : ℕ) → 10 ≤ n → decimal n ≡ decimal (n / 10) ++ digit (n % 10) ∷ []
unfolding digits_of
more_digits n h =
    rw (le-ltb n 10 h) (ap (λ (ds : List ℕ). ds ++ digit (n % 10) ∷ []) (enough n (suc (n / 10)) (n / 10) (omega arith) (omega arith)))

pub one_long : (n : ℕ) → n < 10 → length (decimal n) ≡ 1
one_long n h = ap length (one_digit n h)

pub one_longer : (n : ℕ) → 10 ≤ n → length (decimal n) ≡ length (decimal (n / 10)) + 1
one_longer n h = ap length (more_digits n h) ∙ length-append (decimal (n / 10)) (digit (n % 10) ∷ [])

-- a number below 10 ^ (k + 1) has at most k + 1 digits
pub few_digits : (k n : ℕ) → n < 10 ^ suc k → length (decimal n) ≤ suc k
few_digits zero n h = let one = one_long n (omega arith) in omega (arith, one)
few_digits (suc k) n h = by (ltb n 10) refl (λ l. few_digits k (n / 10) l)
  where
    by : (t : Bool) → ltb n 10 ≡ t → (n / 10 < 10 ^ suc k → length (decimal (n / 10)) ≤ suc k) → length (decimal n) ≤ suc (suc k)
    by true e rest = omega (arith, one_long n (ltb-true n 10 e))
    by false e rest =
        let big = ltb-false n 10 e in
        let less : n / 10 < 10 ^ suc k = omega (arith, pow-suc 10 (suc k), h) in
        omega (arith, one_longer n big, rest less)

pub some_digit : (n : ℕ) → 1 ≤ length (decimal n)
some_digit n = by (ltb n 10) refl
  where
    by : (t : Bool) → ltb n 10 ≡ t → 1 ≤ length (decimal n)
    by true e = omega (arith, one_long n (ltb-true n 10 e))
    by false e = omega (arith, one_longer n (ltb-false n 10 e))
