-- A number in decimal, as ASCII digits, without leading zeros.
use Rattle.std.specs.Prelude.{ℕ, zero, suc, ◌+◌, ◌/◌, ◌%◌, cond, List, [], ◌∷◌, ◌++◌, nat_lt}

abbrev pub digit : ℕ → ℕ
digit d = 48 + d

-- the digits of n, of which there are at most k
unfoldable pub digits_of : ℕ → ℕ → List ℕ
digits_of zero n = []
digits_of (suc k) n = cond (nat_lt n 10) (digit n ∷ []) (digits_of k (n / 10) ++ digit (n % 10) ∷ [])

-- n has at most n + 1 digits
abbrev pub decimal : ℕ → List ℕ
decimal n = digits_of (suc n) n
