-- A bit by a shift, over the width, and where no bits can be all that are asked for.
use Rattle.std.proofs.Common.{◌≡◌, ℕ, ◌+◌, ◌*◌, ◌%◌, ◌^◌, ◌<◌, false, sym, ◌∙◌, mod-eq_of_lt, one-mul, arith, lit<, shl_exact, ne_eqb}
use lib.Bits.{bit_or, or_lt}
use lib.Pow.{pow-lt}
use Rattle.groups.specs.Group.{bit_of, all_come}

pub one_bit : (w k : ℕ) → k < w → 1 * 2 ^ k % 2 ^ w ≡ 2 ^ k
one_bit w k h = shl_exact 1 k w (lit< tt) (omega arith) ∙ one-mul (2 ^ k)

pub or_fits : (w a b : ℕ) → a < 2 ^ w → b < 2 ^ w → bit_or a b % 2 ^ w ≡ bit_or a b
or_fits w a b ha hb = mod-eq_of_lt (or_lt w a b ha hb)

pub too_many : (come n : ℕ) → come < 65536 → 16 < n → false ≡ all_come come n
too_many come n small many = sym (ne_eqb (come + 1) (2 ^ n) (λ e. omega (arith, pow-lt many)))

pub bit_small : (counter : ℕ) → bit_of counter < 65536
bit_small counter = pow-lt {i = counter % 16} {j = 16} (omega arith)
