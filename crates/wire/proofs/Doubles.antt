-- What 64 bits stand for has those bits: for every pattern, minus zero and every NaN's included.
use mathlib.Core.Path.{◌≡◌, refl, sym, ap, ◌∙◌}
use mathlib.Core.Bool.{Bool, true, false, not, false≢true}
use Prim.Native.Nat.{ℕ, ◌^◌, ◌<◌}
use lib.Dec.{T, lit<}
use lib.Ieee.{Float, nan, inf, fin, binary64, of_bits, to_bits, is_nan, nan_bits, fits, eq, ne}
use lib.Ieee.Bits.{to_bits-of_bits, nan_bits_is, to_bits-lt}
use lib.Ieee.Compare.{differs_from_itself}
use Rattle.wire.specs.Double.{double_of, double_bits, plain_nan}
use Rattle.wire.specs.declared.double.Double.{Double}

-- ---- by cases on whether there is a NaN

is_nan_lem : (x : Float) → is_nan x ≡ true → x ≡ nan
unfolding is_nan
is_nan_lem nan e = refl
is_nan_lem (inf s) e = absurd (false≢true e)
is_nan_lem (fin s m k) e = absurd (false≢true e)

nan_is : is_nan nan ≡ true
unfolding is_nan
nan_is = refl

pub fails : {t : Bool} → t ≡ false → T (not t)
fails e = rw e tt

-- the test x == x tells a NaN from a number
pub equals_itself : (x : Float) → eq x x ≡ true → is_nan x ≡ false
unfolding is_nan eq
equals_itself nan e = absurd (false≢true e)
equals_itself (inf s) e = refl
equals_itself (fin s m k) e = refl

pub differs_from_self : (x : Float) → eq x x ≡ false → is_nan x ≡ true
unfolding ne
differs_from_self x e = ap is_nan (differs_from_itself x (fails e)) ∙ nan_is

pub of_nan : (n : ℕ) → nan_bits binary64 n ≡ true → double_of n ≡ record { value = nan; nan = n }
unfolding double_of
of_nan n e = rw (is_nan_lem (of_bits binary64 n) (sym (nan_bits_is binary64 n) ∙ e), e)

pub of_number : (n : ℕ) → nan_bits binary64 n ≡ false → double_of n ≡ record { value = of_bits binary64 n; nan = 0 }
unfolding double_of
of_number n e = rw e

pub bits_of_number : (d : Double) → is_nan d.value ≡ false → double_bits d ≡ to_bits binary64 d.value
unfolding double_bits
bits_of_number d e = rw e

pub bits_of_nan : (d : Double) → is_nan d.value ≡ true → nan_bits binary64 d.nan ≡ true → double_bits d ≡ d.nan
unfolding double_bits
bits_of_nan d e p = rw (e, p)

pub bits_of_other_nan : (d : Double) → is_nan d.value ≡ true → nan_bits binary64 d.nan ≡ false → double_bits d ≡ plain_nan
unfolding double_bits
bits_of_other_nan d e p = rw (e, p)

-- ---- the law

pub bits_double_of : (n : ℕ) → n < 2 ^ 64 → double_bits (double_of n) ≡ n
bits_double_of n h = go (nan_bits binary64 n) refl
  where
    go : (t : Bool) → nan_bits binary64 n ≡ t → double_bits (double_of n) ≡ n
    go true e = ap double_bits (of_nan n e) ∙ bits_of_nan (record { value = nan; nan = n }) nan_is e
    go false e = ap double_bits (of_number n e) ∙ bits_of_number (record { value = of_bits binary64 n; nan = 0 }) (sym (nan_bits_is binary64 n) ∙ e) ∙ to_bits-of_bits binary64 n h (fails (sym (nan_bits_is binary64 n) ∙ e))

-- every double has 64 bits
pub double_bits_lt : (d : Double) → T (fits binary64 d.value) → d.nan < 2 ^ 64 → double_bits d < 2 ^ 64
double_bits_lt d f h = go (is_nan d.value) refl (nan_bits binary64 d.nan) refl
  where
    go : (t : Bool) → is_nan d.value ≡ t → (p : Bool) → nan_bits binary64 d.nan ≡ p → double_bits d < 2 ^ 64
    go true e true p = rw (bits_of_nan d e p) h
    go true e false p = rw (bits_of_other_nan d e p) (lit< tt)
    go false e p q = rw (bits_of_number d e) (to_bits-lt binary64 d.value f)
