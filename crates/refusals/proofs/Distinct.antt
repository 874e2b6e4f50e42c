-- Answers that differ, and answers behind a test.
use mathlib.Core.Path.{◌≡◌}
use mathlib.Core.Bool.{Bool, true, false, cond}
use Prim.Native.Nat.{ℕ}
use native.Mathlib.Omega.{arith}
use Rattle.refusals.specs.Refusals.{refused, given, Answer}

-- ---- that differ

pub same_given : {A : Type 0} {o : Answer A} {x y : A} → o ≡ given x → o ≡ given y → x ≡ y
same_given p q = cc

pub never_both : {A : Type 0} {o : Answer A} {x : A} {n : ℕ} → o ≡ given x → o ≡ refused n → ⊥
never_both p q = let z : ◌≡◌ {A = ℕ} 0 1 = cc in omega arith

pub same_refused : {A : Type 0} {o : Answer A} {m n : ℕ} → o ≡ refused m → o ≡ refused n → m ≡ n
same_refused p q = cc

-- ---- behind a test

module _ {A : Type 0} (x : A) (n : ℕ) where
  pub passed : {t : Bool} → t ≡ true → cond t (given x) (refused n) ≡ given x
  passed e = rw e

  pub failed : {t : Bool} → t ≡ false → cond t (given x) (refused n) ≡ refused n
  failed e = rw e
