-- A digit's format, by cases as a match on the digit has them.
use mathlib.Core.Path.{◌≡◌, ap, ◌∙◌}
use mathlib.Core.Logic.{◌⊎◌, inl, inr}
use mathlib.Core.Bool.{Bool, true, false, cond}
use Prim.Native.Nat.{ℕ, ◌≤◌}
use native.Mathlib.Omega.{arith}
use lib.Dec.{eqb}
use borrow.Author.Tests.{ne_eqb}
use Rattle.wire.specs.Value.{u8, u16, u32, s16, s32, double, width}
use Rattle.formats.specs.Digits.{format_by}

-- what two digits of one arm have alike
pub either : {A : Type 0} (f : ℕ → A) (j k : ℕ) {a : A} {d : ℕ} → f j ≡ a → f k ≡ a → (d ≡ j) ⊎ (d ≡ k) → f d ≡ a
either f j k p q (inl e) = ap f e ∙ p
either f j k p q (inr e) = ap f e ∙ q

-- every other digit is a double's
pub otherwise : (d : ℕ) → (d ≡ 1 → ⊥) → (d ≡ 2 → ⊥) → (d ≡ 4 → ⊥) → (d ≡ 10 → ⊥) → (d ≡ 12 → ⊥) → format_by d ≡ double
otherwise d a b e f g = rw (ne_eqb d 1 a, ne_eqb d 2 b, ne_eqb d 4 e, ne_eqb d 10 f, ne_eqb d 12 g)

pub at_most_eight : (d : ℕ) → width (format_by d) ≤ 8
at_most_eight d = by (eqb d 1) (eqb d 2) (eqb d 4) (eqb d 10) (eqb d 12)
  where
    by : (a b e f g : Bool) → width (cond a u8 (cond b u16 (cond e u32 (cond f s16 (cond g s32 double))))) ≤ 8
    by true b e f g = omega arith
    by false true e f g = omega arith
    by false false true f g = omega arith
    by false false false true g = omega arith
    by false false false false true = omega arith
    by false false false false false = omega arith
