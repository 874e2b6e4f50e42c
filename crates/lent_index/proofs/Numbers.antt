-- The counts read number by number.
use mathlib.Core.Path.{◌≡◌, refl, sym, ap, ◌∙◌, subst}
use mathlib.Core.Bool.{Bool, true, false}
use mathlib.Core.List.{List}
use Prim.Native.Nat.{ℕ, ◌+◌, ◌≤◌, ◌<◌}
use native.Mathlib.Omega.{arith}
use lib.Dec.{eqb}
use lib.ListN.{length, get_or, set, length-set}
use lib.Seq.{get_or-set_same, get_or-set_other}
use borrow.Author.Tests.{eqb-true, eqb-false}
use Rattle.payloads.specs.Places.{message_count}
use Rattle.wire.specs.Tabulated.{tabulated}
use Rattle.wire.proofs.Tables.{tabulated_all}

-- ---- an array filled by f, place by place

module _ (f : ℕ → ℕ) where
  -- the first i are there
  abbrev pub Filled : List ℕ → ℕ → Type 0
  Filled xs i = (i ≤ message_count) × (length xs ≡ message_count) × ((j : ℕ) → j < i → f j ≡ get_or xs j 0)

  pub one_filled : (xs : List ℕ) (i : ℕ) {v : ℕ} → Filled xs i → i < message_count → v ≡ f i → Filled (set xs i v) (i + 1)
  one_filled xs i {v} (few, size, have) h e = (omega arith, length-set xs i v ∙ size, λ j b. by j b (eqb j i) refl)
    where
      by : (j : ℕ) → j < i + 1 → (t : Bool) → eqb j i ≡ t → f j ≡ get_or (set xs i v) j 0
      by j b true q = ap f (eqb-true j i q) ∙ sym e ∙ sym (get_or-set_same xs i v 0 (omega arith)) ∙ ap (λ (k : ℕ). get_or (set xs i v) k 0) (sym (eqb-true j i q))
      by j b false q = have j (omega (arith, eqb-false j i q)) ∙ sym (get_or-set_other xs i j v 0 (eqb-false j i q))

  pub all_filled : (xs : List ℕ) (i : ℕ) → Filled xs i → message_count ≤ i → xs ≡ tabulated f message_count
  all_filled xs i (few, size, have) h = sym (subst (λ (n : ℕ). tabulated f n ≡ xs) size (tabulated_all f xs 0 (λ j b. have j (omega arith))))
