-- Lists by their index: what stands at one, when two are the same, one index changed.
use mathlib.Core.Path.{◌≡◌, refl, ap, ap₂}
use mathlib.Core.List.{List, [], ◌∷◌}
use Prim.Native.Nat.{ℕ, zero, suc, ◌<◌}
use native.Mathlib.Nat.{le_of_suc-le-suc, not-suc-le-zero}
use native.Mathlib.Omega.{arith}
use lib.ListN.{length, get_or, set}
use Rattle.wire.specs.Tabulated.{tabulated}

pub tabulated_at : {A : Type 0} (f : ℕ → A) (n k : ℕ) (d : A) → k < n → get_or (tabulated f n) k d ≡ f k
unfolding tabulated
tabulated_at f zero k d h = absurd (not-suc-le-zero h)
tabulated_at f (suc n) zero d h = refl
tabulated_at f (suc n) (suc k) d h = tabulated_at (λ j. f (suc j)) n k d (le_of_suc-le-suc h)

module _ {A : Type 0} where
  pub tabulated_same : (f g : ℕ → A) (n : ℕ) → ((j : ℕ) → j < n → f j ≡ g j) → tabulated f n ≡ tabulated g n
  unfolding tabulated
  tabulated_same f g zero h = refl
  tabulated_same f g (suc n) h =
      ap₂ (λ (x : A) (xs : List A). x ∷ xs) (h 0 (omega arith)) (tabulated_same (λ k. f (suc k)) (λ k. g (suc k)) n (λ j b. h (suc j) (omega arith)))

  -- one index alone is another's
  pub tabulated_set : (f g : ℕ → A) (n j : ℕ) → j < n → ((k : ℕ) → k < n → (k ≡ j → ⊥) → g k ≡ f k) → tabulated g n ≡ set (tabulated f n) j (g j)
  unfolding tabulated
  tabulated_set f g zero j h others = absurd (omega arith)
  tabulated_set f g (suc n) zero h others =
      ap (λ (xs : List A). g 0 ∷ xs) (tabulated_same (λ k. g (suc k)) (λ k. f (suc k)) n (λ k b. others (suc k) (omega arith) (λ e. omega arith)))
  tabulated_set f g (suc n) (suc j) h others =
      ap₂ (λ (x : A) (xs : List A). x ∷ xs) (others 0 (omega arith) (λ e. omega arith))
      (tabulated_set (λ k. f (suc k)) (λ k. g (suc k)) n j (omega arith) (λ k b other. others (suc k) (omega arith) (λ e. other (omega arith))))

  pub tabulated_all : (f : ℕ → A) (xs : List A) (d : A) → ((j : ℕ) → j < length xs → f j ≡ get_or xs j d) → tabulated f (length xs) ≡ xs
  unfolding tabulated
  tabulated_all f [] d h = refl
  tabulated_all f (x ∷ xs) d h =
      ap₂ (λ (x : A) (xs : List A). x ∷ xs) (h 0 (omega arith)) (tabulated_all (λ k. f (suc k)) xs d (λ j b. h (suc j) (omega arith)))
