-- A list by what stands at each index.
use Rattle.std.specs.Prelude.{ℕ, zero, suc, List, [], ◌∷◌}

-- f at 0, 1, .., n of them
unfoldable pub tabulated : {A : Type 0} → (ℕ → A) → ℕ → List A
tabulated f zero = []
tabulated f (suc n) = f zero ∷ tabulated (λ k. f (suc k)) n
