-- What a call answers, and its refusals: tests in order, each with the number of its refusal, of which the first that fails decides.
-- Document 01, "Numbers given back" and "Order".
use Rattle.std.specs.Prelude.{ℕ, ◌≡◌, Bool, true, false, cond, List, [], ◌∷◌, ◌⊎◌, leb}

-- what a call answers: what was asked for, or the number of its refusal
pub data Answer (A : Type 0) : Type 0 where
  given : A → Answer A
  refused : ℕ → Answer A

-- the same answer of what f makes of it
abbrev pub mapped : {A B : Type 0} → (A → B) → Answer A → Answer B
mapped f (given x) = given (f x)
mapped f (refused n) = refused n

-- what has to be so, and the number of the refusal where it is not
abbrev pub Tests : Type 0
Tests = List (Bool × ℕ)

-- what passes every test is given, else the number of the first that it fails
abbrev pub ordered : {A : Type 0} → Tests → A → Answer A
ordered [] x = given x
ordered (t ∷ ts) x = cond t.0 (ordered ts x) (refused t.1)

-- a call: its tests in order, and what it gives where they all pass. Its answer is read off it, and of that its number and what it leaves
pub record Call (A : Type 0) : Type 0 where
  pub tests : Tests
  pub value : A

abbrev pub reply : {A : Type 0} → Call A → Answer A
reply c = ordered c.tests c.value

-- what a call leaves of what it is lent: a refusal leaves it as it was
abbrev pub leaves : {A B : Type 0} → (A → B → B) → Answer A → B → B
leaves put (given x) lent = put x lent
leaves put (refused n) lent = lent

-- the number that C and Rust are handed: what is given has one of its own, a refusal has its own
abbrev pub as_number : {A : Type 0} → (A → ℕ) → Answer A → ℕ
as_number number (given x) = number x
as_number number (refused n) = n

-- 0, or the number of a refusal
abbrev pub zero_or : {A : Type 0} → Answer A → ℕ
zero_or = as_number (λ x. 0)

-- 32 where n bytes or numbers have no room
abbrev pub room_for : ℕ → ℕ → Tests
room_for n room = (leb n room, 32) ∷ []

-- n is the number of the first test that fails
abbrev pub FirstFails : Tests → ℕ → Type 0
FirstFails [] n = ⊥
FirstFails (t ∷ ts) n = ((t.0 ≡ false) × (n ≡ t.1)) ⊎ ((t.0 ≡ true) × FirstFails ts n)

abbrev pub AllPass : Tests → Type 0
AllPass [] = Unit {0}
AllPass (t ∷ ts) = (t.0 ≡ true) × AllPass ts
