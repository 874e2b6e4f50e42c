-- A sender's frames stay as they are where frames of other senders change places, come or go.
use mathlib.Core.Path.{◌≡◌, refl, sym, ap, ◌∙◌}
use mathlib.Core.Bool.{Bool, true, false, cond}
use mathlib.Core.List.{List, [], ◌∷◌, ◌++◌}
use Prim.Native.Nat.{ℕ}
use lib.Dec.{eqb}
use borrow.Author.Tests.{eqb-true}
use Rattle.epochs.specs.Epoch.{of_sender}
use Rattle.frames.specs.Frame.{Content}

-- what stands before changes nothing of what comes after
before : (s : ℕ) (xs ys zs : List Content) → of_sender s ys ≡ of_sender s zs → of_sender s (xs ++ ys) ≡ of_sender s (xs ++ zs)
unfolding of_sender
before s [] ys zs e = e
before s (x ∷ xs) ys zs e = ap (λ (zs : List Content). cond (eqb x.sender s) (x ∷ zs) zs) (before s xs ys zs e)

pub change_places : (s : ℕ) (xs : List Content) (x y : Content) (ys : List Content) → (x.sender ≡ y.sender → ⊥) → of_sender s (xs ++ x ∷ y ∷ ys) ≡ of_sender s (xs ++ y ∷ x ∷ ys)
unfolding of_sender
change_places s xs x y ys other = before s xs (x ∷ y ∷ ys) (y ∷ x ∷ ys) (by (eqb x.sender s) (eqb y.sender s) refl refl)
  where
    by : (t u : Bool) → eqb x.sender s ≡ t → eqb y.sender s ≡ u
        → cond t (x ∷ cond u (y ∷ of_sender s ys) (of_sender s ys)) (cond u (y ∷ of_sender s ys) (of_sender s ys))
        ≡ cond u (y ∷ cond t (x ∷ of_sender s ys) (of_sender s ys)) (cond t (x ∷ of_sender s ys) (of_sender s ys))
    by true true p q = absurd (other (eqb-true x.sender s p ∙ sym (eqb-true y.sender s q)))
    by true false p q = refl
    by false true p q = refl
    by false false p q = refl

pub nobodys : (s : ℕ) (xs : List Content) (x : Content) (ys : List Content) → (x.sender ≡ s → ⊥) → of_sender s (xs ++ x ∷ ys) ≡ of_sender s (xs ++ ys)
unfolding of_sender
nobodys s xs x ys other = before s xs (x ∷ ys) ys (by (eqb x.sender s) refl)
  where
    by : (t : Bool) → eqb x.sender s ≡ t → cond t (x ∷ of_sender s ys) (of_sender s ys) ≡ of_sender s ys
    by true q = absurd (other (eqb-true x.sender s q))
    by false q = refl
