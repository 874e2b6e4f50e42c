-- The eight seats of a collator: what they hold of a roster, and that a sender joins them as it joins the roster.
use mathlib.Core.Path.{◌≡◌, refl, sym, ap, ap₂, ◌∙◌}
use mathlib.Core.Bool.{Bool, true, false, cond}
use mathlib.Core.List.{List, [], ◌∷◌, ◌++◌}
use Prim.Native.Nat.{ℕ, zero, suc, ◌+◌, ◌≤◌, ◌<◌}
use native.Mathlib.Omega.{arith}
use lib.ListN.{length, set, take, replicate, length-append}
use Rattle.frames.specs.Frame.{Content}
use Rattle.observation.specs.Edition.{is_obs}
use Rattle.epochs.specs.Search.{names}
use Rattle.epochs.specs.Collator.{roster_of}
use Rattle.std.specs.Prelude.{Option, Some}
use Rattle.epochs.specs.declared.collating.Place.{Place}
use Rattle.epochs.specs.declared.collating.Collator.{Collator}
use Rattle.epochs.proofs.Senders.{roster_kept}
use Rattle.enlisting.specs.Enlisting.{new_seat, seated_in, joined_to, enlisted_to}
use Rattle.enlisting.proofs.Joining.{joined, enlisted, by_joining}
pub use Rattle.enlisting.proofs.Seats.{seat_had, seat_full, seat_free, seat_eight}

-- a collator of a roster, with its places in any state
abbrev pub held_in : List Place → List ℕ → Collator
held_in places roster = record { places = places; roster = take 8 (roster ++ replicate 8 0); count = length roster }

-- what the seats hold of a roster that fits is the roster
pub held_list : (places : List Place) (roster : List ℕ) → length roster ≤ 8 → roster_of (held_in places roster) ≡ roster
held_list places roster few = roster_kept roster few (λ s. [])

take-zeros : (m n k : ℕ) → m ≤ n → m ≤ k → ◌≡◌ {A = List ℕ} (take m (replicate n 0)) (take m (replicate k 0))
take-zeros zero n k h g = refl
take-zeros (suc m) zero k h g = absurd (omega arith)
take-zeros (suc m) (suc n) zero h g = absurd (omega arith)
take-zeros (suc m) (suc n) (suc k) h g = ap (λ (r : List ℕ). 0 ∷ r) (take-zeros m n k (omega arith) (omega arith))

-- the first free seat is taken
one_more : (xs : List ℕ) (n k x : ℕ) → length xs < n → n ≤ length xs + k → set (take n (xs ++ replicate k 0)) (length xs) x ≡ take n ((xs ++ x ∷ []) ++ replicate k 0)
one_more xs zero k x h g = absurd (omega arith)
one_more [] (suc n) zero x h g = absurd (omega arith)
one_more [] (suc n) (suc k) x h g = ap (λ (r : List ℕ). x ∷ r) (take-zeros n k (suc k) (omega arith) (omega arith))
one_more (y ∷ xs) (suc n) k x h g = ap (λ (r : List ℕ). y ∷ r) (one_more xs n k x (omega arith) (omega arith))

-- ---- so a sender joins the seats as it joins the roster

module _ (places : List Place) (roster : List ℕ) (few : length roster ≤ 8) where
  held_joined : (sender : ℕ) → joined_to (held_in places roster) sender ≡ held_in places (joined roster sender)
  held_joined sender =
      by_joining roster sender (λ (r : List ℕ). joined_to c sender ≡ held_in places r) (λ n. seated (seat_had c.roster c.count sender (listed ∙ n)))
      (λ n h. seated (seat_full c.roster c.count sender (listed ∙ n) (omega arith))) (λ n h. seated (seat_free c.roster c.count sender (listed ∙ n) h) ∙ last h)
    where
      c : Collator
      c = held_in places roster

      listed : names (roster_of c) sender ≡ names roster sender
      listed = ap (λ (xs : List ℕ). names xs sender) (held_list places roster few)

      seated : {x : Option ℕ} → new_seat c.roster c.count sender ≡ x → joined_to c sender ≡ seated_in x c sender
      seated e = ap (λ (x : Option ℕ). seated_in x c sender) e

      last : length roster < 8 → seated_in (Some c.count) c sender ≡ held_in places (roster ++ sender ∷ [])
      last h =
          ap₂ {C = Collator} (λ (ss : List ℕ) (n : ℕ). record { places = places; roster = ss; count = n }) (one_more roster 8 8 sender h (omega arith))
          (sym (length-append roster (sender ∷ [])))

  pub held_enlisted : (x : Content) → enlisted_to (held_in places roster) x.kind x.sender ≡ held_in places (enlisted roster x)
  unfolding enlisted_to
  held_enlisted x = by (is_obs x.kind)
    where
      by : (t : Bool) → cond t (joined_to (held_in places roster) x.sender) (held_in places roster) ≡ held_in places (cond t (joined roster x.sender) roster)
      by true = held_joined x.sender
      by false = refl
