-- What was found, and whether an epoch ended, by their numbers.
use mathlib.Core.Path.{◌≡◌, refl}
use Rattle.std.specs.Prelude.{ℕ, Bool, true, false, ltb, Result}
use seplogic.Ra.Ura.{Ura}
use base.Logic.{ent, sep}
use contract.Monad.{fact}
use Rattle.refusals.specs.Refusals.{as_number}
use Rattle.refusals.specs.Numbers.{answer_of}
use Rattle.refusals.specs.declared.Refusal.{Refusal}
use Rattle.frame_rows.specs.Found.{found_number}
use Rattle.frame_rows.specs.declared.reading.Found.{Found}
use Rattle.frame_rows.specs.declared.reading.Found.TheVariants.{Frame, End, Needs}
use Rattle.states.specs.Feed.{epoch_number}
use Rattle.calls.specs.Replies.{told_by}
use Rattle.calls.proofs.Giving as by
use Rattle.linked_calls.specs.Linked.{found_by, ended_by}

pub found_back : (x : Found) → found_by (found_number x) ≡ x
found_back Frame = refl
found_back End = refl
found_back Needs = refl

pub found_below : (x : Found) → ltb (found_number x) 11 ≡ true
found_below Frame = refl
found_below End = refl
found_below Needs = refl

pub ended_back : (x : Bool) → ended_by (epoch_number x) ≡ x
ended_back true = refl
ended_back false = refl

pub ended_below : (x : Bool) → ltb (epoch_number x) 11 ≡ true
ended_below true = refl
ended_below false = refl

module _ {M : Type 1} (𝓤 : Ura M) where
  pub found : {B : Type 0} (x : Result Found Refusal) (n : ℕ) (b e : B)
      → ent 𝓤 (sep 𝓤 (fact 𝓤 (as_number found_number (answer_of x) ≡ n)) (fact 𝓤 (b ≡ e))) (fact 𝓤 ((x ≡ told_by found_by n) × ((b ≡ e) × Unit {0})))
  found = by.told_stored 𝓤 found_number found_by found_back found_below

  pub ended : {B C : Type 0} (x : Result Bool Refusal) (n : ℕ) (b e : B) (u w : C)
      → ent 𝓤 (sep 𝓤 (fact 𝓤 (as_number epoch_number (answer_of x) ≡ n)) (sep 𝓤 (fact 𝓤 (b ≡ e)) (fact 𝓤 (u ≡ w)))) (fact 𝓤 ((x ≡ told_by ended_by n) × ((b ≡ e) × ((u ≡ w) × Unit {0}))))
  ended = by.told_stored_stored 𝓤 epoch_number ended_by ended_back ended_below
