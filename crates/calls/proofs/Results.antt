-- A result comes back from the answer that a contract speaks of, so it is determined by it.
use mathlib.Core.Path.{◌≡◌, refl, sym, ap, ◌∙◌}
use mathlib.Core.List.{[], ◌∷◌, map}
use Rattle.std.specs.Prelude.{ℕ, true, false, ltb, Result, Ok, Err}
use Rattle.refusals.specs.Refusals.{Answer, as_number}
use Rattle.refusals.specs.Numbers.{number_of, answer_of}
use Rattle.refusals.specs.declared.Refusal.{Refusal}
use Rattle.refusals.specs.declared.Refusal.TheVariants.{CaptureTooLong, UnknownType, WrongLength, OutOfRange, NoObservation, TooLong, NoRoom, PhaseOutOfRange, RosterLength, RosterRepeats, NotListed, NoPackets, PastLast, NotObservations, Copied, ListTooShort, CaptureTooShort}
use Rattle.calls.specs.Replies.{refusal_of, result_of, told_by}

-- no two refusals have one number
pub refusal_back : (e : Refusal) → refusal_of (number_of e) ≡ e
refusal_back CaptureTooLong = refl
refusal_back UnknownType = refl
refusal_back WrongLength = refl
refusal_back OutOfRange = refl
refusal_back NoObservation = refl
refusal_back TooLong = refl
refusal_back NoRoom = refl
refusal_back PhaseOutOfRange = refl
refusal_back RosterLength = refl
refusal_back RosterRepeats = refl
refusal_back NotListed = refl
refusal_back NoPackets = refl
refusal_back PastLast = refl
refusal_back NotObservations = refl
refusal_back Copied = refl
refusal_back ListTooShort = refl
refusal_back CaptureTooShort = refl

-- and each numeral is its refusal's, the first too, which stands for what is no refusal's number
pub numbers_back : map (λ n. number_of (refusal_of n)) (11 ∷ 21 ∷ 22 ∷ 23 ∷ 25 ∷ 31 ∷ 32 ∷ 33 ∷ 41 ∷ 42 ∷ 43 ∷ 44 ∷ 45 ∷ 46 ∷ 47 ∷ 51 ∷ 52 ∷ [])
    ≡ (11 ∷ 21 ∷ 22 ∷ 23 ∷ 25 ∷ 31 ∷ 32 ∷ 33 ∷ 41 ∷ 42 ∷ 43 ∷ 44 ∷ 45 ∷ 46 ∷ 47 ∷ 51 ∷ 52 ∷ [])
numbers_back = refl

pub result_back : {A : Type 0} → (r : Result A Refusal) → result_of (answer_of r) ≡ r
result_back (Ok x) = refl
result_back (Err e) = ap Err (refusal_back e)

pub by_answer : {A : Type 0} {r : Result A Refusal} {d : Answer A} → answer_of r ≡ d → r ≡ result_of d
by_answer {A} {r} p = sym (result_back r) ∙ ap result_of p

pub same_answer : {A : Type 0} {r s : Result A Refusal} {d : Answer A} → answer_of r ≡ d → answer_of s ≡ d → r ≡ s
same_answer p q = by_answer p ∙ sym (by_answer q)

-- ---- by a number that says what is given, and is none of a refusal's

pub above : (e : Refusal) → ltb (number_of e) 11 ≡ false
above CaptureTooLong = refl
above UnknownType = refl
above WrongLength = refl
above OutOfRange = refl
above NoObservation = refl
above TooLong = refl
above NoRoom = refl
above PhaseOutOfRange = refl
above RosterLength = refl
above RosterRepeats = refl
above NotListed = refl
above NoPackets = refl
above PastLast = refl
above NotObservations = refl
above Copied = refl
above ListTooShort = refl
above CaptureTooShort = refl

module _ {A : Type 0} (number : A → ℕ) (of : ℕ → A) (back : (x : A) → of (number x) ≡ x) (below : (x : A) → ltb (number x) 11 ≡ true) where
  told_back : (r : Result A Refusal) → told_by of (as_number number (answer_of r)) ≡ r
  told_back (Ok x) = rw (below x) (ap Ok (back x))
  told_back (Err e) = rw (above e) (ap Err (refusal_back e))

  pub by_number : {r : Result A Refusal} {n : ℕ} → as_number number (answer_of r) ≡ n → r ≡ told_by of n
  by_number {r} p = sym (told_back r) ∙ ap (told_by of) p

  pub same_number : {r s : Result A Refusal} {n : ℕ} → as_number number (answer_of r) ≡ n → as_number number (answer_of s) ≡ n → r ≡ s
  same_number p q = by_number p ∙ sym (by_number q)
