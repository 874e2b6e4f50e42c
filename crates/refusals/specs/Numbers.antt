-- The refusals that code hands back, by document 01's numbers, and what a result answers.
use Rattle.std.specs.Prelude.{ℕ, Result, Ok, Err}
use Rattle.refusals.specs.Refusals.{Answer, given, refused}
use Rattle.refusals.specs.declared.Refusal.{Refusal}
use Rattle.refusals.specs.declared.Refusal.TheVariants.{CaptureTooLong, UnknownType, WrongLength, OutOfRange, NoObservation, TooLong, NoRoom, PhaseOutOfRange, RosterLength, RosterRepeats, NotListed, NoPackets, PastLast, NotObservations, Copied, ListTooShort, CaptureTooShort}

abbrev pub number_of : Refusal → ℕ
number_of CaptureTooLong = 11
number_of UnknownType = 21
number_of WrongLength = 22
number_of OutOfRange = 23
number_of NoObservation = 25
number_of TooLong = 31
number_of NoRoom = 32
number_of PhaseOutOfRange = 33
number_of RosterLength = 41
number_of RosterRepeats = 42
number_of NotListed = 43
number_of NoPackets = 44
number_of PastLast = 45
number_of NotObservations = 46
number_of Copied = 47
number_of ListTooShort = 51
number_of CaptureTooShort = 52

-- what a result answers: what was asked for, or the number of its refusal
abbrev pub answer_of : {A : Type 0} → Result A Refusal → Answer A
answer_of (Ok x) = given x
answer_of (Err e) = refused (number_of e)
