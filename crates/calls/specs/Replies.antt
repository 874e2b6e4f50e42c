-- What a call hands back and what it leaves of what it is lent, both read off one call: a refusal hands back its number and leaves all as it was.
use Rattle.std.specs.Prelude.{List, ◌++◌, ℕ, drop, eqb, ltb, cond, Result, Ok, Err}
use Rattle.refusals.specs.Refusals.{Answer, given, refused, Call, reply, leaves, as_number, zero_or}
use Rattle.refusals.specs.declared.Refusal.{Refusal}
use Rattle.refusals.specs.declared.Refusal.TheVariants.{CaptureTooLong, UnknownType, WrongLength, OutOfRange, NoObservation, TooLong, NoRoom, PhaseOutOfRange, RosterLength, RosterRepeats, NotListed, NoPackets, PastLast, NotObservations, Copied, ListTooShort, CaptureTooShort}

-- ---- in Rattle: what was asked for, or a refusal

-- the refusal of a number, each by its numeral; of a number that is none's, the first
abbrev pub refusal_of : ℕ → Refusal
refusal_of n =
    cond (eqb n 11) CaptureTooLong
    (cond (eqb n 21) UnknownType
    (cond (eqb n 22) WrongLength
    (cond (eqb n 23) OutOfRange
    (cond (eqb n 25) NoObservation
    (cond (eqb n 31) TooLong
    (cond (eqb n 32) NoRoom
    (cond (eqb n 33) PhaseOutOfRange
    (cond (eqb n 41) RosterLength
    (cond (eqb n 42) RosterRepeats
    (cond (eqb n 43) NotListed
    (cond (eqb n 44) NoPackets
    (cond (eqb n 45) PastLast
    (cond (eqb n 46) NotObservations
    (cond (eqb n 47) Copied
    (cond (eqb n 51) ListTooShort
    (cond (eqb n 52) CaptureTooShort CaptureTooLong))))))))))))))))

abbrev pub result_of : {A : Type 0} → Answer A → Result A Refusal
result_of (given x) = Ok x
result_of (refused n) = Err (refusal_of n)

abbrev pub hands_back : {A : Type 0} → Call A → Result A Refusal × Unit {0}
hands_back c = (result_of (reply c), tt)

-- by a number: below 11, of what is given; else of a refusal
abbrev pub told_by : {A : Type 0} → (ℕ → A) → ℕ → Result A Refusal
told_by of n = cond (ltb n 11) (Ok (of n)) (Err (refusal_of n))

-- where nothing is asked for but that it is done
abbrev pub done_or : ℕ → Result (Unit {0}) Refusal
done_or = told_by (λ n. tt)

-- how many bytes were written, and the buffer with them at its start and the bytes after them as they were
abbrev pub puts : Call ℕ → List ℕ → List ℕ → Result ℕ Refusal × (List ℕ × Unit {0})
puts c bytes buf = (result_of (reply c), (leaves (λ n was. bytes ++ drop n was) (reply c) buf, tt))

-- ---- for C and Rust: a number

-- by itself
abbrev pub hands : {A : Type 0} → (A → ℕ) → Call A → ℕ × Unit {0}
hands number c = (as_number number (reply c), tt)

-- and one thing that was lent
abbrev pub fills : {A B : Type 0} → (A → ℕ) → (A → B → B) → Call A → B → ℕ × (B × Unit {0})
fills number put c lent = (as_number number (reply c), (leaves put (reply c) lent, tt))

-- and a buffer with bytes at its start, and how many they are
abbrev pub sends : Call ℕ → List ℕ → List ℕ → ℕ → ℕ × (List ℕ × (ℕ × Unit {0}))
sends c bytes out size = (zero_or (reply c), (leaves (λ n was. bytes ++ drop n was) (reply c) out, (leaves (λ n was. n) (reply c) size, tt)))
