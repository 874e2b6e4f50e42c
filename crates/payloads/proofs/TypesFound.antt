-- The messages by their type numbers are those of the one list: what is told of a number by what was found under it.
use Rattle.std.proofs.Common.{◌≡◌, ℕ, suc, Bool, true, false, cond, eqb, List, [], ◌∷◌, map, length, Some, None, Result, Ok, Err, refl, sym, ap, ◌∙◌, arith}
use borrow.Author.Tests.{eqb-true, ne_eqb}
use Rattle.refusals.specs.Refusals.{refused, ordered}
use Rattle.refusals.specs.Numbers.{number_of}
use Rattle.refusals.specs.declared.Refusal.{Refusal}
use Rattle.refusals.specs.declared.Refusal.TheVariants as R
use Rattle.refusals.specs.declared.Refusal.TheVariants.{UnknownType}
use Rattle.payloads.specs.Payloads.{Described, messages, Entry, entry_of, no_entry, table, entry_for, known_for, tests_of, read_for}
use Rattle.payloads.specs.Types.{type_number, types, type_in, type_for}
use Rattle.payloads.specs.Places.{message_count, place_in, place_for, placed_for}
use Rattle.payloads.specs.declared.kind.MessageType.{MessageType}
use Rattle.payloads.specs.declared.kind.MessageType.TheVariants.{Obs, GpsTime, Dops, PosEcef, PosLlh, BaselineEcef, VelEcef, BaselineNed, VelNed, BaselineHeading, BasePosLlh, BasePosEcef, EphemerisGps, EphemerisSbas, EphemerisGlo, Iono, SvConfigurationGps, GroupDelay, SettingsSave, ReadByIndexDone, ReadByIndexReq, Startup, Heartbeat, Log}
use Rattle.payloads.specs.contracts.kind.MessageType as code
use denote.Enum.Declared.{tag_of}

-- ---- in any list

-- what is found under a number has it
named_in : (ts : List MessageType) (kind : ℕ) {t : MessageType} → type_in ts kind ≡ Ok t → kind ≡ type_number t
unfolding type_in
named_in [] kind e = cc
named_in (x ∷ xs) kind {t} e = by (eqb kind (type_number x)) refl e (named_in xs kind)
  where
    by : (c : Bool) → eqb kind (type_number x) ≡ c → cond c (Ok x) (type_in xs kind) ≡ Ok t → (type_in xs kind ≡ Ok t → kind ≡ type_number t)
        → kind ≡ type_number t
    by true q e rest = let same : x ≡ t = cc in eqb-true kind (type_number x) q ∙ ap type_number same
    by false q e rest = rest e

refused_in : (ts : List MessageType) (kind : ℕ) {x : Refusal} → type_in ts kind ≡ Err x → x ≡ UnknownType
unfolding type_in
refused_in [] kind e = cc
refused_in (t ∷ ts) kind {x} e = by (eqb kind (type_number t)) e (refused_in ts kind)
  where
    by : (c : Bool) → cond c (Ok t) (type_in ts kind) ≡ Err x → (type_in ts kind ≡ Err x → x ≡ UnknownType) → x ≡ UnknownType
    by true e rest = cc
    by false e rest = rest e

-- the type is none of these: as a `match` keeps it, what was known before and then one after the other
abbrev pub Absent : Type 0 → List ℕ → ℕ → Type 0
Absent P [] kind = P
Absent P (k ∷ ks) kind = Absent (P × (kind ≡ k → ⊥)) ks kind

pub no_type : {P : Type 0} (ts : List MessageType) (kind : ℕ) → Absent P (map type_number ts) kind → P × (Err UnknownType ≡ type_in ts kind)
unfolding type_in
no_type [] kind h = (h, refl)
no_type (t ∷ ts) kind h = let rest = no_type ts kind h in (rest.0.0, rw (ne_eqb kind (type_number t) rest.0.1) rest.1)

-- nothing found: the place is past the last
past_last : (ts : List MessageType) (kind : ℕ) {x : Refusal} → type_in ts kind ≡ Err x → place_in (map type_number ts) kind ≡ length ts
unfolding type_in place_in
past_last [] kind e = refl
past_last (t ∷ ts) kind {x} e = by (eqb kind (type_number t)) e (past_last ts kind)
  where
    by : (c : Bool) → cond c (Ok t) (type_in ts kind) ≡ Err x → (type_in ts kind ≡ Err x → place_in (map type_number ts) kind ≡ length ts)
        → cond c 0 (suc (place_in (map type_number ts) kind)) ≡ suc (length ts)
    by true e rest = cc
    by false e rest = ap suc (rest e)

-- ---- in the one list

abbrev Numbered : List Entry → List MessageType → Type 0
Numbered [] [] = Unit {0}
Numbered [] (t ∷ ts) = ⊥
Numbered (m ∷ ms) [] = ⊥
Numbered (m ∷ ms) (t ∷ ts) = (m.kind ≡ type_number t) × Numbered ms ts

numbered : Numbered table types
numbered =
    (refl, (refl, (refl, (refl, (refl, (refl, (refl, (refl, (refl, (refl, (refl, (refl, (refl, (refl, (refl, (refl, (refl, (refl, (refl, (refl, (refl, (refl, (refl, (refl, tt))))))))))))))))))))))))

unknown_in : (es : List Entry) (ts : List MessageType) → Numbered es ts → (kind : ℕ) {x : Refusal} → type_in ts kind ≡ Err x
    → entry_for es kind ≡ no_entry kind
unfolding type_in entry_for
unknown_in [] [] h kind e = refl
unknown_in [] (t ∷ ts) h kind e = elim h [ ]
unknown_in (m ∷ ms) [] h kind e = elim h [ ]
unknown_in (m ∷ ms) (t ∷ ts) h kind {x} e =
    ap (λ (k : ℕ). cond (eqb kind k) m (entry_for ms kind)) h.0 ∙ by (eqb kind (type_number t)) e (unknown_in ms ts h.1 kind)
  where
    by : (c : Bool) → cond c (Ok t) (type_in ts kind) ≡ Err x → (type_in ts kind ≡ Err x → entry_for ms kind ≡ no_entry kind)
        → cond c m (entry_for ms kind) ≡ no_entry kind
    by true e rest = cc
    by false e rest = rest e

known_in : (ms : List Described) (ts : List MessageType) → Numbered (map entry_of ms) ts → (kind : ℕ) {t : MessageType} → type_in ts kind ≡ Ok t
    → (entry_for (map entry_of ms) kind).known ≡ true
unfolding type_in entry_for
known_in [] [] h kind e = cc
known_in [] (t ∷ ts) h kind e = elim h [ ]
known_in (m ∷ ms) [] h kind e = elim h [ ]
known_in (m ∷ ms) (t ∷ ts) h kind {t = u} e =
    ap (λ (k : ℕ). (cond (eqb kind k) (entry_of m) (entry_for (map entry_of ms) kind)).known) h.0
    ∙ by (eqb kind (type_number t)) e (known_in ms ts h.1 kind)
  where
    by : (c : Bool) → cond c (Ok t) (type_in ts kind) ≡ Ok u → (type_in ts kind ≡ Ok u → (entry_for (map entry_of ms) kind).known ≡ true)
        → (cond c (entry_of m) (entry_for (map entry_of ms) kind)).known ≡ true
    by true e rest = refl
    by false e rest = rest e

module _ (kind : ℕ) {r : Result MessageType Refusal} (found : r ≡ type_for kind) where
  pub has_number : {t : MessageType} → r ≡ Ok t → kind ≡ type_number t
  has_number e = named_in types kind (sym found ∙ e)

  pub has_reading : {t : MessageType} → r ≡ Ok t → known_for kind ≡ true
  has_reading e = known_in messages types numbered kind (sym found ∙ e)

  module _ {x : Refusal} (e : r ≡ Err x) where
    pub has_no_entry : entry_for table kind ≡ no_entry kind
    has_no_entry = unknown_in table types numbered kind (sym found ∙ e)

    pub is_unknown : x ≡ UnknownType
    is_unknown = refused_in types kind (sym found ∙ e)

    -- so any payload of it is refused by 21
    pub untyped : (s : List ℕ) → refused (number_of x) ≡ read_for kind s
    untyped s =
        ap (λ (x : Refusal). refused (number_of x)) is_unknown ∙ sym (ap (λ (m : Entry). ordered (tests_of m s) (m.holds s)) has_no_entry)

    pub has_no_place : place_for kind ≡ message_count
    has_no_place = past_last types kind (sym found ∙ e)

    pub not_placed : None ≡ placed_for kind
    not_placed = rw has_no_place refl

-- a message's number as an enum is its place
pub placed : (t : MessageType) → Some (tag_of code.the_type t) ≡ placed_for (type_number t)
unfolding place_in
placed Obs = refl
placed GpsTime = refl
placed Dops = refl
placed PosEcef = refl
placed PosLlh = refl
placed BaselineEcef = refl
placed VelEcef = refl
placed BaselineNed = refl
placed VelNed = refl
placed BaselineHeading = refl
placed BasePosLlh = refl
placed BasePosEcef = refl
placed EphemerisGps = refl
placed EphemerisSbas = refl
placed EphemerisGlo = refl
placed Iono = refl
placed SvConfigurationGps = refl
placed GroupDelay = refl
placed SettingsSave = refl
placed ReadByIndexDone = refl
placed ReadByIndexReq = refl
placed Startup = refl
placed Heartbeat = refl
placed Log = refl

-- no refusal's number is 0
pub some_number : (x : Refusal) → number_of x ≡ 0 → ⊥
some_number R.CaptureTooLong h = omega arith
some_number R.UnknownType h = omega arith
some_number R.WrongLength h = omega arith
some_number R.OutOfRange h = omega arith
some_number R.NoObservation h = omega arith
some_number R.TooLong h = omega arith
some_number R.NoRoom h = omega arith
some_number R.PhaseOutOfRange h = omega arith
some_number R.RosterLength h = omega arith
some_number R.RosterRepeats h = omega arith
some_number R.NotListed h = omega arith
some_number R.NoPackets h = omega arith
some_number R.PastLast h = omega arith
some_number R.NotObservations h = omega arith
some_number R.Copied h = omega arith
some_number R.ListTooShort h = omega arith
some_number R.CaptureTooShort h = omega arith
