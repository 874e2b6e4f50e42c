-- The messages by their type numbers, document 01's column Type. That these are the numbers of the one list is proved (proofs/TypesFound.antt).
use Rattle.std.specs.Prelude.{ℕ, cond, List, [], ◌∷◌, eqb, Result, Ok, Err}
use Rattle.refusals.specs.declared.Refusal.{Refusal}
use Rattle.refusals.specs.declared.Refusal.TheVariants.{UnknownType}
use Rattle.payloads.specs.declared.kind.MessageType.{MessageType}
use Rattle.payloads.specs.declared.kind.MessageType.TheVariants.{Obs, GpsTime, Dops, PosEcef, PosLlh, BaselineEcef, VelEcef, BaselineNed, VelNed, BaselineHeading, BasePosLlh, BasePosEcef, EphemerisGps, EphemerisSbas, EphemerisGlo, Iono, SvConfigurationGps, GroupDelay, SettingsSave, ReadByIndexDone, ReadByIndexReq, Startup, Heartbeat, Log}

abbrev pub type_number : MessageType → ℕ
type_number Obs = 0x0049
type_number GpsTime = 0x0100
type_number Dops = 0x0206
type_number PosEcef = 0x0200
type_number PosLlh = 0x0201
type_number BaselineEcef = 0x0202
type_number VelEcef = 0x0204
type_number BaselineNed = 0x0203
type_number VelNed = 0x0205
type_number BaselineHeading = 0x0207
type_number BasePosLlh = 0x0044
type_number BasePosEcef = 0x0048
type_number EphemerisGps = 0x0081
type_number EphemerisSbas = 0x0082
type_number EphemerisGlo = 0x0083
type_number Iono = 0x0090
type_number SvConfigurationGps = 0x0091
type_number GroupDelay = 0x0092
type_number SettingsSave = 0x00a1
type_number ReadByIndexDone = 0x00a6
type_number ReadByIndexReq = 0x00a2
type_number Startup = 0xff00
type_number Heartbeat = 0xffff
type_number Log = 0x0401

-- in the order of the one list
abbrev pub types : List MessageType
types =
    Obs ∷
    GpsTime ∷
    Dops ∷
    PosEcef ∷
    PosLlh ∷
    BaselineEcef ∷
    VelEcef ∷
    BaselineNed ∷
    VelNed ∷
    BaselineHeading ∷
    BasePosLlh ∷
    BasePosEcef ∷
    EphemerisGps ∷
    EphemerisSbas ∷
    EphemerisGlo ∷
    Iono ∷
    SvConfigurationGps ∷
    GroupDelay ∷
    SettingsSave ∷
    ReadByIndexDone ∷
    ReadByIndexReq ∷
    Startup ∷
    Heartbeat ∷
    Log ∷
    []

-- the message of a number; 21 for a type without a reading
unfoldable pub type_in : List MessageType → ℕ → Result MessageType Refusal
type_in [] kind = Err UnknownType
type_in (t ∷ ts) kind = cond (eqb kind (type_number t)) (Ok t) (type_in ts kind)

abbrev pub type_for : ℕ → Result MessageType Refusal
type_for kind = type_in types kind
