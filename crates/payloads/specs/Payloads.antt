-- What a type number means: the messages, each with its description, and the answer to any type and payload by its ordered tests.
-- A new message is one line here. specs/Checks.antt has document 01's numbers.
use Rattle.std.specs.Prelude.{ℕ, ◌≡◌, Bool, true, false, cond, List, [], ◌∷◌, map, eqb}
use Rattle.layouts.specs.Layout.{Layout, run}
use Rattle.layouts.specs.Description.{Description, inside, reading, read_as}
use Rattle.refusals.specs.Refusals.{Answer, Tests, mapped, zero_or, Call, reply}
use Rattle.formats.specs.Digits.{shape_of}
use Rattle.formats.specs.declared.Shape.{Shape}
use Rattle.frame_writer.specs.Faithful.{Faithful}
use Rattle.time_and_dops.specs.Dops.{dops}
use Rattle.baselines.specs.Ecef.{baseline_ecef, vel_ecef}
use Rattle.time_and_dops.specs.GpsTime.{gps_time}
use Rattle.baselines.specs.Heading.{baseline_heading}
use Rattle.baselines.specs.Ned.{baseline_ned, vel_ned}
use Rattle.positions.specs.PosEcef.{pos_ecef}
use Rattle.positions.specs.PosLlh.{pos_llh}
use Rattle.base_positions.specs.BasePosEcef.{base_pos_ecef}
use Rattle.base_positions.specs.BasePosLlh.{base_pos_llh}
use Rattle.observation.specs.Edition.{obs, first}
use Rattle.observation.specs.Obs as observation
use Rattle.orbits.specs.EphemerisGlo.{ephemeris_glo}
use Rattle.gps_orbits.specs.EphemerisGps.{ephemeris_gps}
use Rattle.orbits.specs.EphemerisSbas.{ephemeris_sbas}
use Rattle.atmosphere.specs.GroupDelay.{group_delay}
use Rattle.atmosphere.specs.Iono.{iono}
use Rattle.atmosphere.specs.SvConfigurationGps.{sv_configuration_gps}
use Rattle.system.specs.Empty.{settings_save, read_by_index_done}
use Rattle.system.specs.Heartbeat.{heartbeat}
use Rattle.logs.specs.Log as system
use Rattle.logs.specs.Log.{log}
use Rattle.system.specs.ReadByIndexReq.{read_by_index_req}
use Rattle.system.specs.Startup.{startup}
use Rattle.payloads.specs.declared.Message.{Message}
use Rattle.payloads.specs.declared.Message.TheVariants as M

-- ---- the messages

-- what a description describes, under its name
pub record Described : Type 1 where
  pub Of : Type 0
  pub description : Description Of
  pub name : Of → Message

abbrev pub under : {R : Type 0} → Description R → (R → Message) → Described
under {R} d name = record { Of = R; description = d; name = name }

-- every message but OBS; of a LOG the code shows the level and how long text and padding are
abbrev pub others : List Described
others =
    under gps_time (λ r. M.GpsTime r) ∷
    under dops (λ r. M.Dops r) ∷
    under pos_ecef (λ r. M.PosEcef r) ∷
    under pos_llh (λ r. M.PosLlh r) ∷
    under baseline_ecef (λ r. M.BaselineEcef r) ∷
    under vel_ecef (λ r. M.VelEcef r) ∷
    under baseline_ned (λ r. M.BaselineNed r) ∷
    under vel_ned (λ r. M.VelNed r) ∷
    under baseline_heading (λ r. M.BaselineHeading r) ∷
    under base_pos_llh (λ r. M.BasePosLlh r) ∷
    under base_pos_ecef (λ r. M.BasePosEcef r) ∷
    under ephemeris_gps (λ r. M.EphemerisGps r) ∷
    under ephemeris_sbas (λ r. M.EphemerisSbas r) ∷
    under ephemeris_glo (λ r. M.EphemerisGlo r) ∷
    under iono (λ r. M.Iono r) ∷
    under sv_configuration_gps (λ r. M.SvConfigurationGps r) ∷
    under group_delay (λ r. M.GroupDelay r) ∷
    under settings_save (λ r. M.SettingsSave) ∷
    under read_by_index_done (λ r. M.ReadByIndexDone) ∷
    under read_by_index_req (λ r. M.ReadByIndexReq r) ∷
    under startup (λ r. M.Startup r) ∷
    under heartbeat (λ r. M.Heartbeat r) ∷
    under log (λ r. M.Log (system.shown r)) ∷
    []

-- every message; of an OBS the code shows the header and how many observations follow
abbrev pub messages : List Described
messages = under (obs first) (λ r. M.Obs (observation.shown r)) ∷ others

-- ---- the table

-- a row of it: a type, whether it has a reading, its layout, its reader's tests, and what a payload that passes them holds
pub record Entry : Type 0 where
  pub kind : ℕ
  pub known : Bool
  pub layout : Layout
  pub tests : List ℕ → Tests
  pub holds : List ℕ → Message

-- all of it as the description says
abbrev pub entry_of : Described → Entry
entry_of m = let d = m.description in record { kind = d.kind; known = true; layout = d.layout; tests = λ s. (reading d s).tests; holds = λ s. m.name (inside d s) }

-- of a type without a reading: 21, so what it holds is never given
abbrev pub no_entry : ℕ → Entry
no_entry kind = record { kind = kind; known = false; layout = run []; tests = λ s. []; holds = λ s. M.SettingsSave }

abbrev pub table : List Entry
table = map entry_of messages

unfoldable pub entry_for : List Entry → ℕ → Entry
entry_for [] kind = no_entry kind
entry_for (e ∷ es) kind = cond (eqb kind e.kind) e (entry_for es kind)

-- what a type's payloads are made of, and that as digits; of a type without a reading nothing
abbrev pub layout_for : ℕ → Layout
layout_for kind = (entry_for table kind).layout

abbrev pub shape_for : ℕ → Shape
shape_for kind = shape_of (layout_for kind)

-- a type has a reading
abbrev pub known_for : ℕ → Bool
known_for kind = (entry_for table kind).known

-- ---- the answer to any type and payload

-- "Reading: 21, 22, 23.": 21, then the tests of the message's own reader
abbrev pub tests_of : Entry → List ℕ → Tests
tests_of e s = (e.known, 21) ∷ e.tests s

abbrev pub reading_in : List Entry → ℕ → List ℕ → Call Message
reading_in es kind s = record { tests = tests_of (entry_for es kind) s; value = (entry_for es kind).holds s }

abbrev pub read_in : List Entry → ℕ → List ℕ → Answer Message
read_in es kind s = reply (reading_in es kind s)

abbrev pub reading_any : ℕ → List ℕ → Call Message
reading_any = reading_in table

abbrev pub read_for : ℕ → List ℕ → Answer Message
read_for kind s = reply (reading_any kind s)

-- 0 for a record, and a refusal's number
abbrev pub answer_for : ℕ → List ℕ → ℕ
answer_for kind s = zero_or (read_for kind s)

-- ---- what is promised of every message

-- payloads of a type read as one reader reads them, the record under its message's name
abbrev pub TypedIn : {R : Type 0} → List Entry → ℕ → (R → Message) → (List ℕ → Answer R) → Type 0
TypedIn es kind name reads = (s : List ℕ) → read_in es kind s ≡ mapped name (reads s)

abbrev pub Typed : {R : Type 0} → ℕ → (R → Message) → (List ℕ → Answer R) → Type 0
Typed = TypedIn table

-- a message keeps its promise, and under the number by which it is written its own reader reads it
abbrev pub PromisedIn : List Entry → Described → Type 0
PromisedIn es m = let d = m.description in Faithful d × TypedIn es d.kind m.name (read_as d)

abbrev pub Promised : Described → Type 0
Promised = PromisedIn table

abbrev pub AllOf : (Described → Type 0) → List Described → Type 0
AllOf P [] = Unit {0}
AllOf P (m ∷ ms) = P m × AllOf P ms
