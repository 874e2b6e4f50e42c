-- Every typed reader and writer by its own contract. A reader hands back the record of a payload, or the number of its refusal; a writer hands back
-- how many bytes it wrote, or that number, and leaves the frame at the buffer's start, or the buffer as it was. What the calls are by which they do
-- so (`reading`, `writing`), and what a record is in bytes, is the message's description.
use Rattle.std.specs.Prelude.{List, ℕ, length, Result}
use seplogic.Ra.Ura.{Ura}
use base.Logic.{SProp}
use prog.Memory.{Memory}
use prog.Routine.{Routine}
use types.Logic.{Logic}
use contract.Monad.{Fun}
use mir.Syntax.{Dict}
use denote.Builtin.{unit}
use denote.RattleType.{RattleType}
use Rattle.std.specs.declared.clone.Clone as Clone
use Rattle.std.specs.Borrow.{Bor, MutBor}
use Rattle.refusals.specs.Refusals.{reply, as_number}
use Rattle.refusals.specs.declared.Refusal.{Refusal}
use Rattle.layouts.specs.Layout.{encode_body}
use Rattle.layouts.specs.Description.{Description, reading}
use Rattle.frames.specs.Frame.{frame_bytes}
use Rattle.senders.specs.Senders.{carried}
use Rattle.senders.specs.declared.Writer.{Writer}
use Rattle.frame_writer.specs.Writer.{planning}
use Rattle.frame_writer.specs.Faithful.{writing}
use Rattle.frame_writer.specs.declared.FixedMessage as FixedMessage
use Rattle.calls.specs.Replies.{hands_back, puts, done_or}
use Rattle.calls.specs.Gives.{Gives, GivesAs}
use Rattle.time_and_dops.specs.GpsTime.{gps_time}
use Rattle.time_and_dops.specs.Dops.{dops}
use Rattle.positions.specs.PosEcef.{pos_ecef}
use Rattle.positions.specs.PosLlh.{pos_llh}
use Rattle.baselines.specs.Ecef.{baseline_ecef, vel_ecef}
use Rattle.baselines.specs.Ned.{baseline_ned, vel_ned}
use Rattle.baselines.specs.Heading.{baseline_heading}
use Rattle.base_positions.specs.BasePosLlh.{base_pos_llh}
use Rattle.base_positions.specs.BasePosEcef.{base_pos_ecef}
use Rattle.gps_orbits.specs.EphemerisGps.{ephemeris_gps}
use Rattle.orbits.specs.EphemerisSbas.{ephemeris_sbas}
use Rattle.orbits.specs.EphemerisGlo.{ephemeris_glo}
use Rattle.atmosphere.specs.Iono.{iono}
use Rattle.atmosphere.specs.SvConfigurationGps.{sv_configuration_gps}
use Rattle.atmosphere.specs.GroupDelay.{group_delay}
use Rattle.system.specs.ReadByIndexReq.{read_by_index_req}
use Rattle.system.specs.Startup.{startup}
use Rattle.system.specs.Heartbeat.{heartbeat}
use Rattle.system.specs.Empty.{settings_save, read_by_index_done}
use Rattle.observation.specs.Edition.{first, obs}
use Rattle.observation.specs.Obs.{one_observation, one_of_frame, reading_obs}
use Rattle.obs_writer.specs.ObsWriter.{writing_obs, observed, head_of}
use Rattle.logs.specs.Log.{log, logged, reading_log, text_in}
use Rattle.payloads.specs.Payloads.{reading_any}
use Rattle.payloads.specs.Types.{type_number, type_for}
use Rattle.frame_writer.specs.contracts as frame_writer
use Rattle.time_and_dops.specs.contracts as time_and_dops
use Rattle.positions.specs.contracts as positions
use Rattle.baselines.specs.contracts as baselines
use Rattle.observation.specs.contracts as observation
use Rattle.obs_writer.specs.contracts as obs_writer
use Rattle.base_positions.specs.contracts as base_positions
use Rattle.gps_orbits.specs.contracts as gps_orbits
use Rattle.orbits.specs.contracts as orbits
use Rattle.atmosphere.specs.contracts as atmosphere
use Rattle.logs.specs.contracts as logs
use Rattle.system.specs.contracts as system
use Rattle.payloads.specs.contracts as payloads
use Rattle.readings.specs.contracts as readings

-- a message with a description
abbrev pub read_by : {R : Type 0} → Description R → Bor (List ℕ) → Result R Refusal × Unit {0}
read_by d payload = hands_back (reading d payload.now)

abbrev pub write_by : {R : Type 0} → Description R → MutBor (List ℕ) → Writer → R → Result ℕ Refusal × (List ℕ × Unit {0})
write_by d buf writer r = puts (writing d r (length buf.now)) (frame_bytes d.kind (carried d.kind writer) (encode_body d.layout (d.row r))) buf.now

-- ---- the calls, at every model of the logic, as every contract is stated

module _ {M : Type 1} {𝓤 : Ura M} (𝓛 : Logic 𝓤) (mem : Memory → SProp 𝓤) (run : Routine → Fun 𝓤) where
  -- a message of one length is read and written by the two functions of all such messages: those of its own type T, its record R, and what it says
  -- of itself are by this description
  module _ (T R : RattleType) (g : FixedMessage.Ghosts T.Denot R.Denot) where
    pub record Message (d : Description R.Denot) : Type 1 where
      pub read_message : (own : Dict) (c : Clone.Ghosts R.Denot) (copy : Dict) → Gives 𝓤 (frame_writer.read_message.ended T R g own c copy) (frame_writer.read_message.clauses T R g own c copy 𝓛 mem run) (λ κs. read_by d)
      pub write_message : (own : Dict) (c : Clone.Ghosts R.Denot) (copy : Dict) → Gives 𝓤 (frame_writer.write_message.ended T R g own c copy) (frame_writer.write_message.clauses T R g own c copy 𝓛 mem run) (λ κs. write_by d)

  -- whatever the message, it is by its own description
  abbrev pub Messages : Type 1
  Messages = (T R : RattleType) (g : FixedMessage.Ghosts T.Denot R.Denot) → Message T R g g.description

  pub record TimeAndDops : Type 1 where
    pub gps_time : Message time_and_dops.GpsTime.the_row time_and_dops.GpsTime.the_row time_and_dops.gps_time.GpsTimeFixedMessage.TheImpl.ghosts gps_time
    pub dops : Message time_and_dops.Dops.the_row time_and_dops.Dops.the_row time_and_dops.dops.DopsFixedMessage.TheImpl.ghosts dops

  pub record Positions : Type 1 where
    pub pos_ecef : Message positions.PosEcef.the_row positions.PosEcef.the_row positions.pos_ecef.PosEcefFixedMessage.TheImpl.ghosts pos_ecef
    pub pos_llh : Message positions.PosLlh.the_row positions.PosLlh.the_row positions.pos_llh.PosLlhFixedMessage.TheImpl.ghosts pos_llh

  pub record Baselines : Type 1 where
    pub baseline_ecef : Message baselines.BaselineEcef.the_row baselines.EcefVector.the_row baselines.ecef.BaselineEcefFixedMessage.TheImpl.ghosts baseline_ecef
    pub vel_ecef : Message baselines.VelEcef.the_row baselines.EcefVector.the_row baselines.ecef.VelEcefFixedMessage.TheImpl.ghosts vel_ecef
    pub baseline_ned : Message baselines.BaselineNed.the_row baselines.NedVector.the_row baselines.ned.BaselineNedFixedMessage.TheImpl.ghosts baseline_ned
    pub vel_ned : Message baselines.VelNed.the_row baselines.NedVector.the_row baselines.ned.VelNedFixedMessage.TheImpl.ghosts vel_ned
    pub baseline_heading : Message baselines.BaselineHeading.the_row baselines.BaselineHeading.the_row baselines.heading.BaselineHeadingFixedMessage.TheImpl.ghosts baseline_heading

  pub record BasePositions : Type 1 where
    pub base_pos_llh : Message base_positions.BasePosLlh.the_row base_positions.BasePosLlh.the_row base_positions.base_pos_llh.BasePosLlhFixedMessage.TheImpl.ghosts base_pos_llh
    pub base_pos_ecef : Message base_positions.BasePosEcef.the_row base_positions.BasePosEcef.the_row base_positions.base_pos_ecef.BasePosEcefFixedMessage.TheImpl.ghosts base_pos_ecef

  pub record GpsOrbits : Type 1 where
    pub ephemeris_gps : Message gps_orbits.EphemerisGps.the_row gps_orbits.EphemerisGps.the_row gps_orbits.ephemeris_gps.EphemerisGpsFixedMessage.TheImpl.ghosts ephemeris_gps

  pub record Orbits : Type 1 where
    pub ephemeris_sbas : Message orbits.EphemerisSbas.the_row orbits.EphemerisSbas.the_row orbits.ephemeris_sbas.EphemerisSbasFixedMessage.TheImpl.ghosts ephemeris_sbas
    pub ephemeris_glo : Message orbits.EphemerisGlo.the_row orbits.EphemerisGlo.the_row orbits.ephemeris_glo.EphemerisGloFixedMessage.TheImpl.ghosts ephemeris_glo

  pub record Atmosphere : Type 1 where
    pub iono : Message atmosphere.Iono.the_row atmosphere.Iono.the_row atmosphere.iono.IonoFixedMessage.TheImpl.ghosts iono
    pub sv_configuration_gps : Message atmosphere.SvConfigurationGps.the_row atmosphere.SvConfigurationGps.the_row atmosphere.sv_configuration_gps.SvConfigurationGpsFixedMessage.TheImpl.ghosts sv_configuration_gps
    pub group_delay : Message atmosphere.GroupDelay.the_row atmosphere.GroupDelay.the_row atmosphere.group_delay.GroupDelayFixedMessage.TheImpl.ghosts group_delay

  -- SETTINGS_SAVE and READ_BY_INDEX_DONE have no field
  pub record System : Type 1 where
    pub settings_save : Message system.SettingsSave.the_row unit system.empty.SettingsSaveFixedMessage.TheImpl.ghosts settings_save
    pub read_by_index_done : Message system.ReadByIndexDone.the_row unit system.empty.ReadByIndexDoneFixedMessage.TheImpl.ghosts read_by_index_done
    pub read_by_index_req : Message system.ReadByIndexReq.the_row system.ReadByIndexReq.the_row system.settings.ReadByIndexReqFixedMessage.TheImpl.ghosts read_by_index_req
    pub startup : Message system.Startup.the_row system.Startup.the_row system.startup.StartupFixedMessage.TheImpl.ghosts startup
    pub heartbeat : Message system.Heartbeat.the_row system.Heartbeat.the_row system.heartbeat.HeartbeatFixedMessage.TheImpl.ghosts heartbeat

  -- OBS and LOG, of which the code shows and takes parts; a frame of any type; any payload
  pub record Others : Type 1 where
    pub read_obs : Gives 𝓤 observation.read_obs.ended (observation.read_obs.clauses 𝓛 mem run) (λ κs s. hands_back (reading_obs s.now))
    pub read_observation : Gives 𝓤 observation.read_observation.ended (observation.read_observation.clauses 𝓛 mem run)
        (λ κs s i. hands_back (one_observation first s.now i))
    pub read_observation_of : Gives 𝓤 observation.read_observation_of.ended (observation.read_observation_of.clauses 𝓛 mem run)
        (λ κs kind s i. hands_back (one_of_frame kind s.now i))
    -- the first k observations of those handed in
    pub write_obs : Gives 𝓤 obs_writer.write_obs.ended (obs_writer.write_obs.clauses 𝓛 mem run)
        (λ κs buf writer o entries.
        puts (writing_obs first o.count (length buf.now))
        (frame_bytes first.kind (carried first.kind writer) (encode_body (obs first).layout ((obs first).row (observed first (head_of o) o.count entries)))) buf.now)
    pub read_log : Gives 𝓤 logs.read_log.ended (logs.read_log.clauses 𝓛 mem run) (λ κs s. hands_back (reading_log s.now))
    pub log_text : GivesAs 𝓤 logs.log_text.ended (logs.log_text.clauses 𝓛 mem run) (λ κs. List ℕ) (λ κs r. r.now) (λ κs s. (text_in s.now, tt))
    pub write_log : Gives 𝓤 logs.write_log.ended (logs.write_log.clauses 𝓛 mem run) (λ κs buf writer level text padding. write_by log buf writer (logged level text.now padding))
    pub plan : Gives 𝓤 frame_writer.plan.ended (frame_writer.plan.clauses 𝓛 mem run) (λ κs n room. hands_back (planning n room))
    pub write_frame : Gives 𝓤 frame_writer.write_frame.ended (frame_writer.write_frame.clauses 𝓛 mem run)
        (λ κs buf kind writer payload. puts (planning (length payload.now) (length buf.now)) (frame_bytes kind (carried kind writer) payload.now) buf.now)
    pub message_type : Gives 𝓤 payloads.message_type.ended (payloads.message_type.clauses 𝓛 mem run) (λ κs kind. (type_for kind, tt))
    pub accept : Gives 𝓤 payloads.accept.ended (payloads.accept.clauses 𝓛 mem run)
        (λ κs message payload. (done_or (as_number (λ m. 0) (reply (reading_any (type_number message) payload.now))), tt))
    pub answer : Gives 𝓤 payloads.answer.ended (payloads.answer.clauses 𝓛 mem run) (λ κs kind payload. (done_or (as_number (λ m. 0) (reply (reading_any kind payload.now))), tt))
    pub read : Gives 𝓤 readings.read.ended (readings.read.clauses 𝓛 mem run) (λ κs kind payload. hands_back (reading_any kind payload.now))
