-- What only private contracts cite: what each message's own reader makes of a payload. That it is what the one list says is proved (proofs/Records.antt).
use Rattle.std.specs.Prelude.{ℕ, List}
use Rattle.refusals.specs.Refusals.{Answer, mapped}
use Rattle.layouts.specs.Description.{read_as}
use Rattle.observation.specs.Obs.{read_obs}
use Rattle.logs.specs.Log.{read_log}
use Rattle.atmosphere.specs.GroupDelay.{group_delay}
use Rattle.atmosphere.specs.Iono.{iono}
use Rattle.atmosphere.specs.SvConfigurationGps.{sv_configuration_gps}
use Rattle.base_positions.specs.BasePosEcef.{base_pos_ecef}
use Rattle.base_positions.specs.BasePosLlh.{base_pos_llh}
use Rattle.baselines.specs.Ecef.{baseline_ecef, vel_ecef}
use Rattle.baselines.specs.Heading.{baseline_heading}
use Rattle.baselines.specs.Ned.{baseline_ned, vel_ned}
use Rattle.gps_orbits.specs.EphemerisGps.{ephemeris_gps}
use Rattle.orbits.specs.EphemerisGlo.{ephemeris_glo}
use Rattle.orbits.specs.EphemerisSbas.{ephemeris_sbas}
use Rattle.positions.specs.PosEcef.{pos_ecef}
use Rattle.positions.specs.PosLlh.{pos_llh}
use Rattle.system.specs.Empty.{settings_save, read_by_index_done}
use Rattle.system.specs.Heartbeat.{heartbeat}
use Rattle.system.specs.ReadByIndexReq.{read_by_index_req}
use Rattle.system.specs.Startup.{startup}
use Rattle.time_and_dops.specs.Dops.{dops}
use Rattle.time_and_dops.specs.GpsTime.{gps_time}
use Rattle.payloads.specs.declared.Message.{Message}
use Rattle.payloads.specs.declared.Message.TheVariants as M
use Rattle.payloads.specs.declared.kind.MessageType.{MessageType}
use Rattle.payloads.specs.declared.kind.MessageType.TheVariants as T

abbrev pub read_by : MessageType → List ℕ → Answer Message
read_by T.Obs s = mapped (λ r. M.Obs r) (read_obs s)
read_by T.GpsTime s = mapped (λ r. M.GpsTime r) (read_as gps_time s)
read_by T.Dops s = mapped (λ r. M.Dops r) (read_as dops s)
read_by T.PosEcef s = mapped (λ r. M.PosEcef r) (read_as pos_ecef s)
read_by T.PosLlh s = mapped (λ r. M.PosLlh r) (read_as pos_llh s)
read_by T.BaselineEcef s = mapped (λ r. M.BaselineEcef r) (read_as baseline_ecef s)
read_by T.VelEcef s = mapped (λ r. M.VelEcef r) (read_as vel_ecef s)
read_by T.BaselineNed s = mapped (λ r. M.BaselineNed r) (read_as baseline_ned s)
read_by T.VelNed s = mapped (λ r. M.VelNed r) (read_as vel_ned s)
read_by T.BaselineHeading s = mapped (λ r. M.BaselineHeading r) (read_as baseline_heading s)
read_by T.BasePosLlh s = mapped (λ r. M.BasePosLlh r) (read_as base_pos_llh s)
read_by T.BasePosEcef s = mapped (λ r. M.BasePosEcef r) (read_as base_pos_ecef s)
read_by T.EphemerisGps s = mapped (λ r. M.EphemerisGps r) (read_as ephemeris_gps s)
read_by T.EphemerisSbas s = mapped (λ r. M.EphemerisSbas r) (read_as ephemeris_sbas s)
read_by T.EphemerisGlo s = mapped (λ r. M.EphemerisGlo r) (read_as ephemeris_glo s)
read_by T.Iono s = mapped (λ r. M.Iono r) (read_as iono s)
read_by T.SvConfigurationGps s = mapped (λ r. M.SvConfigurationGps r) (read_as sv_configuration_gps s)
read_by T.GroupDelay s = mapped (λ r. M.GroupDelay r) (read_as group_delay s)
read_by T.SettingsSave s = mapped (λ r. M.SettingsSave) (read_as settings_save s)
read_by T.ReadByIndexDone s = mapped (λ r. M.ReadByIndexDone) (read_as read_by_index_done s)
read_by T.ReadByIndexReq s = mapped (λ r. M.ReadByIndexReq r) (read_as read_by_index_req s)
read_by T.Startup s = mapped (λ r. M.Startup r) (read_as startup s)
read_by T.Heartbeat s = mapped (λ r. M.Heartbeat r) (read_as heartbeat s)
read_by T.Log s = mapped (λ r. M.Log r) (read_log s)
