-- Each type under its own name: payloads of a type are read as its own message is, and handed out under that message's name.
use Rattle.layouts.specs.Description.{read_as}
use Rattle.time_and_dops.specs.GpsTime.{gps_time}
use Rattle.time_and_dops.specs.Dops.{dops}
use Rattle.positions.specs.PosEcef.{pos_ecef}
use Rattle.positions.specs.PosLlh.{pos_llh}
use Rattle.baselines.specs.Ecef.{baseline_ecef, vel_ecef}
use Rattle.baselines.specs.Ned.{baseline_ned, vel_ned}
use Rattle.baselines.specs.Heading.{baseline_heading}
use Rattle.base_positions.specs.BasePosLlh.{base_pos_llh}
use Rattle.base_positions.specs.BasePosEcef.{base_pos_ecef}
use Rattle.gps_orbits.specs.EphemerisGps.{ephemeris_gps}
use Rattle.orbits.specs.EphemerisSbas.{ephemeris_sbas}
use Rattle.orbits.specs.EphemerisGlo.{ephemeris_glo}
use Rattle.atmosphere.specs.Iono.{iono}
use Rattle.atmosphere.specs.SvConfigurationGps.{sv_configuration_gps}
use Rattle.atmosphere.specs.GroupDelay.{group_delay}
use Rattle.system.specs.ReadByIndexReq.{read_by_index_req}
use Rattle.system.specs.Startup.{startup}
use Rattle.system.specs.Heartbeat.{heartbeat}
use Rattle.system.specs.Empty.{settings_save, read_by_index_done}
use Rattle.observation.specs.Obs.{read_obs}
use Rattle.logs.specs.Log.{read_log}
use Rattle.payloads.specs.Payloads.{Typed}
use Rattle.payloads.specs.declared.Message.TheVariants as M

pub record UnderItsName : Type 0 where
  pub obs : Typed 0x0049 (λ r. M.Obs r) read_obs
  pub log : Typed 0x0401 (λ r. M.Log r) read_log
  pub gps_time : Typed 0x0100 (λ r. M.GpsTime r) (read_as gps_time)
  pub dilutions : Typed 0x0206 (λ r. M.Dops r) (read_as dops)
  pub pos_ecef : Typed 0x0200 (λ r. M.PosEcef r) (read_as pos_ecef)
  pub pos_llh : Typed 0x0201 (λ r. M.PosLlh r) (read_as pos_llh)
  pub baseline_ecef : Typed 0x0202 (λ r. M.BaselineEcef r) (read_as baseline_ecef)
  pub vel_ecef : Typed 0x0204 (λ r. M.VelEcef r) (read_as vel_ecef)
  pub baseline_ned : Typed 0x0203 (λ r. M.BaselineNed r) (read_as baseline_ned)
  pub vel_ned : Typed 0x0205 (λ r. M.VelNed r) (read_as vel_ned)
  pub baseline_heading : Typed 0x0207 (λ r. M.BaselineHeading r) (read_as baseline_heading)
  pub base_pos_llh : Typed 0x0044 (λ r. M.BasePosLlh r) (read_as base_pos_llh)
  pub base_pos_ecef : Typed 0x0048 (λ r. M.BasePosEcef r) (read_as base_pos_ecef)
  pub ephemeris_gps : Typed 0x0081 (λ r. M.EphemerisGps r) (read_as ephemeris_gps)
  pub ephemeris_sbas : Typed 0x0082 (λ r. M.EphemerisSbas r) (read_as ephemeris_sbas)
  pub ephemeris_glo : Typed 0x0083 (λ r. M.EphemerisGlo r) (read_as ephemeris_glo)
  pub ionosphere : Typed 0x0090 (λ r. M.Iono r) (read_as iono)
  pub sv_configuration_gps : Typed 0x0091 (λ r. M.SvConfigurationGps r) (read_as sv_configuration_gps)
  pub group_delay : Typed 0x0092 (λ r. M.GroupDelay r) (read_as group_delay)
  pub settings_save : Typed 0x00a1 (λ r. M.SettingsSave) (read_as settings_save)
  pub read_by_index_done : Typed 0x00a6 (λ r. M.ReadByIndexDone) (read_as read_by_index_done)
  pub read_by_index_req : Typed 0x00a2 (λ r. M.ReadByIndexReq r) (read_as read_by_index_req)
  pub start_up : Typed 0xff00 (λ r. M.Startup r) (read_as startup)
  pub heart_beat : Typed 0xffff (λ r. M.Heartbeat r) (read_as heartbeat)
