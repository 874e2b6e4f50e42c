-- Every typed reader and writer does what is promised of it.
use seplogic.Ra.Ura.{Ura}
use base.Logic.{SProp}
use prog.Memory.{Memory}
use prog.Routine.{Routine}
use types.Logic.{Logic}
use contract.Monad.{Fun}
use Rattle.layouts.specs.Description.{read_as}
use Rattle.frame_writer.specs.Writer.{planned, with_frame}
use Rattle.frame_writer.specs.Faithful.{write_answer, written_as}
use Rattle.observation.specs.Obs.{read_entry, read_entry_of, read_obs}
use Rattle.obs_writer.specs.ObsWriter.{obs_write_answer, obs_written}
use Rattle.logs.specs.Log.{read_log}
use Rattle.calls.proofs.Giving as by
use Rattle.typed_calls.specs.TypedCalls as typed

ruleset givings = (by.plain, by.answered, by.answered_stored, by.numbered)

module _ {M : Type 1} {𝓤 : Ura M} (𝓛 : Logic 𝓤) (mem : Memory → SProp 𝓤) (run : Routine → Fun 𝓤) where
  pub messages : typed.Messages 𝓛 mem run
  unfolding read_as write_answer written_as
  messages = search givings

  pub time_and_dops : typed.TimeAndDops 𝓛 mem run
  time_and_dops = record { gps_time = messages _ _ _; dops = messages _ _ _ }

  pub positions : typed.Positions 𝓛 mem run
  positions = record { pos_ecef = messages _ _ _; pos_llh = messages _ _ _ }

  pub baselines : typed.Baselines 𝓛 mem run
  baselines = record { baseline_ecef = messages _ _ _; vel_ecef = messages _ _ _; baseline_ned = messages _ _ _; vel_ned = messages _ _ _; baseline_heading = messages _ _ _ }

  pub base_positions : typed.BasePositions 𝓛 mem run
  base_positions = record { base_pos_llh = messages _ _ _; base_pos_ecef = messages _ _ _ }

  pub gps_orbits : typed.GpsOrbits 𝓛 mem run
  gps_orbits = record { ephemeris_gps = messages _ _ _ }

  pub orbits : typed.Orbits 𝓛 mem run
  orbits = record { ephemeris_sbas = messages _ _ _; ephemeris_glo = messages _ _ _ }

  pub atmosphere : typed.Atmosphere 𝓛 mem run
  atmosphere = record { iono = messages _ _ _; sv_configuration_gps = messages _ _ _; group_delay = messages _ _ _ }

  pub system : typed.System 𝓛 mem run
  system = record { settings_save = messages _ _ _; read_by_index_done = messages _ _ _; read_by_index_req = messages _ _ _; startup = messages _ _ _; heartbeat = messages _ _ _ }

  pub others : typed.Others 𝓛 mem run
  unfolding read_as write_answer written_as planned with_frame read_entry read_entry_of read_obs obs_write_answer obs_written read_log
  others = search givings
