-- Each type is read under its own name.
use Rattle.payloads.proofs.Entries.{promised, obs_read, log_read}
use Rattle.typed_calls.specs.Names.{UnderItsName}

pub under_its_name : UnderItsName
under_its_name =
    let ms = promised.1 in
    record {
      obs = obs_read;
      log = log_read;
      gps_time = ms.0.1;
      dilutions = ms.1.0.1;
      pos_ecef = ms.1.1.0.1;
      pos_llh = ms.1.1.1.0.1;
      baseline_ecef = ms.1.1.1.1.0.1;
      vel_ecef = ms.1.1.1.1.1.0.1;
      baseline_ned = ms.1.1.1.1.1.1.0.1;
      vel_ned = ms.1.1.1.1.1.1.1.0.1;
      baseline_heading = ms.1.1.1.1.1.1.1.1.0.1;
      base_pos_llh = ms.1.1.1.1.1.1.1.1.1.0.1;
      base_pos_ecef = ms.1.1.1.1.1.1.1.1.1.1.0.1;
      ephemeris_gps = ms.1.1.1.1.1.1.1.1.1.1.1.0.1;
      ephemeris_sbas = ms.1.1.1.1.1.1.1.1.1.1.1.1.0.1;
      ephemeris_glo = ms.1.1.1.1.1.1.1.1.1.1.1.1.1.0.1;
      ionosphere = ms.1.1.1.1.1.1.1.1.1.1.1.1.1.1.0.1;
      sv_configuration_gps = ms.1.1.1.1.1.1.1.1.1.1.1.1.1.1.1.0.1;
      group_delay = ms.1.1.1.1.1.1.1.1.1.1.1.1.1.1.1.1.0.1;
      settings_save = ms.1.1.1.1.1.1.1.1.1.1.1.1.1.1.1.1.1.0.1;
      read_by_index_done = ms.1.1.1.1.1.1.1.1.1.1.1.1.1.1.1.1.1.1.0.1;
      read_by_index_req = ms.1.1.1.1.1.1.1.1.1.1.1.1.1.1.1.1.1.1.1.0.1;
      start_up = ms.1.1.1.1.1.1.1.1.1.1.1.1.1.1.1.1.1.1.1.1.0.1;
      heart_beat = ms.1.1.1.1.1.1.1.1.1.1.1.1.1.1.1.1.1.1.1.1.1.0.1;
    }
