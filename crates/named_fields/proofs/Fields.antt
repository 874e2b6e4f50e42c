-- Each field stands where 003 has it: by computation, but for an observation's place and the lengths of OBS and LOG, which are sums.
use mathlib.Core.Path.{◌≡◌, refl, ap}
use mathlib.Core.List.{List, [], ◌∷◌}
use Prim.Native.Nat.{ℕ, ◌+◌, ◌*◌}
use native.Mathlib.Omega.{arith}
use lib.ListN.{length}
use Rattle.wire.specs.Value.{value_at, u8, u16, u32, s32}
use Rattle.layouts.specs.Layout.{body_size}
use Rattle.layouts.specs.Description.{rows_of}
use Rattle.observation.specs.Edition.{Observed, obs, Head, first, observation}
use Rattle.observation.specs.Obs.{entry_at}
use Rattle.observation.specs.declared.entry.Observation.{Observation}
use Rattle.named_fields.specs.Named.{ObservationAt, Named}

rows_counted : (os : List Observation) → length (rows_of observation os) ≡ length os
rows_counted [] = refl
rows_counted (o ∷ os) = omega (arith, rows_counted os)

obs_total : (r : Observed Head Observation) → body_size (obs first).layout ((obs first).row r) ≡ 16 * length r.observations + 7
obs_total r = omega (arith, rows_counted r.observations)

observation_at : (s : List ℕ) (n : ℕ) → ObservationAt s n (entry_at first s n)
observation_at s n =
    let at_p : 7 + n * 16 ≡ 16 * n + 7 = omega arith in
    let at_l_i : 7 + n * 16 + 4 ≡ 16 * n + 11 = omega arith in
    let at_l_f : 7 + n * 16 + 4 + 4 ≡ 16 * n + 15 = omega arith in
    let at_cn0 : 7 + n * 16 + 4 + 4 + 1 ≡ 16 * n + 16 = omega arith in
    let at_lock : 7 + n * 16 + 4 + 4 + 1 + 1 ≡ 16 * n + 17 = omega arith in
    let at_sat : 7 + n * 16 + 4 + 4 + 1 + 1 + 2 ≡ 16 * n + 19 = omega arith in
    let at_code : 7 + n * 16 + 4 + 4 + 1 + 1 + 2 + 2 ≡ 16 * n + 21 = omega arith in
    let at_reserved : 7 + n * 16 + 4 + 4 + 1 + 1 + 2 + 2 + 1 ≡ 16 * n + 22 = omega arith in
    record {
      p = ap (value_at u32 s) at_p;
      l_i = ap (value_at s32 s) at_l_i;
      l_f = ap (value_at u8 s) at_l_f;
      cn0 = ap (value_at u8 s) at_cn0;
      lock = ap (value_at u16 s) at_lock;
      sat = ap (value_at u16 s) at_sat;
      code = ap (value_at u8 s) at_code;
      reserved = ap (value_at u8 s) at_reserved;
    }

pub named : Named
named = record {
  gps_time = record { kind = refl; total = λ r. refl; fields = λ s. record { wn = refl; tow = refl; ns = refl; flags = refl } };
  dops = record { kind = refl; total = λ r. refl; fields = λ s. record { tow = refl; gdop = refl; pdop = refl; tdop = refl; hdop = refl; vdop = refl } };
  pos_ecef = record { kind = refl; total = λ r. refl; fields = λ s. record { tow = refl; x = refl; y = refl; z = refl; accuracy = refl; n_sats = refl; flags = refl } };
  pos_llh = record { kind = refl; total = λ r. refl; fields = λ s. record { tow = refl; lat = refl; lon = refl; height = refl; h_accuracy = refl; v_accuracy = refl; n_sats = refl; flags = refl } };
  baseline_ecef = record { kind = refl; total = λ r. refl; fields = λ s. record { tow = refl; x = refl; y = refl; z = refl; accuracy = refl; n_sats = refl; flags = refl } };
  vel_ecef = record { kind = refl; total = λ r. refl; fields = λ s. record { tow = refl; x = refl; y = refl; z = refl; accuracy = refl; n_sats = refl; flags = refl } };
  baseline_ned = record { kind = refl; total = λ r. refl; fields = λ s. record { tow = refl; n = refl; e = refl; d = refl; h_accuracy = refl; v_accuracy = refl; n_sats = refl; flags = refl } };
  vel_ned = record { kind = refl; total = λ r. refl; fields = λ s. record { tow = refl; n = refl; e = refl; d = refl; h_accuracy = refl; v_accuracy = refl; n_sats = refl; flags = refl } };
  baseline_heading = record { kind = refl; total = λ r. refl; fields = λ s. record { tow = refl; heading = refl; n_sats = refl; flags = refl } };
  base_pos_llh = record { kind = refl; total = λ r. refl; fields = λ s. record { lat = refl; lon = refl; height = refl } };
  base_pos_ecef = record { kind = refl; total = λ r. refl; fields = λ s. record { x = refl; y = refl; z = refl } };
  ephemeris_gps = record { kind = refl; total = λ r. refl; fields = λ s. record { common_sid_sat = refl; common_sid_code = refl; common_sid_reserved = refl; common_toe_tow = refl; common_toe_wn = refl; common_ura = refl; common_fit_interval = refl; common_valid = refl; common_health = refl; tgd = refl; harmonics_c_rs = refl; harmonics_c_rc = refl; harmonics_c_uc = refl; harmonics_c_us = refl; harmonics_c_ic = refl; harmonics_c_is = refl; ellipse_dn = refl; ellipse_m0 = refl; ellipse_ecc = refl; ellipse_sqrta = refl; plane_omega0 = refl; plane_omegadot = refl; plane_w = refl; plane_inc = refl; plane_inc_dot = refl; clock_af0 = refl; clock_af1 = refl; clock_af2 = refl; clock_toc_tow = refl; clock_toc_wn = refl; iode = refl; iodc = refl } };
  ephemeris_sbas = record { kind = refl; total = λ r. refl; fields = λ s. record { common_sid_sat = refl; common_sid_code = refl; common_sid_reserved = refl; common_toe_tow = refl; common_toe_wn = refl; common_ura = refl; common_fit_interval = refl; common_valid = refl; common_health = refl; motion_pos_x = refl; motion_pos_y = refl; motion_pos_z = refl; motion_vel_x = refl; motion_vel_y = refl; motion_vel_z = refl; motion_acc_x = refl; motion_acc_y = refl; motion_acc_z = refl; a_gf0 = refl; a_gf1 = refl } };
  ephemeris_glo = record { kind = refl; total = λ r. refl; fields = λ s. record { common_sid_sat = refl; common_sid_code = refl; common_sid_reserved = refl; common_toe_tow = refl; common_toe_wn = refl; common_ura = refl; common_fit_interval = refl; common_valid = refl; common_health = refl; gamma = refl; tau = refl; motion_pos_x = refl; motion_pos_y = refl; motion_pos_z = refl; motion_vel_x = refl; motion_vel_y = refl; motion_vel_z = refl; motion_acc_x = refl; motion_acc_y = refl; motion_acc_z = refl } };
  iono = record { kind = refl; total = λ r. refl; fields = λ s. record { t_nmct_tow = refl; t_nmct_wn = refl; a_c0 = refl; a_c1 = refl; a_c2 = refl; a_c3 = refl; b_c0 = refl; b_c1 = refl; b_c2 = refl; b_c3 = refl } };
  sv_configuration_gps = record { kind = refl; total = λ r. refl; fields = λ s. record { t_nmct_tow = refl; t_nmct_wn = refl; l2c_mask = refl } };
  group_delay = record { kind = refl; total = λ r. refl; fields = λ s. record { t_op_tow = refl; t_op_wn = refl; prn = refl; valid = refl; tgd = refl; isc_l1ca = refl; isc_l2c = refl } };
  obs_head = record { kind = refl; total = obs_total; fields = λ s. record { tow = refl; wn = refl; n_obs = refl } };
  one_observation = observation_at;
  log = record { kind = refl; total = λ r. omega arith; fields = λ s. record { level = refl; text = refl; padding = refl; length = refl } };
  settings_save = record { kind = refl; total = λ r. refl; fields = λ s. tt };
  read_by_index_done = record { kind = refl; total = λ r. refl; fields = λ s. tt };
  read_by_index_req = record { kind = refl; total = λ r. refl; fields = λ s. record { index = refl } };
  startup = record { kind = refl; total = λ r. refl; fields = λ s. record { reserved = refl } };
  heartbeat = record { kind = refl; total = λ r. refl; fields = λ s. record { flags = refl } };
}
