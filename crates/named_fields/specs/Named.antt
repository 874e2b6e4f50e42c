-- 003's tables, message by message: the type number, the total payload length, and each field by the name that its record has, at its offset, in
-- its format. They stand once more on purpose: with two names exchanged in a description and its code together, every row and every round trip is
-- still the same.
use Rattle.std.specs.Prelude.{◌≡◌, List, ℕ, ◌+◌, ◌*◌, length, drop}
use Rattle.wire.specs.Value.{value_at, u8, u16, u32, s16, s32, double}
use Rattle.padded.specs.Padded.{before_zero, from_zero}
use Rattle.layouts.specs.Layout.{body_size}
use Rattle.layouts.specs.Description.{Description, inside}
use Rattle.atmosphere.specs.GroupDelay.{group_delay}
use Rattle.atmosphere.specs.Iono.{iono}
use Rattle.atmosphere.specs.SvConfigurationGps.{sv_configuration_gps}
use Rattle.base_positions.specs.BasePosEcef.{base_pos_ecef}
use Rattle.base_positions.specs.BasePosLlh.{base_pos_llh}
use Rattle.baselines.specs.Ecef.{baseline_ecef, vel_ecef}
use Rattle.baselines.specs.Heading.{baseline_heading}
use Rattle.baselines.specs.Ned.{baseline_ned, vel_ned}
use Rattle.time_and_dops.specs.Dops.{dops}
use Rattle.time_and_dops.specs.GpsTime.{gps_time}
use Rattle.positions.specs.PosEcef.{pos_ecef}
use Rattle.positions.specs.PosLlh.{pos_llh}
use Rattle.orbits.specs.EphemerisGlo.{ephemeris_glo}
use Rattle.gps_orbits.specs.EphemerisGps.{ephemeris_gps}
use Rattle.orbits.specs.EphemerisSbas.{ephemeris_sbas}
use Rattle.observation.specs.Edition.{obs, first}
use Rattle.observation.specs.Obs.{entry_at, shown}
use Rattle.logs.specs.Log as logs
use Rattle.logs.specs.Log.{Logged, log}
use Rattle.system.specs.Empty.{settings_save, read_by_index_done}
use Rattle.system.specs.Heartbeat.{heartbeat}
use Rattle.system.specs.ReadByIndexReq.{read_by_index_req}
use Rattle.system.specs.Startup.{startup}
use Rattle.time_and_dops.specs.declared.gps_time.GpsTime.{GpsTime}
use Rattle.time_and_dops.specs.declared.dops.Dops.{Dops}
use Rattle.positions.specs.declared.pos_ecef.PosEcef.{PosEcef}
use Rattle.positions.specs.declared.pos_llh.PosLlh.{PosLlh}
use Rattle.baselines.specs.declared.ecef.EcefVector.{EcefVector}
use Rattle.baselines.specs.declared.ned.NedVector.{NedVector}
use Rattle.baselines.specs.declared.heading.BaselineHeading.{BaselineHeading}
use Rattle.base_positions.specs.declared.base_pos_llh.BasePosLlh.{BasePosLlh}
use Rattle.base_positions.specs.declared.base_pos_ecef.BasePosEcef.{BasePosEcef}
use Rattle.gps_orbits.specs.declared.ephemeris_gps.EphemerisGps.{EphemerisGps}
use Rattle.orbits.specs.declared.ephemeris_sbas.EphemerisSbas.{EphemerisSbas}
use Rattle.orbits.specs.declared.ephemeris_glo.EphemerisGlo.{EphemerisGlo}
use Rattle.atmosphere.specs.declared.iono.Iono.{Iono}
use Rattle.atmosphere.specs.declared.sv_configuration_gps.SvConfigurationGps.{SvConfigurationGps}
use Rattle.atmosphere.specs.declared.group_delay.GroupDelay.{GroupDelay}
use Rattle.observation.specs.declared.obs.Obs.{Obs}
use Rattle.observation.specs.declared.entry.Observation.{Observation}
use Rattle.system.specs.declared.heartbeat.Heartbeat.{Heartbeat}
use Rattle.system.specs.declared.settings.ReadByIndexReq.{ReadByIndexReq}
use Rattle.system.specs.declared.startup.Startup.{Startup}

-- GPS_TIME, 0x0100
pub record GpsTimeAt (s : List ℕ) (r : GpsTime) : Type 0 where
  pub wn : r.wn ≡ value_at u16 s 0
  pub tow : r.tow ≡ value_at u32 s 2
  pub ns : r.ns ≡ value_at s32 s 6
  pub flags : r.flags ≡ value_at u8 s 10

-- DOPS, 0x0206
pub record DopsAt (s : List ℕ) (r : Dops) : Type 0 where
  pub tow : r.tow ≡ value_at u32 s 0
  pub gdop : r.gdop ≡ value_at u16 s 4
  pub pdop : r.pdop ≡ value_at u16 s 6
  pub tdop : r.tdop ≡ value_at u16 s 8
  pub hdop : r.hdop ≡ value_at u16 s 10
  pub vdop : r.vdop ≡ value_at u16 s 12

-- POS_ECEF, 0x0200
pub record PosEcefAt (s : List ℕ) (r : PosEcef) : Type 0 where
  pub tow : r.tow ≡ value_at u32 s 0
  pub x : r.x ≡ value_at double s 4
  pub y : r.y ≡ value_at double s 12
  pub z : r.z ≡ value_at double s 20
  pub accuracy : r.accuracy ≡ value_at u16 s 28
  pub n_sats : r.n_sats ≡ value_at u8 s 30
  pub flags : r.flags ≡ value_at u8 s 31

-- POS_LLH, 0x0201
pub record PosLlhAt (s : List ℕ) (r : PosLlh) : Type 0 where
  pub tow : r.tow ≡ value_at u32 s 0
  pub lat : r.lat ≡ value_at double s 4
  pub lon : r.lon ≡ value_at double s 12
  pub height : r.height ≡ value_at double s 20
  pub h_accuracy : r.h_accuracy ≡ value_at u16 s 28
  pub v_accuracy : r.v_accuracy ≡ value_at u16 s 30
  pub n_sats : r.n_sats ≡ value_at u8 s 32
  pub flags : r.flags ≡ value_at u8 s 33

-- BASELINE_ECEF, 0x0202, and VEL_ECEF, 0x0204
pub record EcefVectorAt (s : List ℕ) (r : EcefVector) : Type 0 where
  pub tow : r.tow ≡ value_at u32 s 0
  pub x : r.x ≡ value_at s32 s 4
  pub y : r.y ≡ value_at s32 s 8
  pub z : r.z ≡ value_at s32 s 12
  pub accuracy : r.accuracy ≡ value_at u16 s 16
  pub n_sats : r.n_sats ≡ value_at u8 s 18
  pub flags : r.flags ≡ value_at u8 s 19

-- BASELINE_NED, 0x0203, and VEL_NED, 0x0205
pub record NedVectorAt (s : List ℕ) (r : NedVector) : Type 0 where
  pub tow : r.tow ≡ value_at u32 s 0
  pub n : r.n ≡ value_at s32 s 4
  pub e : r.e ≡ value_at s32 s 8
  pub d : r.d ≡ value_at s32 s 12
  pub h_accuracy : r.h_accuracy ≡ value_at u16 s 16
  pub v_accuracy : r.v_accuracy ≡ value_at u16 s 18
  pub n_sats : r.n_sats ≡ value_at u8 s 20
  pub flags : r.flags ≡ value_at u8 s 21

-- BASELINE_HEADING, 0x0207
pub record BaselineHeadingAt (s : List ℕ) (r : BaselineHeading) : Type 0 where
  pub tow : r.tow ≡ value_at u32 s 0
  pub heading : r.heading ≡ value_at u32 s 4
  pub n_sats : r.n_sats ≡ value_at u8 s 8
  pub flags : r.flags ≡ value_at u8 s 9

-- BASE_POS_LLH, 0x0044
pub record BasePosLlhAt (s : List ℕ) (r : BasePosLlh) : Type 0 where
  pub lat : r.lat ≡ value_at double s 0
  pub lon : r.lon ≡ value_at double s 8
  pub height : r.height ≡ value_at double s 16

-- BASE_POS_ECEF, 0x0048
pub record BasePosEcefAt (s : List ℕ) (r : BasePosEcef) : Type 0 where
  pub x : r.x ≡ value_at double s 0
  pub y : r.y ≡ value_at double s 8
  pub z : r.z ≡ value_at double s 16

-- EPHEMERIS_GPS, 0x0081
pub record EphemerisGpsAt (s : List ℕ) (r : EphemerisGps) : Type 0 where
  pub common_sid_sat : r.common.sid.sat ≡ value_at u16 s 0
  pub common_sid_code : r.common.sid.code ≡ value_at u8 s 2
  pub common_sid_reserved : r.common.sid.reserved ≡ value_at u8 s 3
  pub common_toe_tow : r.common.toe.tow ≡ value_at u32 s 4
  pub common_toe_wn : r.common.toe.wn ≡ value_at u16 s 8
  pub common_ura : r.common.ura ≡ value_at double s 10
  pub common_fit_interval : r.common.fit_interval ≡ value_at u32 s 18
  pub common_valid : r.common.valid ≡ value_at u8 s 22
  pub common_health : r.common.health ≡ value_at u8 s 23
  pub tgd : r.tgd ≡ value_at double s 24
  pub harmonics_c_rs : r.harmonics.c_rs ≡ value_at double s 32
  pub harmonics_c_rc : r.harmonics.c_rc ≡ value_at double s 40
  pub harmonics_c_uc : r.harmonics.c_uc ≡ value_at double s 48
  pub harmonics_c_us : r.harmonics.c_us ≡ value_at double s 56
  pub harmonics_c_ic : r.harmonics.c_ic ≡ value_at double s 64
  pub harmonics_c_is : r.harmonics.c_is ≡ value_at double s 72
  pub ellipse_dn : r.ellipse.dn ≡ value_at double s 80
  pub ellipse_m0 : r.ellipse.m0 ≡ value_at double s 88
  pub ellipse_ecc : r.ellipse.ecc ≡ value_at double s 96
  pub ellipse_sqrta : r.ellipse.sqrta ≡ value_at double s 104
  pub plane_omega0 : r.plane.omega0 ≡ value_at double s 112
  pub plane_omegadot : r.plane.omegadot ≡ value_at double s 120
  pub plane_w : r.plane.w ≡ value_at double s 128
  pub plane_inc : r.plane.inc ≡ value_at double s 136
  pub plane_inc_dot : r.plane.inc_dot ≡ value_at double s 144
  pub clock_af0 : r.clock.af0 ≡ value_at double s 152
  pub clock_af1 : r.clock.af1 ≡ value_at double s 160
  pub clock_af2 : r.clock.af2 ≡ value_at double s 168
  pub clock_toc_tow : r.clock.toc.tow ≡ value_at u32 s 176
  pub clock_toc_wn : r.clock.toc.wn ≡ value_at u16 s 180
  pub iode : r.iode ≡ value_at u8 s 182
  pub iodc : r.iodc ≡ value_at u16 s 183

-- EPHEMERIS_SBAS, 0x0082
pub record EphemerisSbasAt (s : List ℕ) (r : EphemerisSbas) : Type 0 where
  pub common_sid_sat : r.common.sid.sat ≡ value_at u16 s 0
  pub common_sid_code : r.common.sid.code ≡ value_at u8 s 2
  pub common_sid_reserved : r.common.sid.reserved ≡ value_at u8 s 3
  pub common_toe_tow : r.common.toe.tow ≡ value_at u32 s 4
  pub common_toe_wn : r.common.toe.wn ≡ value_at u16 s 8
  pub common_ura : r.common.ura ≡ value_at double s 10
  pub common_fit_interval : r.common.fit_interval ≡ value_at u32 s 18
  pub common_valid : r.common.valid ≡ value_at u8 s 22
  pub common_health : r.common.health ≡ value_at u8 s 23
  pub motion_pos_x : r.motion.pos.x ≡ value_at double s 24
  pub motion_pos_y : r.motion.pos.y ≡ value_at double s 32
  pub motion_pos_z : r.motion.pos.z ≡ value_at double s 40
  pub motion_vel_x : r.motion.vel.x ≡ value_at double s 48
  pub motion_vel_y : r.motion.vel.y ≡ value_at double s 56
  pub motion_vel_z : r.motion.vel.z ≡ value_at double s 64
  pub motion_acc_x : r.motion.acc.x ≡ value_at double s 72
  pub motion_acc_y : r.motion.acc.y ≡ value_at double s 80
  pub motion_acc_z : r.motion.acc.z ≡ value_at double s 88
  pub a_gf0 : r.a_gf0 ≡ value_at double s 96
  pub a_gf1 : r.a_gf1 ≡ value_at double s 104

-- EPHEMERIS_GLO, 0x0083
pub record EphemerisGloAt (s : List ℕ) (r : EphemerisGlo) : Type 0 where
  pub common_sid_sat : r.common.sid.sat ≡ value_at u16 s 0
  pub common_sid_code : r.common.sid.code ≡ value_at u8 s 2
  pub common_sid_reserved : r.common.sid.reserved ≡ value_at u8 s 3
  pub common_toe_tow : r.common.toe.tow ≡ value_at u32 s 4
  pub common_toe_wn : r.common.toe.wn ≡ value_at u16 s 8
  pub common_ura : r.common.ura ≡ value_at double s 10
  pub common_fit_interval : r.common.fit_interval ≡ value_at u32 s 18
  pub common_valid : r.common.valid ≡ value_at u8 s 22
  pub common_health : r.common.health ≡ value_at u8 s 23
  pub gamma : r.gamma ≡ value_at double s 24
  pub tau : r.tau ≡ value_at double s 32
  pub motion_pos_x : r.motion.pos.x ≡ value_at double s 40
  pub motion_pos_y : r.motion.pos.y ≡ value_at double s 48
  pub motion_pos_z : r.motion.pos.z ≡ value_at double s 56
  pub motion_vel_x : r.motion.vel.x ≡ value_at double s 64
  pub motion_vel_y : r.motion.vel.y ≡ value_at double s 72
  pub motion_vel_z : r.motion.vel.z ≡ value_at double s 80
  pub motion_acc_x : r.motion.acc.x ≡ value_at double s 88
  pub motion_acc_y : r.motion.acc.y ≡ value_at double s 96
  pub motion_acc_z : r.motion.acc.z ≡ value_at double s 104

-- IONO, 0x0090
pub record IonoAt (s : List ℕ) (r : Iono) : Type 0 where
  pub t_nmct_tow : r.t_nmct.tow ≡ value_at u32 s 0
  pub t_nmct_wn : r.t_nmct.wn ≡ value_at u16 s 4
  pub a_c0 : r.a.c0 ≡ value_at double s 6
  pub a_c1 : r.a.c1 ≡ value_at double s 14
  pub a_c2 : r.a.c2 ≡ value_at double s 22
  pub a_c3 : r.a.c3 ≡ value_at double s 30
  pub b_c0 : r.b.c0 ≡ value_at double s 38
  pub b_c1 : r.b.c1 ≡ value_at double s 46
  pub b_c2 : r.b.c2 ≡ value_at double s 54
  pub b_c3 : r.b.c3 ≡ value_at double s 62

-- SV_CONFIGURATION_GPS, 0x0091
pub record SvConfigurationGpsAt (s : List ℕ) (r : SvConfigurationGps) : Type 0 where
  pub t_nmct_tow : r.t_nmct.tow ≡ value_at u32 s 0
  pub t_nmct_wn : r.t_nmct.wn ≡ value_at u16 s 4
  pub l2c_mask : r.l2c_mask ≡ value_at u32 s 6

-- GROUP_DELAY, 0x0092
pub record GroupDelayAt (s : List ℕ) (r : GroupDelay) : Type 0 where
  pub t_op_tow : r.t_op.tow ≡ value_at u32 s 0
  pub t_op_wn : r.t_op.wn ≡ value_at u16 s 4
  pub prn : r.prn ≡ value_at u8 s 6
  pub valid : r.valid ≡ value_at u8 s 7
  pub tgd : r.tgd ≡ value_at s16 s 8
  pub isc_l1ca : r.isc_l1ca ≡ value_at s16 s 10
  pub isc_l2c : r.isc_l2c ≡ value_at s16 s 12

-- OBS, 0x0049: its header
pub record ObsAt (s : List ℕ) (r : Obs) : Type 0 where
  pub tow : r.tow ≡ value_at u32 s 0
  pub wn : r.wn ≡ value_at u16 s 4
  pub n_obs : r.n_obs ≡ value_at u8 s 6

-- observation N of an OBS
pub record ObservationAt (s : List ℕ) (N : ℕ) (r : Observation) : Type 0 where
  pub p : r.p ≡ value_at u32 s (16 * N + 7)
  pub l_i : r.l_i ≡ value_at s32 s (16 * N + 11)
  pub l_f : r.l_f ≡ value_at u8 s (16 * N + 15)
  pub cn0 : r.cn0 ≡ value_at u8 s (16 * N + 16)
  pub lock : r.lock ≡ value_at u16 s (16 * N + 17)
  pub sat : r.sat ≡ value_at u16 s (16 * N + 19)
  pub code : r.code ≡ value_at u8 s (16 * N + 21)
  pub reserved : r.reserved ≡ value_at u8 s (16 * N + 22)

-- LOG, 0x0401: a level, then a string, "NULL padded/terminated". The code shows how long the text and the padding are
pub record LogAt (s : List ℕ) (r : Logged) : Type 0 where
  pub level : (logs.shown r).level ≡ value_at u8 s 0
  pub text : r.text ≡ before_zero (drop 1 s)
  pub padding : (logs.shown r).padding ≡ length (from_zero (drop 1 s))
  pub length : (logs.shown r).length ≡ length (before_zero (drop 1 s))

-- SETTINGS_SAVE, 0x00A1, and READ_BY_INDEX_DONE, 0x00A6: no field
abbrev pub NothingAt : List ℕ → Unit {0} → Type 0
NothingAt s r = Unit {0}

-- READ_BY_INDEX_REQ, 0x00A2
pub record ReadByIndexReqAt (s : List ℕ) (r : ReadByIndexReq) : Type 0 where
  pub index : r.index ≡ value_at u16 s 0

-- STARTUP, 0xFF00
pub record StartupAt (s : List ℕ) (r : Startup) : Type 0 where
  pub reserved : r.reserved ≡ value_at u32 s 0

-- HEARTBEAT, 0xFFFF
pub record HeartbeatAt (s : List ℕ) (r : Heartbeat) : Type 0 where
  pub flags : r.flags ≡ value_at u32 s 0

-- a table of 003: the type number, the total payload length of a record, and the fields of any payload
pub record Table {R : Type 0} (d : Description R) (number : ℕ) (bytes : R → ℕ) (At : List ℕ → R → Type 0) : Type 0 where
  pub kind : d.kind ≡ number
  pub total : (r : R) → body_size d.layout (d.row r) ≡ bytes r
  pub fields : (s : List ℕ) → At s (inside d s)

-- all 24 messages
pub record Named : Type 0 where
  pub gps_time : Table gps_time 0x0100 (λ r. 11) GpsTimeAt
  pub dops : Table dops 0x0206 (λ r. 14) DopsAt
  pub pos_ecef : Table pos_ecef 0x0200 (λ r. 32) PosEcefAt
  pub pos_llh : Table pos_llh 0x0201 (λ r. 34) PosLlhAt
  pub baseline_ecef : Table baseline_ecef 0x0202 (λ r. 20) EcefVectorAt
  pub vel_ecef : Table vel_ecef 0x0204 (λ r. 20) EcefVectorAt
  pub baseline_ned : Table baseline_ned 0x0203 (λ r. 22) NedVectorAt
  pub vel_ned : Table vel_ned 0x0205 (λ r. 22) NedVectorAt
  pub baseline_heading : Table baseline_heading 0x0207 (λ r. 10) BaselineHeadingAt
  pub base_pos_llh : Table base_pos_llh 0x0044 (λ r. 24) BasePosLlhAt
  pub base_pos_ecef : Table base_pos_ecef 0x0048 (λ r. 24) BasePosEcefAt
  pub ephemeris_gps : Table ephemeris_gps 0x0081 (λ r. 185) EphemerisGpsAt
  pub ephemeris_sbas : Table ephemeris_sbas 0x0082 (λ r. 112) EphemerisSbasAt
  pub ephemeris_glo : Table ephemeris_glo 0x0083 (λ r. 112) EphemerisGloAt
  pub iono : Table iono 0x0090 (λ r. 70) IonoAt
  pub sv_configuration_gps : Table sv_configuration_gps 0x0091 (λ r. 10) SvConfigurationGpsAt
  pub group_delay : Table group_delay 0x0092 (λ r. 14) GroupDelayAt
  pub obs_head : Table (obs first) 0x0049 (λ r. 16 * length r.observations + 7) (λ s r. ObsAt s (shown r))
  pub one_observation : (s : List ℕ) (N : ℕ) → ObservationAt s N (entry_at first s N)
  pub log : Table log 0x0401 (λ r. length r.text + length r.padding + 1) LogAt
  pub settings_save : Table settings_save 0x00a1 (λ r. 0) NothingAt
  pub read_by_index_done : Table read_by_index_done 0x00a6 (λ r. 0) NothingAt
  pub read_by_index_req : Table read_by_index_req 0x00a2 (λ r. 2) ReadByIndexReqAt
  pub startup : Table startup 0xff00 (λ r. 4) StartupAt
  pub heartbeat : Table heartbeat 0xffff (λ r. 4) HeartbeatAt
