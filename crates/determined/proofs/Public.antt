-- Every public function of every library, a line for each: its contract determines what a call of it leaves. A function whose `ensures` is
-- dropped or says less, or which gets a `requires`, fails its line, and the gate fails on one that has no line (`tools/contracts`).
use mathlib.Core.List.{List}
use Prim.Native.Nat.{ℕ}
use seplogic.Ra.Ura.{Ura}
use base.Logic.{SProp}
use prog.Memory.{Memory}
use prog.Routine.{Routine}
use types.Logic.{Logic}
use contract.Monad.{Fun}
use contract.BorrowLft.{◌⊑◌}
use mir.Syntax.{Dict}
use denote.Builtin.{unit}
use denote.RattleType.{RattleType}
use Rattle.std.specs.declared.clone.Clone as Clone
use Rattle.wire.specs.declared.InBytes as InBytes
use Rattle.frame_writer.specs.declared.FixedMessage as FixedMessage
use Rattle.refusals.specs.contracts as refusals
use Rattle.wire.specs.contracts as wire
use Rattle.padded.specs.contracts as padded
use Rattle.text.specs.contracts as text
use Rattle.crc.specs.contracts as crc
use Rattle.formats.specs.contracts as formats
use Rattle.frames.specs.contracts as frames
use Rattle.senders.specs.contracts as senders
use Rattle.frame_writer.specs.contracts as frame_writer
use Rattle.flags.specs.contracts as flags
use Rattle.positions.specs.contracts as positions
use Rattle.time_and_dops.specs.contracts as time_and_dops
use Rattle.baselines.specs.contracts as baselines
use Rattle.phases.specs.contracts as phases
use Rattle.observation.specs.contracts as observation
use Rattle.obs_writer.specs.contracts as obs_writer
use Rattle.base_positions.specs.contracts as base_positions
use Rattle.parts.specs.contracts as parts
use Rattle.orbits.specs.contracts as orbits
use Rattle.gps_orbits.specs.contracts as gps_orbits
use Rattle.atmosphere.specs.contracts as atmosphere
use Rattle.logs.specs.contracts as logs
use Rattle.system.specs.contracts as system
use Rattle.obs_reader.specs.contracts as obs_reader
use Rattle.payloads.specs.contracts as payloads
use Rattle.readings.specs.contracts as readings
use Rattle.row_reader.specs.contracts as row_reader
use Rattle.row_writer.specs.contracts as row_writer
use Rattle.packets.specs.contracts as packets
use Rattle.runs.specs.contracts as runs
use Rattle.groups.specs.contracts as groups
use Rattle.epochs.specs.contracts as epochs
use Rattle.captures.specs.contracts as captures
use Rattle.enlisting.specs.contracts as enlisting
use Rattle.lines.specs.contracts as lines
use Rattle.listing.specs.contracts as listing
use Rattle.frame_rows.specs.contracts as frame_rows
use Rattle.flag_numbers.specs.contracts as flag_numbers
use Rattle.index.specs.contracts as index
use Rattle.lent_index.specs.contracts as lent_index
use Rattle.places.specs.contracts as places
use Rattle.states.specs.contracts as states
use Rattle.exports.specs.contracts as exports
use Rattle.determined.specs.Determined.{Determined, DeterminedAs, DeterminedWithin}

-- at every model of the logic, as every contract is stated
module _ {M : Type 1} {𝓤 : Ura M} (𝓛 : Logic 𝓤) (mem : Memory → SProp 𝓤) (run : Routine → Fun 𝓤) where
  pub record Refusals : Type 1 where
    pub number : Determined 𝓤 refusals.Refusal.number.ended (refusals.Refusal.number.clauses 𝓛 mem run)
    -- of a result of any type
    pub code : (T : RattleType) (d : Dict) → DeterminedWithin 𝓤 (refusals.code.ended T d) (refusals.code.clauses T d 𝓛 mem run) (λ κs. (κs.0 ⊑ T.lives))

  pub record Wire : Type 1 where
    pub flag : Determined 𝓤 wire.flag.ended (wire.flag.clauses 𝓛 mem run)
    pub room : Determined 𝓤 wire.room.ended (wire.room.clauses 𝓛 mem run)
    pub of_bits : Determined 𝓤 wire.double.Double.of_bits.ended (wire.double.Double.of_bits.clauses 𝓛 mem run)
    pub bits : Determined 𝓤 wire.double.Double.bits.ended (wire.double.Double.bits.clauses 𝓛 mem run)
    pub store_bytes : Determined 𝓤 wire.store_bytes.ended (wire.store_bytes.clauses 𝓛 mem run)
    -- a value of any type in bytes, and of each
    pub read : (S : RattleType) (g : InBytes.Ghosts S.Denot) (d : Dict) → DeterminedWithin 𝓤 (wire.InBytes.read.ended S g d) (wire.InBytes.read.clauses S g d 𝓛 mem run) (λ κs. (κs.1.0 ⊑ S.lives))
    pub store : (S : RattleType) (g : InBytes.Ghosts S.Denot) (d : Dict) → DeterminedWithin 𝓤 (wire.InBytes.store.ended S g d) (wire.InBytes.store.clauses S g d 𝓛 mem run) (λ κs. (κs.1.0 ⊑ S.lives))
    pub read_u8 : Determined 𝓤 wire.value.U8InBytes.read.ended (wire.value.U8InBytes.read.clauses 𝓛 mem run)
    pub read_u16 : Determined 𝓤 wire.value.U16InBytes.read.ended (wire.value.U16InBytes.read.clauses 𝓛 mem run)
    pub read_u32 : Determined 𝓤 wire.value.U32InBytes.read.ended (wire.value.U32InBytes.read.clauses 𝓛 mem run)
    pub read_u64 : Determined 𝓤 wire.value.U64InBytes.read.ended (wire.value.U64InBytes.read.clauses 𝓛 mem run)
    pub read_s16 : Determined 𝓤 wire.value.I16InBytes.read.ended (wire.value.I16InBytes.read.clauses 𝓛 mem run)
    pub read_s32 : Determined 𝓤 wire.value.I32InBytes.read.ended (wire.value.I32InBytes.read.clauses 𝓛 mem run)
    pub read_double : Determined 𝓤 wire.value.DoubleInBytes.read.ended (wire.value.DoubleInBytes.read.clauses 𝓛 mem run)
    pub store_u8 : Determined 𝓤 wire.value.U8InBytes.store.ended (wire.value.U8InBytes.store.clauses 𝓛 mem run)
    pub store_u16 : Determined 𝓤 wire.value.U16InBytes.store.ended (wire.value.U16InBytes.store.clauses 𝓛 mem run)
    pub store_u32 : Determined 𝓤 wire.value.U32InBytes.store.ended (wire.value.U32InBytes.store.clauses 𝓛 mem run)
    pub store_u64 : Determined 𝓤 wire.value.U64InBytes.store.ended (wire.value.U64InBytes.store.clauses 𝓛 mem run)
    pub store_s16 : Determined 𝓤 wire.value.I16InBytes.store.ended (wire.value.I16InBytes.store.clauses 𝓛 mem run)
    pub store_s32 : Determined 𝓤 wire.value.I32InBytes.store.ended (wire.value.I32InBytes.store.clauses 𝓛 mem run)
    pub store_double : Determined 𝓤 wire.value.DoubleInBytes.store.ended (wire.value.DoubleInBytes.store.clauses 𝓛 mem run)

  pub record Padded : Type 1 where
    pub text_length : Determined 𝓤 padded.text_length.ended (padded.text_length.clauses 𝓛 mem run)
    pub no_zero : Determined 𝓤 padded.no_zero.ended (padded.no_zero.clauses 𝓛 mem run)
    pub all_zero : Determined 𝓤 padded.all_zero.ended (padded.all_zero.clauses 𝓛 mem run)
    pub store_zeros : Determined 𝓤 padded.store_zeros.ended (padded.store_zeros.clauses 𝓛 mem run)

  pub record Text : Type 1 where
    pub put_line : Determined 𝓤 text.put_line.ended (text.put_line.clauses 𝓛 mem run)

  pub record Crc : Type 1 where
    pub crc_apart : Determined 𝓤 crc.crc_apart.ended (crc.crc_apart.clauses 𝓛 mem run)
    pub crc : Determined 𝓤 crc.crc.ended (crc.crc.clauses 𝓛 mem run)

  pub record Formats : Type 1 where
    pub count : Determined 𝓤 formats.count.ended (formats.count.clauses 𝓛 mem run)
    pub size : Determined 𝓤 formats.size.ended (formats.size.clauses 𝓛 mem run)
    pub read_run : Determined 𝓤 formats.read_run.ended (formats.read_run.clauses 𝓛 mem run)
    pub run_fits : Determined 𝓤 formats.run_fits.ended (formats.run_fits.clauses 𝓛 mem run)
    pub store_run : Determined 𝓤 formats.store_run.ended (formats.store_run.clauses 𝓛 mem run)

  pub record Frames : Type 1 where
    pub closed : Determined 𝓤 frames.cursor.Cursor.closed.ended (frames.cursor.Cursor.closed.clauses 𝓛 mem run)
    pub opened : Determined 𝓤 frames.cursor.Cursor.opened.ended (frames.cursor.Cursor.opened.clauses 𝓛 mem run)
    pub next : Determined 𝓤 frames.cursor.Cursor.next.ended (frames.cursor.Cursor.next.clauses 𝓛 mem run)
    pub reach : Determined 𝓤 frames.cursor.Cursor.reach.ended (frames.cursor.Cursor.reach.clauses 𝓛 mem run)
    pub counts : Determined 𝓤 frames.cursor.Cursor.counts.ended (frames.cursor.Cursor.counts.clauses 𝓛 mem run)
    pub totals : Determined 𝓤 frames.totals.ended (frames.totals.clauses 𝓛 mem run)
    pub frame_crc : Determined 𝓤 frames.frame_crc.ended (frames.frame_crc.clauses 𝓛 mem run)
    pub step_at : Determined 𝓤 frames.step_at.ended (frames.step_at.clauses 𝓛 mem run)
    -- a part of what was lent: what it holds
    pub payload : DeterminedAs 𝓤 frames.payload.ended (frames.payload.clauses 𝓛 mem run) (λ κs. List ℕ) (λ κs r. r.now)

  pub record Senders : Type 1 where
    pub made : Determined 𝓤 senders.Writer.made.ended (senders.Writer.made.clauses 𝓛 mem run)
    pub named : Determined 𝓤 senders.Writer.named.ended (senders.Writer.named.clauses 𝓛 mem run)
    pub sender_number : Determined 𝓤 senders.sender_number.ended (senders.sender_number.clauses 𝓛 mem run)
    pub writer_from : Determined 𝓤 senders.writer_from.ended (senders.writer_from.clauses 𝓛 mem run)

  pub record FrameWriter : Type 1 where
    pub plan : Determined 𝓤 frame_writer.plan.ended (frame_writer.plan.clauses 𝓛 mem run)
    pub seal : Determined 𝓤 frame_writer.seal.ended (frame_writer.seal.clauses 𝓛 mem run)
    pub write_frame : Determined 𝓤 frame_writer.write_frame.ended (frame_writer.write_frame.clauses 𝓛 mem run)
    pub hand_on : Determined 𝓤 frame_writer.hand_on.ended (frame_writer.hand_on.clauses 𝓛 mem run)
    -- of messages of any types
    pub read_message : (T R : RattleType) (g : FixedMessage.Ghosts T.Denot R.Denot) (d : Dict) (c : Clone.Ghosts R.Denot) (e : Dict) → DeterminedWithin 𝓤 (frame_writer.read_message.ended T R g d c e) (frame_writer.read_message.clauses T R g d c e 𝓛 mem run) (λ κs. (κs.1.0 ⊑ T.lives) × (κs.1.1.0 ⊑ R.lives))
    pub write_message : (T R : RattleType) (g : FixedMessage.Ghosts T.Denot R.Denot) (d : Dict) (c : Clone.Ghosts R.Denot) (e : Dict) → DeterminedWithin 𝓤 (frame_writer.write_message.ended T R g d c e) (frame_writer.write_message.clauses T R g d c e 𝓛 mem run) (λ κs. (κs.1.0 ⊑ T.lives) × (κs.1.1.0 ⊑ R.lives))
    pub take : (T R : RattleType) (g : FixedMessage.Ghosts T.Denot R.Denot) (d : Dict) (c : Clone.Ghosts R.Denot) (e : Dict) → DeterminedWithin 𝓤 (frame_writer.FixedMessage.take.ended T R g d c e) (frame_writer.FixedMessage.take.clauses T R g d c e 𝓛 mem run) (λ κs. (κs.1.0 ⊑ T.lives) × (κs.1.1.0 ⊑ R.lives))
    pub put : (T R : RattleType) (g : FixedMessage.Ghosts T.Denot R.Denot) (d : Dict) (c : Clone.Ghosts R.Denot) (e : Dict) → DeterminedWithin 𝓤 (frame_writer.FixedMessage.put.ended T R g d c e) (frame_writer.FixedMessage.put.clauses T R g d c e 𝓛 mem run) (λ κs. (κs.1.0 ⊑ T.lives) × (κs.1.1.0 ⊑ R.lives))
    pub allowed : (T R : RattleType) (g : FixedMessage.Ghosts T.Denot R.Denot) (d : Dict) (c : Clone.Ghosts R.Denot) (e : Dict) → DeterminedWithin 𝓤 (frame_writer.FixedMessage.allowed.ended T R g d c e) (frame_writer.FixedMessage.allowed.clauses T R g d c e 𝓛 mem run) (λ κs. (κs.0 ⊑ T.lives) × (κs.1.0 ⊑ R.lives))

  -- and of one message
  module _ (T R : RattleType) (g : FixedMessage.Ghosts T.Denot R.Denot) where
    pub record Message : Type 1 where
      pub read_message : (d : Dict) (c : Clone.Ghosts R.Denot) (e : Dict) → Determined 𝓤 (frame_writer.read_message.ended T R g d c e) (frame_writer.read_message.clauses T R g d c e 𝓛 mem run)
      pub write_message : (d : Dict) (c : Clone.Ghosts R.Denot) (e : Dict) → Determined 𝓤 (frame_writer.write_message.ended T R g d c e) (frame_writer.write_message.clauses T R g d c e 𝓛 mem run)

  pub record Flags : Type 1 where
    pub pos_ecef_fix : Determined 𝓤 flags.pos_ecef_fix.ended (flags.pos_ecef_fix.clauses 𝓛 mem run)
    pub pos_llh_fix : Determined 𝓤 flags.pos_llh_fix.ended (flags.pos_llh_fix.clauses 𝓛 mem run)
    pub baseline_fix : Determined 𝓤 flags.baseline_fix.ended (flags.baseline_fix.clauses 𝓛 mem run)
    pub raim_available : Determined 𝓤 flags.raim_available.ended (flags.raim_available.clauses 𝓛 mem run)
    pub raim_repaired : Determined 𝓤 flags.raim_repaired.ended (flags.raim_repaired.clauses 𝓛 mem run)
    pub pos_llh_above_sea : Determined 𝓤 flags.pos_llh_above_sea.ended (flags.pos_llh_above_sea.clauses 𝓛 mem run)
    pub pos_llh_raim_available : Determined 𝓤 flags.pos_llh_raim_available.ended (flags.pos_llh_raim_available.clauses 𝓛 mem run)
    pub pos_llh_raim_repaired : Determined 𝓤 flags.pos_llh_raim_repaired.ended (flags.pos_llh_raim_repaired.clauses 𝓛 mem run)
    pub ns_allowed : Determined 𝓤 flags.ns_allowed.ended (flags.ns_allowed.clauses 𝓛 mem run)
    pub fix_allowed : Determined 𝓤 flags.fix_allowed.ended (flags.fix_allowed.clauses 𝓛 mem run)

  pub record Positions : Type 1 where
    pub pos_ecef : Message positions.PosEcef.the_row positions.PosEcef.the_row positions.pos_ecef.PosEcefFixedMessage.TheImpl.ghosts
    pub take_pos_ecef : Determined 𝓤 positions.pos_ecef.PosEcefFixedMessage.take.ended (positions.pos_ecef.PosEcefFixedMessage.take.clauses 𝓛 mem run)
    pub put_pos_ecef : Determined 𝓤 positions.pos_ecef.PosEcefFixedMessage.put.ended (positions.pos_ecef.PosEcefFixedMessage.put.clauses 𝓛 mem run)
    pub allowed_pos_ecef : Determined 𝓤 positions.pos_ecef.PosEcefFixedMessage.allowed.ended (positions.pos_ecef.PosEcefFixedMessage.allowed.clauses 𝓛 mem run)
    pub pos_llh : Message positions.PosLlh.the_row positions.PosLlh.the_row positions.pos_llh.PosLlhFixedMessage.TheImpl.ghosts
    pub take_pos_llh : Determined 𝓤 positions.pos_llh.PosLlhFixedMessage.take.ended (positions.pos_llh.PosLlhFixedMessage.take.clauses 𝓛 mem run)
    pub put_pos_llh : Determined 𝓤 positions.pos_llh.PosLlhFixedMessage.put.ended (positions.pos_llh.PosLlhFixedMessage.put.clauses 𝓛 mem run)
    pub allowed_pos_llh : Determined 𝓤 positions.pos_llh.PosLlhFixedMessage.allowed.ended (positions.pos_llh.PosLlhFixedMessage.allowed.clauses 𝓛 mem run)

  pub record TimeAndDops : Type 1 where
    pub gps_time : Message time_and_dops.GpsTime.the_row time_and_dops.GpsTime.the_row time_and_dops.gps_time.GpsTimeFixedMessage.TheImpl.ghosts
    pub take_gps_time : Determined 𝓤 time_and_dops.gps_time.GpsTimeFixedMessage.take.ended (time_and_dops.gps_time.GpsTimeFixedMessage.take.clauses 𝓛 mem run)
    pub put_gps_time : Determined 𝓤 time_and_dops.gps_time.GpsTimeFixedMessage.put.ended (time_and_dops.gps_time.GpsTimeFixedMessage.put.clauses 𝓛 mem run)
    pub allowed_gps_time : Determined 𝓤 time_and_dops.gps_time.GpsTimeFixedMessage.allowed.ended (time_and_dops.gps_time.GpsTimeFixedMessage.allowed.clauses 𝓛 mem run)
    pub dops : Message time_and_dops.Dops.the_row time_and_dops.Dops.the_row time_and_dops.dops.DopsFixedMessage.TheImpl.ghosts
    pub take_dops : Determined 𝓤 time_and_dops.dops.DopsFixedMessage.take.ended (time_and_dops.dops.DopsFixedMessage.take.clauses 𝓛 mem run)
    pub put_dops : Determined 𝓤 time_and_dops.dops.DopsFixedMessage.put.ended (time_and_dops.dops.DopsFixedMessage.put.clauses 𝓛 mem run)
    pub allowed_dops : Determined 𝓤 time_and_dops.dops.DopsFixedMessage.allowed.ended (time_and_dops.dops.DopsFixedMessage.allowed.clauses 𝓛 mem run)

  pub record Baselines : Type 1 where
    pub baseline_ecef : Message baselines.BaselineEcef.the_row baselines.EcefVector.the_row baselines.ecef.BaselineEcefFixedMessage.TheImpl.ghosts
    pub take_baseline_ecef : Determined 𝓤 baselines.ecef.BaselineEcefFixedMessage.take.ended (baselines.ecef.BaselineEcefFixedMessage.take.clauses 𝓛 mem run)
    pub put_baseline_ecef : Determined 𝓤 baselines.ecef.BaselineEcefFixedMessage.put.ended (baselines.ecef.BaselineEcefFixedMessage.put.clauses 𝓛 mem run)
    pub allowed_baseline_ecef : Determined 𝓤 baselines.ecef.BaselineEcefFixedMessage.allowed.ended (baselines.ecef.BaselineEcefFixedMessage.allowed.clauses 𝓛 mem run)
    pub vel_ecef : Message baselines.VelEcef.the_row baselines.EcefVector.the_row baselines.ecef.VelEcefFixedMessage.TheImpl.ghosts
    pub take_vel_ecef : Determined 𝓤 baselines.ecef.VelEcefFixedMessage.take.ended (baselines.ecef.VelEcefFixedMessage.take.clauses 𝓛 mem run)
    pub put_vel_ecef : Determined 𝓤 baselines.ecef.VelEcefFixedMessage.put.ended (baselines.ecef.VelEcefFixedMessage.put.clauses 𝓛 mem run)
    pub allowed_vel_ecef : Determined 𝓤 baselines.ecef.VelEcefFixedMessage.allowed.ended (baselines.ecef.VelEcefFixedMessage.allowed.clauses 𝓛 mem run)
    pub baseline_ned : Message baselines.BaselineNed.the_row baselines.NedVector.the_row baselines.ned.BaselineNedFixedMessage.TheImpl.ghosts
    pub take_baseline_ned : Determined 𝓤 baselines.ned.BaselineNedFixedMessage.take.ended (baselines.ned.BaselineNedFixedMessage.take.clauses 𝓛 mem run)
    pub put_baseline_ned : Determined 𝓤 baselines.ned.BaselineNedFixedMessage.put.ended (baselines.ned.BaselineNedFixedMessage.put.clauses 𝓛 mem run)
    pub allowed_baseline_ned : Determined 𝓤 baselines.ned.BaselineNedFixedMessage.allowed.ended (baselines.ned.BaselineNedFixedMessage.allowed.clauses 𝓛 mem run)
    pub vel_ned : Message baselines.VelNed.the_row baselines.NedVector.the_row baselines.ned.VelNedFixedMessage.TheImpl.ghosts
    pub take_vel_ned : Determined 𝓤 baselines.ned.VelNedFixedMessage.take.ended (baselines.ned.VelNedFixedMessage.take.clauses 𝓛 mem run)
    pub put_vel_ned : Determined 𝓤 baselines.ned.VelNedFixedMessage.put.ended (baselines.ned.VelNedFixedMessage.put.clauses 𝓛 mem run)
    pub allowed_vel_ned : Determined 𝓤 baselines.ned.VelNedFixedMessage.allowed.ended (baselines.ned.VelNedFixedMessage.allowed.clauses 𝓛 mem run)
    pub baseline_heading : Message baselines.BaselineHeading.the_row baselines.BaselineHeading.the_row baselines.heading.BaselineHeadingFixedMessage.TheImpl.ghosts
    pub take_baseline_heading : Determined 𝓤 baselines.heading.BaselineHeadingFixedMessage.take.ended (baselines.heading.BaselineHeadingFixedMessage.take.clauses 𝓛 mem run)
    pub put_baseline_heading : Determined 𝓤 baselines.heading.BaselineHeadingFixedMessage.put.ended (baselines.heading.BaselineHeadingFixedMessage.put.clauses 𝓛 mem run)
    pub allowed_baseline_heading : Determined 𝓤 baselines.heading.BaselineHeadingFixedMessage.allowed.ended (baselines.heading.BaselineHeadingFixedMessage.allowed.clauses 𝓛 mem run)

  pub record Phases : Type 1 where
    pub carrier_phase : Determined 𝓤 phases.carrier_phase.ended (phases.carrier_phase.clauses 𝓛 mem run)
    pub phase_parts : Determined 𝓤 phases.phase_parts.ended (phases.phase_parts.clauses 𝓛 mem run)

  pub record Observation : Type 1 where
    pub read_observation : Determined 𝓤 observation.read_observation.ended (observation.read_observation.clauses 𝓛 mem run)
    pub read_observation_of : Determined 𝓤 observation.read_observation_of.ended (observation.read_observation_of.clauses 𝓛 mem run)
    pub is_obs : Determined 𝓤 observation.is_obs.ended (observation.is_obs.clauses 𝓛 mem run)
    pub is_obs_length : Determined 𝓤 observation.is_obs_length.ended (observation.is_obs_length.clauses 𝓛 mem run)
    pub read_obs : Determined 𝓤 observation.read_obs.ended (observation.read_obs.clauses 𝓛 mem run)

  pub record ObsWriter : Type 1 where
    pub write_obs : Determined 𝓤 obs_writer.write_obs.ended (obs_writer.write_obs.clauses 𝓛 mem run)

  pub record BasePositions : Type 1 where
    pub base_pos_llh : Message base_positions.BasePosLlh.the_row base_positions.BasePosLlh.the_row base_positions.base_pos_llh.BasePosLlhFixedMessage.TheImpl.ghosts
    pub take_base_pos_llh : Determined 𝓤 base_positions.base_pos_llh.BasePosLlhFixedMessage.take.ended (base_positions.base_pos_llh.BasePosLlhFixedMessage.take.clauses 𝓛 mem run)
    pub put_base_pos_llh : Determined 𝓤 base_positions.base_pos_llh.BasePosLlhFixedMessage.put.ended (base_positions.base_pos_llh.BasePosLlhFixedMessage.put.clauses 𝓛 mem run)
    pub allowed_base_pos_llh : Determined 𝓤 base_positions.base_pos_llh.BasePosLlhFixedMessage.allowed.ended (base_positions.base_pos_llh.BasePosLlhFixedMessage.allowed.clauses 𝓛 mem run)
    pub base_pos_ecef : Message base_positions.BasePosEcef.the_row base_positions.BasePosEcef.the_row base_positions.base_pos_ecef.BasePosEcefFixedMessage.TheImpl.ghosts
    pub take_base_pos_ecef : Determined 𝓤 base_positions.base_pos_ecef.BasePosEcefFixedMessage.take.ended (base_positions.base_pos_ecef.BasePosEcefFixedMessage.take.clauses 𝓛 mem run)
    pub put_base_pos_ecef : Determined 𝓤 base_positions.base_pos_ecef.BasePosEcefFixedMessage.put.ended (base_positions.base_pos_ecef.BasePosEcefFixedMessage.put.clauses 𝓛 mem run)
    pub allowed_base_pos_ecef : Determined 𝓤 base_positions.base_pos_ecef.BasePosEcefFixedMessage.allowed.ended (base_positions.base_pos_ecef.BasePosEcefFixedMessage.allowed.clauses 𝓛 mem run)

  pub record Parts : Type 1 where
    pub take_time : Determined 𝓤 parts.time_of_week.TimeOfWeek.take.ended (parts.time_of_week.TimeOfWeek.take.clauses 𝓛 mem run)
    pub put_time : Determined 𝓤 parts.time_of_week.TimeOfWeek.put.ended (parts.time_of_week.TimeOfWeek.put.clauses 𝓛 mem run)
    pub take_common : Determined 𝓤 parts.common.EphemerisCommon.take.ended (parts.common.EphemerisCommon.take.clauses 𝓛 mem run)
    pub put_common : Determined 𝓤 parts.common.EphemerisCommon.put.ended (parts.common.EphemerisCommon.put.clauses 𝓛 mem run)

  pub record Orbits : Type 1 where
    pub ephemeris_sbas : Message orbits.EphemerisSbas.the_row orbits.EphemerisSbas.the_row orbits.ephemeris_sbas.EphemerisSbasFixedMessage.TheImpl.ghosts
    pub take_ephemeris_sbas : Determined 𝓤 orbits.ephemeris_sbas.EphemerisSbasFixedMessage.take.ended (orbits.ephemeris_sbas.EphemerisSbasFixedMessage.take.clauses 𝓛 mem run)
    pub put_ephemeris_sbas : Determined 𝓤 orbits.ephemeris_sbas.EphemerisSbasFixedMessage.put.ended (orbits.ephemeris_sbas.EphemerisSbasFixedMessage.put.clauses 𝓛 mem run)
    pub allowed_ephemeris_sbas : Determined 𝓤 orbits.ephemeris_sbas.EphemerisSbasFixedMessage.allowed.ended (orbits.ephemeris_sbas.EphemerisSbasFixedMessage.allowed.clauses 𝓛 mem run)
    pub ephemeris_glo : Message orbits.EphemerisGlo.the_row orbits.EphemerisGlo.the_row orbits.ephemeris_glo.EphemerisGloFixedMessage.TheImpl.ghosts
    pub take_ephemeris_glo : Determined 𝓤 orbits.ephemeris_glo.EphemerisGloFixedMessage.take.ended (orbits.ephemeris_glo.EphemerisGloFixedMessage.take.clauses 𝓛 mem run)
    pub put_ephemeris_glo : Determined 𝓤 orbits.ephemeris_glo.EphemerisGloFixedMessage.put.ended (orbits.ephemeris_glo.EphemerisGloFixedMessage.put.clauses 𝓛 mem run)
    pub allowed_ephemeris_glo : Determined 𝓤 orbits.ephemeris_glo.EphemerisGloFixedMessage.allowed.ended (orbits.ephemeris_glo.EphemerisGloFixedMessage.allowed.clauses 𝓛 mem run)

  pub record GpsOrbits : Type 1 where
    pub ephemeris_gps : Message gps_orbits.EphemerisGps.the_row gps_orbits.EphemerisGps.the_row gps_orbits.ephemeris_gps.EphemerisGpsFixedMessage.TheImpl.ghosts
    pub take_ephemeris_gps : Determined 𝓤 gps_orbits.ephemeris_gps.EphemerisGpsFixedMessage.take.ended (gps_orbits.ephemeris_gps.EphemerisGpsFixedMessage.take.clauses 𝓛 mem run)
    pub put_ephemeris_gps : Determined 𝓤 gps_orbits.ephemeris_gps.EphemerisGpsFixedMessage.put.ended (gps_orbits.ephemeris_gps.EphemerisGpsFixedMessage.put.clauses 𝓛 mem run)
    pub allowed_ephemeris_gps : Determined 𝓤 gps_orbits.ephemeris_gps.EphemerisGpsFixedMessage.allowed.ended (gps_orbits.ephemeris_gps.EphemerisGpsFixedMessage.allowed.clauses 𝓛 mem run)

  pub record Atmosphere : Type 1 where
    pub iono : Message atmosphere.Iono.the_row atmosphere.Iono.the_row atmosphere.iono.IonoFixedMessage.TheImpl.ghosts
    pub take_iono : Determined 𝓤 atmosphere.iono.IonoFixedMessage.take.ended (atmosphere.iono.IonoFixedMessage.take.clauses 𝓛 mem run)
    pub put_iono : Determined 𝓤 atmosphere.iono.IonoFixedMessage.put.ended (atmosphere.iono.IonoFixedMessage.put.clauses 𝓛 mem run)
    pub allowed_iono : Determined 𝓤 atmosphere.iono.IonoFixedMessage.allowed.ended (atmosphere.iono.IonoFixedMessage.allowed.clauses 𝓛 mem run)
    pub sv_configuration_gps : Message atmosphere.SvConfigurationGps.the_row atmosphere.SvConfigurationGps.the_row atmosphere.sv_configuration_gps.SvConfigurationGpsFixedMessage.TheImpl.ghosts
    pub take_sv_configuration_gps : Determined 𝓤 atmosphere.sv_configuration_gps.SvConfigurationGpsFixedMessage.take.ended (atmosphere.sv_configuration_gps.SvConfigurationGpsFixedMessage.take.clauses 𝓛 mem run)
    pub put_sv_configuration_gps : Determined 𝓤 atmosphere.sv_configuration_gps.SvConfigurationGpsFixedMessage.put.ended (atmosphere.sv_configuration_gps.SvConfigurationGpsFixedMessage.put.clauses 𝓛 mem run)
    pub allowed_sv_configuration_gps : Determined 𝓤 atmosphere.sv_configuration_gps.SvConfigurationGpsFixedMessage.allowed.ended (atmosphere.sv_configuration_gps.SvConfigurationGpsFixedMessage.allowed.clauses 𝓛 mem run)
    pub group_delay : Message atmosphere.GroupDelay.the_row atmosphere.GroupDelay.the_row atmosphere.group_delay.GroupDelayFixedMessage.TheImpl.ghosts
    pub take_group_delay : Determined 𝓤 atmosphere.group_delay.GroupDelayFixedMessage.take.ended (atmosphere.group_delay.GroupDelayFixedMessage.take.clauses 𝓛 mem run)
    pub put_group_delay : Determined 𝓤 atmosphere.group_delay.GroupDelayFixedMessage.put.ended (atmosphere.group_delay.GroupDelayFixedMessage.put.clauses 𝓛 mem run)
    pub allowed_group_delay : Determined 𝓤 atmosphere.group_delay.GroupDelayFixedMessage.allowed.ended (atmosphere.group_delay.GroupDelayFixedMessage.allowed.clauses 𝓛 mem run)

  pub record Logs : Type 1 where
    pub is_log_length : Determined 𝓤 logs.is_log_length.ended (logs.is_log_length.clauses 𝓛 mem run)
    pub log_padded : Determined 𝓤 logs.log_padded.ended (logs.log_padded.clauses 𝓛 mem run)
    pub take_log : Determined 𝓤 logs.take_log.ended (logs.take_log.clauses 𝓛 mem run)
    pub read_log : Determined 𝓤 logs.read_log.ended (logs.read_log.clauses 𝓛 mem run)
    -- a part of what was lent: what it holds
    pub log_text : DeterminedAs 𝓤 logs.log_text.ended (logs.log_text.clauses 𝓛 mem run) (λ κs. List ℕ) (λ κs r. r.now)
    pub write_log : Determined 𝓤 logs.write_log.ended (logs.write_log.clauses 𝓛 mem run)

  pub record System : Type 1 where
    pub settings_save : Message system.SettingsSave.the_row unit system.empty.SettingsSaveFixedMessage.TheImpl.ghosts
    pub take_settings_save : Determined 𝓤 system.empty.SettingsSaveFixedMessage.take.ended (system.empty.SettingsSaveFixedMessage.take.clauses 𝓛 mem run)
    pub put_settings_save : Determined 𝓤 system.empty.SettingsSaveFixedMessage.put.ended (system.empty.SettingsSaveFixedMessage.put.clauses 𝓛 mem run)
    pub allowed_settings_save : Determined 𝓤 system.empty.SettingsSaveFixedMessage.allowed.ended (system.empty.SettingsSaveFixedMessage.allowed.clauses 𝓛 mem run)
    pub read_by_index_done : Message system.ReadByIndexDone.the_row unit system.empty.ReadByIndexDoneFixedMessage.TheImpl.ghosts
    pub take_read_by_index_done : Determined 𝓤 system.empty.ReadByIndexDoneFixedMessage.take.ended (system.empty.ReadByIndexDoneFixedMessage.take.clauses 𝓛 mem run)
    pub put_read_by_index_done : Determined 𝓤 system.empty.ReadByIndexDoneFixedMessage.put.ended (system.empty.ReadByIndexDoneFixedMessage.put.clauses 𝓛 mem run)
    pub allowed_read_by_index_done : Determined 𝓤 system.empty.ReadByIndexDoneFixedMessage.allowed.ended (system.empty.ReadByIndexDoneFixedMessage.allowed.clauses 𝓛 mem run)
    pub read_by_index_req : Message system.ReadByIndexReq.the_row system.ReadByIndexReq.the_row system.settings.ReadByIndexReqFixedMessage.TheImpl.ghosts
    pub take_read_by_index_req : Determined 𝓤 system.settings.ReadByIndexReqFixedMessage.take.ended (system.settings.ReadByIndexReqFixedMessage.take.clauses 𝓛 mem run)
    pub put_read_by_index_req : Determined 𝓤 system.settings.ReadByIndexReqFixedMessage.put.ended (system.settings.ReadByIndexReqFixedMessage.put.clauses 𝓛 mem run)
    pub allowed_read_by_index_req : Determined 𝓤 system.settings.ReadByIndexReqFixedMessage.allowed.ended (system.settings.ReadByIndexReqFixedMessage.allowed.clauses 𝓛 mem run)
    pub startup : Message system.Startup.the_row system.Startup.the_row system.startup.StartupFixedMessage.TheImpl.ghosts
    pub take_startup : Determined 𝓤 system.startup.StartupFixedMessage.take.ended (system.startup.StartupFixedMessage.take.clauses 𝓛 mem run)
    pub put_startup : Determined 𝓤 system.startup.StartupFixedMessage.put.ended (system.startup.StartupFixedMessage.put.clauses 𝓛 mem run)
    pub allowed_startup : Determined 𝓤 system.startup.StartupFixedMessage.allowed.ended (system.startup.StartupFixedMessage.allowed.clauses 𝓛 mem run)
    pub heartbeat : Message system.Heartbeat.the_row system.Heartbeat.the_row system.heartbeat.HeartbeatFixedMessage.TheImpl.ghosts
    pub take_heartbeat : Determined 𝓤 system.heartbeat.HeartbeatFixedMessage.take.ended (system.heartbeat.HeartbeatFixedMessage.take.clauses 𝓛 mem run)
    pub put_heartbeat : Determined 𝓤 system.heartbeat.HeartbeatFixedMessage.put.ended (system.heartbeat.HeartbeatFixedMessage.put.clauses 𝓛 mem run)
    pub allowed_heartbeat : Determined 𝓤 system.heartbeat.HeartbeatFixedMessage.allowed.ended (system.heartbeat.HeartbeatFixedMessage.allowed.clauses 𝓛 mem run)
    pub system_error : Determined 𝓤 system.system_error.ended (system.system_error.clauses 𝓛 mem run)
    pub io_error : Determined 𝓤 system.io_error.ended (system.io_error.clauses 𝓛 mem run)
    pub nap_error : Determined 𝓤 system.nap_error.ended (system.nap_error.clauses 𝓛 mem run)
    pub external_antenna : Determined 𝓤 system.external_antenna.ended (system.external_antenna.clauses 𝓛 mem run)

  pub record ObsReader : Type 1 where
    pub made : Determined 𝓤 obs_reader.ObsReader.made.ended (obs_reader.ObsReader.made.clauses 𝓛 mem run)
    pub next : Determined 𝓤 obs_reader.ObsReader.next.ended (obs_reader.ObsReader.next.clauses 𝓛 mem run)
    pub step_from : Determined 𝓤 obs_reader.step_from.ended (obs_reader.step_from.clauses 𝓛 mem run)

  pub record Payloads : Type 1 where
    pub message_type : Determined 𝓤 payloads.message_type.ended (payloads.message_type.clauses 𝓛 mem run)
    pub accept : Determined 𝓤 payloads.accept.ended (payloads.accept.clauses 𝓛 mem run)
    pub answer : Determined 𝓤 payloads.answer.ended (payloads.answer.clauses 𝓛 mem run)
    pub place_of : Determined 𝓤 payloads.place_of.ended (payloads.place_of.clauses 𝓛 mem run)
    pub shape_of : Determined 𝓤 payloads.shape_of.ended (payloads.shape_of.clauses 𝓛 mem run)
    pub shape_of_type : Determined 𝓤 payloads.shape_of_type.ended (payloads.shape_of_type.clauses 𝓛 mem run)

  pub record Readings : Type 1 where
    pub read : Determined 𝓤 readings.read.ended (readings.read.clauses 𝓛 mem run)

  pub record RowReader : Type 1 where
    pub read_row : Determined 𝓤 row_reader.read_row.ended (row_reader.read_row.clauses 𝓛 mem run)
    pub read_observation_row : Determined 𝓤 row_reader.read_observation_row.ended (row_reader.read_observation_row.clauses 𝓛 mem run)

  pub record RowWriter : Type 1 where
    pub write_row : Determined 𝓤 row_writer.write_row.ended (row_writer.write_row.clauses 𝓛 mem run)
    pub write_obs_row : Determined 𝓤 row_writer.write_obs_row.ended (row_writer.write_obs_row.clauses 𝓛 mem run)

  pub record Packets : Type 1 where
    pub same_key : Determined 𝓤 packets.same_key.ended (packets.same_key.clauses 𝓛 mem run)
    pub read_packet : Determined 𝓤 packets.read_packet.ended (packets.read_packet.clauses 𝓛 mem run)
    pub numbered : Determined 𝓤 packets.numbered.ended (packets.numbered.clauses 𝓛 mem run)

  pub record Runs : Type 1 where
    pub step : Determined 𝓤 runs.step.ended (runs.step.clauses 𝓛 mem run)

  pub record Groups : Type 1 where
    pub step : Determined 𝓤 groups.step.ended (groups.step.clauses 𝓛 mem run)

  pub record Epochs : Type 1 where
    pub empty : Determined 𝓤 epochs.collating.Collator.empty.ended (epochs.collating.Collator.empty.clauses 𝓛 mem run)
    pub made : Determined 𝓤 epochs.collating.Collator.made.ended (epochs.collating.Collator.made.clauses 𝓛 mem run)
    pub made_or_empty : Determined 𝓤 epochs.collating.Collator.made_or_empty.ended (epochs.collating.Collator.made_or_empty.clauses 𝓛 mem run)
    pub listed : Determined 𝓤 epochs.collating.Collator.listed.ended (epochs.collating.Collator.listed.clauses 𝓛 mem run)
    pub feed : Determined 𝓤 epochs.collating.Collator.feed.ended (epochs.collating.Collator.feed.clauses 𝓛 mem run)
    pub fed : Determined 𝓤 epochs.collating.Collator.fed.ended (epochs.collating.Collator.fed.clauses 𝓛 mem run)
    pub seat_of : Determined 𝓤 epochs.seating.Roster.seat_of.ended (epochs.seating.Roster.seat_of.clauses 𝓛 mem run)
    pub recognise : Determined 𝓤 epochs.seating.Roster.recognise.ended (epochs.seating.Roster.recognise.clauses 𝓛 mem run)
    pub outcome : Determined 𝓤 epochs.outcome.ended (epochs.outcome.clauses 𝓛 mem run)

  pub record Captures : Type 1 where
    pub collate : Determined 𝓤 captures.collate.ended (captures.collate.clauses 𝓛 mem run)

  pub record Enlisting : Type 1 where
    pub new_seat : Determined 𝓤 enlisting.new_seat.ended (enlisting.new_seat.clauses 𝓛 mem run)
    pub enlist : Determined 𝓤 enlisting.enlist.ended (enlisting.enlist.clauses 𝓛 mem run)

  pub record Lines : Type 1 where
    pub put_frame : Determined 𝓤 lines.put_frame.ended (lines.put_frame.clauses 𝓛 mem run)
    pub put_epoch : Determined 𝓤 lines.put_epoch.ended (lines.put_epoch.clauses 𝓛 mem run)
    pub put_totals : Determined 𝓤 lines.put_totals.ended (lines.put_totals.clauses 𝓛 mem run)

  pub record Listing : Type 1 where
    pub list : Determined 𝓤 listing.list.ended (listing.list.clauses 𝓛 mem run)

  pub record FrameRows : Type 1 where
    pub next_row : Determined 𝓤 frame_rows.next_row.ended (frame_rows.next_row.clauses 𝓛 mem run)
    pub totals_row : Determined 𝓤 frame_rows.totals_row.ended (frame_rows.totals_row.clauses 𝓛 mem run)

  pub record FlagNumbers : Type 1 where
    pub fix_of : Determined 𝓤 flag_numbers.fix_of.ended (flag_numbers.fix_of.clauses 𝓛 mem run)
    pub raim_available_of : Determined 𝓤 flag_numbers.raim_available_of.ended (flag_numbers.raim_available_of.clauses 𝓛 mem run)
    pub raim_repaired_of : Determined 𝓤 flag_numbers.raim_repaired_of.ended (flag_numbers.raim_repaired_of.clauses 𝓛 mem run)
    pub above_sea_of : Determined 𝓤 flag_numbers.above_sea_of.ended (flag_numbers.above_sea_of.clauses 𝓛 mem run)

  pub record Index : Type 1 where
    pub empty : Determined 𝓤 index.empty.ended (index.empty.clauses 𝓛 mem run)
    pub extend : Determined 𝓤 index.extend.ended (index.extend.clauses 𝓛 mem run)
    pub first : Determined 𝓤 index.first.ended (index.first.clauses 𝓛 mem run)
    pub count : Determined 𝓤 index.count.ended (index.count.clauses 𝓛 mem run)

  pub record LentIndex : Type 1 where
    pub index_in : Determined 𝓤 lent_index.index_in.ended (lent_index.index_in.clauses 𝓛 mem run)
    pub make : Determined 𝓤 lent_index.make.ended (lent_index.make.clauses 𝓛 mem run)
    pub extend : Determined 𝓤 lent_index.extend.ended (lent_index.extend.clauses 𝓛 mem run)
    pub first : Determined 𝓤 lent_index.first.ended (lent_index.first.clauses 𝓛 mem run)
    pub count : Determined 𝓤 lent_index.count.ended (lent_index.count.clauses 𝓛 mem run)

  pub record Places : Type 1 where
    pub place_in : Determined 𝓤 places.place_in.ended (places.place_in.clauses 𝓛 mem run)
    pub put_place : Determined 𝓤 places.put_place.ended (places.put_place.clauses 𝓛 mem run)

  pub record States : Type 1 where
    pub make : Determined 𝓤 states.make.ended (states.make.clauses 𝓛 mem run)
    pub feed : Determined 𝓤 states.feed.ended (states.feed.clauses 𝓛 mem run)
    pub grow : Determined 𝓤 states.grow.ended (states.grow.clauses 𝓛 mem run)
    pub enlist : Determined 𝓤 states.enlist.ended (states.enlist.clauses 𝓛 mem run)

  pub record Exports : Type 1 where
    pub sbp_crc : Determined 𝓤 exports.sbp_crc.ended (exports.sbp_crc.clauses 𝓛 mem run)
    pub sbp_frame_crc : Determined 𝓤 exports.sbp_frame_crc.ended (exports.sbp_frame_crc.clauses 𝓛 mem run)
    pub sbp_answer : Determined 𝓤 exports.sbp_answer.ended (exports.sbp_answer.clauses 𝓛 mem run)
    pub sbp_totals : Determined 𝓤 exports.sbp_totals.ended (exports.sbp_totals.clauses 𝓛 mem run)
    pub sbp_feed : Determined 𝓤 exports.sbp_feed.ended (exports.sbp_feed.clauses 𝓛 mem run)
    pub sbp_collator : Determined 𝓤 exports.sbp_collator.ended (exports.sbp_collator.clauses 𝓛 mem run)
    pub sbp_next : Determined 𝓤 exports.sbp_next.ended (exports.sbp_next.clauses 𝓛 mem run)
    pub sbp_list : Determined 𝓤 exports.sbp_list.ended (exports.sbp_list.clauses 𝓛 mem run)
    pub sbp_fix : Determined 𝓤 exports.sbp_fix.ended (exports.sbp_fix.clauses 𝓛 mem run)
    pub sbp_raim_available : Determined 𝓤 exports.sbp_raim_available.ended (exports.sbp_raim_available.clauses 𝓛 mem run)
    pub sbp_raim_repaired : Determined 𝓤 exports.sbp_raim_repaired.ended (exports.sbp_raim_repaired.clauses 𝓛 mem run)
    pub sbp_above_sea : Determined 𝓤 exports.sbp_above_sea.ended (exports.sbp_above_sea.clauses 𝓛 mem run)
    pub sbp_system_error : Determined 𝓤 exports.sbp_system_error.ended (exports.sbp_system_error.clauses 𝓛 mem run)
    pub sbp_io_error : Determined 𝓤 exports.sbp_io_error.ended (exports.sbp_io_error.clauses 𝓛 mem run)
    pub sbp_nap_error : Determined 𝓤 exports.sbp_nap_error.ended (exports.sbp_nap_error.clauses 𝓛 mem run)
    pub sbp_external_antenna : Determined 𝓤 exports.sbp_external_antenna.ended (exports.sbp_external_antenna.clauses 𝓛 mem run)
    pub sbp_carrier_phase : Determined 𝓤 exports.sbp_carrier_phase.ended (exports.sbp_carrier_phase.clauses 𝓛 mem run)
    pub sbp_phase_parts : Determined 𝓤 exports.sbp_phase_parts.ended (exports.sbp_phase_parts.clauses 𝓛 mem run)
    pub sbp_growing : Determined 𝓤 exports.sbp_growing.ended (exports.sbp_growing.clauses 𝓛 mem run)
    pub sbp_enlist : Determined 𝓤 exports.sbp_enlist.ended (exports.sbp_enlist.clauses 𝓛 mem run)
    pub sbp_version : Determined 𝓤 exports.sbp_version.ended (exports.sbp_version.clauses 𝓛 mem run)
    pub sbp_read : Determined 𝓤 exports.sbp_read.ended (exports.sbp_read.clauses 𝓛 mem run)
    pub sbp_observation : Determined 𝓤 exports.sbp_observation.ended (exports.sbp_observation.clauses 𝓛 mem run)
    pub sbp_write : Determined 𝓤 exports.sbp_write.ended (exports.sbp_write.clauses 𝓛 mem run)
    pub sbp_write_obs : Determined 𝓤 exports.sbp_write_obs.ended (exports.sbp_write_obs.clauses 𝓛 mem run)
    pub sbp_write_log : Determined 𝓤 exports.sbp_write_log.ended (exports.sbp_write_log.clauses 𝓛 mem run)
    pub sbp_write_frame : Determined 𝓤 exports.sbp_write_frame.ended (exports.sbp_write_frame.clauses 𝓛 mem run)

  pub record LinkedIndex : Type 1 where
    pub sbp_index : Determined 𝓤 exports.sbp_index.ended (exports.sbp_index.clauses 𝓛 mem run)
    pub sbp_extend : Determined 𝓤 exports.sbp_extend.ended (exports.sbp_extend.clauses 𝓛 mem run)
    pub sbp_first : Determined 𝓤 exports.sbp_first.ended (exports.sbp_first.clauses 𝓛 mem run)
    pub sbp_count : Determined 𝓤 exports.sbp_count.ended (exports.sbp_count.clauses 𝓛 mem run)
