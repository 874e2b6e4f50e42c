-- Every function that C and Rust link, by its own contract, and those of the libraries that they pass their calls on to.
use Rattle.std.specs.Prelude.{◌++◌, drop, length}
use seplogic.Ra.Ura.{Ura}
use base.Logic.{SProp}
use prog.Memory.{Memory}
use prog.Routine.{Routine}
use types.Logic.{Logic}
use contract.Monad.{Fun}
use Rattle.wire.specs.Number.{flag_at}
use Rattle.crc.specs.Crc.{crc_from}
use Rattle.senders.specs.Senders.{carried, writer_from}
use Rattle.phases.specs.Phase.{phase_of}
use Rattle.row_writer.specs.WriteRow.{writing_row}
use Rattle.row_writer.specs.WriteObsRow.{writing_obs_row}
use Rattle.calls.specs.Replies.{hands_back, puts}
use Rattle.calls.specs.Gives.{Gives}
use Rattle.row_reader.specs.contracts as row_reader
use Rattle.row_writer.specs.contracts as row_writer
use Rattle.frame_rows.specs.contracts as frame_rows
use Rattle.flag_numbers.specs.contracts as flag_numbers
use Rattle.states.specs.contracts as states
use Rattle.exports.specs.contracts as exports
use Rattle.linked_calls.specs.Linked.{next_gives, totals_gives, list_gives, answer_gives, read_gives, observation_gives, write_gives, write_obs_gives, write_log_gives, write_frame_gives, collator_gives, growing_gives, enlist_gives, feed_gives, parts_gives, fix_gives, available_gives, repaired_gives, above_sea_gives, row_bytes, obs_row_bytes, handed, done, found_by, ended_by, asking_fix, asking_available, asking_repaired, asking_above_sea}

-- at every model of the logic, as every contract is stated
module _ {M : Type 1} {𝓤 : Ura M} (𝓛 : Logic 𝓤) (mem : Memory → SProp 𝓤) (run : Routine → Fun 𝓤) where
  -- frames, the listing, the CRC; payloads as an answer and as numbers
  pub record Reads : Type 1 where
    pub sbp_crc : Gives 𝓤 exports.sbp_crc.ended (exports.sbp_crc.clauses 𝓛 mem run) (λ κs start bytes. (crc_from start bytes.now, tt))
    pub sbp_frame_crc : Gives 𝓤 exports.sbp_frame_crc.ended (exports.sbp_frame_crc.clauses 𝓛 mem run) (λ κs header payload. (crc_from 0 (drop 1 header.now ++ payload.now), tt))
    pub sbp_next : Gives 𝓤 exports.sbp_next.ended (exports.sbp_next.clauses 𝓛 mem run) (λ κs. next_gives)
    pub sbp_totals : Gives 𝓤 exports.sbp_totals.ended (exports.sbp_totals.clauses 𝓛 mem run) (λ κs. totals_gives)
    pub sbp_list : Gives 𝓤 exports.sbp_list.ended (exports.sbp_list.clauses 𝓛 mem run) (λ κs. list_gives)
    pub sbp_answer : Gives 𝓤 exports.sbp_answer.ended (exports.sbp_answer.clauses 𝓛 mem run) (λ κs. answer_gives)
    pub sbp_read : Gives 𝓤 exports.sbp_read.ended (exports.sbp_read.clauses 𝓛 mem run) (λ κs. read_gives)
    pub sbp_observation : Gives 𝓤 exports.sbp_observation.ended (exports.sbp_observation.clauses 𝓛 mem run) (λ κs. observation_gives)
    -- 0.14.0
    pub sbp_version : Gives 𝓤 exports.sbp_version.ended (exports.sbp_version.clauses 𝓛 mem run) (λ κs. (1400, tt))

  -- frames written; a sender that 16 bits do not hold is none
  pub record Writes : Type 1 where
    pub sbp_write : Gives 𝓤 exports.sbp_write.ended (exports.sbp_write.clauses 𝓛 mem run) (λ κs out kind own sender. write_gives out kind (carried kind (writer_from own sender)))
    pub sbp_write_obs : Gives 𝓤 exports.sbp_write_obs.ended (exports.sbp_write_obs.clauses 𝓛 mem run) (λ κs out kind own sender. write_obs_gives out kind (carried kind (writer_from own sender)))
    pub sbp_write_log : Gives 𝓤 exports.sbp_write_log.ended (exports.sbp_write_log.clauses 𝓛 mem run) (λ κs out own sender. write_log_gives out (carried 0x0401 (writer_from own sender)))
    pub sbp_write_frame : Gives 𝓤 exports.sbp_write_frame.ended (exports.sbp_write_frame.clauses 𝓛 mem run) (λ κs out kind own sender. write_frame_gives out kind (carried kind (writer_from own sender)))

  -- a collator in the caller's bytes
  pub record Collates : Type 1 where
    pub sbp_collator : Gives 𝓤 exports.sbp_collator.ended (exports.sbp_collator.clauses 𝓛 mem run) (λ κs. collator_gives)
    pub sbp_growing : Gives 𝓤 exports.sbp_growing.ended (exports.sbp_growing.clauses 𝓛 mem run) (λ κs. growing_gives)
    pub sbp_enlist : Gives 𝓤 exports.sbp_enlist.ended (exports.sbp_enlist.clauses 𝓛 mem run) (λ κs. enlist_gives)
    pub sbp_feed : Gives 𝓤 exports.sbp_feed.ended (exports.sbp_feed.clauses 𝓛 mem run) (λ κs. feed_gives)

  -- phases and flags; those of a HEARTBEAT by their bits
  pub record Tells : Type 1 where
    pub sbp_carrier_phase : Gives 𝓤 exports.sbp_carrier_phase.ended (exports.sbp_carrier_phase.clauses 𝓛 mem run) (λ κs cycles parts. (phase_of (record { l_i = cycles; l_f = parts }), tt))
    pub sbp_phase_parts : Gives 𝓤 exports.sbp_phase_parts.ended (exports.sbp_phase_parts.clauses 𝓛 mem run) (λ κs. parts_gives)
    pub sbp_fix : Gives 𝓤 exports.sbp_fix.ended (exports.sbp_fix.clauses 𝓛 mem run) (λ κs. fix_gives)
    pub sbp_raim_available : Gives 𝓤 exports.sbp_raim_available.ended (exports.sbp_raim_available.clauses 𝓛 mem run) (λ κs. available_gives)
    pub sbp_raim_repaired : Gives 𝓤 exports.sbp_raim_repaired.ended (exports.sbp_raim_repaired.clauses 𝓛 mem run) (λ κs. repaired_gives)
    pub sbp_above_sea : Gives 𝓤 exports.sbp_above_sea.ended (exports.sbp_above_sea.clauses 𝓛 mem run) (λ κs. above_sea_gives)
    pub sbp_system_error : Gives 𝓤 exports.sbp_system_error.ended (exports.sbp_system_error.clauses 𝓛 mem run) (λ κs flags. (flag_at flags 0, tt))
    pub sbp_io_error : Gives 𝓤 exports.sbp_io_error.ended (exports.sbp_io_error.clauses 𝓛 mem run) (λ κs flags. (flag_at flags 1, tt))
    pub sbp_nap_error : Gives 𝓤 exports.sbp_nap_error.ended (exports.sbp_nap_error.clauses 𝓛 mem run) (λ κs flags. (flag_at flags 2, tt))
    pub sbp_external_antenna : Gives 𝓤 exports.sbp_external_antenna.ended (exports.sbp_external_antenna.clauses 𝓛 mem run) (λ κs flags. (flag_at flags 31, tt))

  -- the functions behind them; a flag that is asked for, of a type that has it
  pub record Behind : Type 1 where
    pub next_row : Gives 𝓤 frame_rows.next_row.ended (frame_rows.next_row.clauses 𝓛 mem run) (λ κs capture at opened found. handed found_by (next_gives capture at opened found))
    pub totals_row : Gives 𝓤 frame_rows.totals_row.ended (frame_rows.totals_row.clauses 𝓛 mem run) (λ κs capture counts. done (totals_gives capture counts))
    pub read_row : Gives 𝓤 row_reader.read_row.ended (row_reader.read_row.clauses 𝓛 mem run) (λ κs kind payload row. done (read_gives kind payload row))
    pub read_observation_row : Gives 𝓤 row_reader.read_observation_row.ended (row_reader.read_observation_row.clauses 𝓛 mem run)
        (λ κs kind payload index row. done (observation_gives kind payload index row))
    pub write_row : Gives 𝓤 row_writer.write_row.ended (row_writer.write_row.clauses 𝓛 mem run)
        (λ κs out kind writer row. puts (writing_row kind row.now (length out.now)) (row_bytes kind (carried kind writer) row.now) out.now)
    pub write_obs_row : Gives 𝓤 row_writer.write_obs_row.ended (row_writer.write_obs_row.clauses 𝓛 mem run)
        (λ κs out kind writer head rows. puts (writing_obs_row kind head.now rows.now (length out.now)) (obs_row_bytes kind (carried kind writer) head.now rows.now) out.now)
    pub make : Gives 𝓤 states.make.ended (states.make.clauses 𝓛 mem run) (λ κs state roster. done (collator_gives state roster))
    pub grow : Gives 𝓤 states.grow.ended (states.grow.clauses 𝓛 mem run) (λ κs state. done (growing_gives state))
    pub enlist : Gives 𝓤 states.enlist.ended (states.enlist.clauses 𝓛 mem run) (λ κs state kind sender. done (enlist_gives state kind sender))
    pub feed : Gives 𝓤 states.feed.ended (states.feed.clauses 𝓛 mem run) (λ κs state kind sender payload report. handed ended_by (feed_gives state kind sender payload report))
    pub fix_of : Gives 𝓤 flag_numbers.fix_of.ended (flag_numbers.fix_of.clauses 𝓛 mem run) (λ κs kind flags. hands_back (asking_fix kind flags))
    pub raim_available_of : Gives 𝓤 flag_numbers.raim_available_of.ended (flag_numbers.raim_available_of.clauses 𝓛 mem run) (λ κs kind flags. hands_back (asking_available kind flags))
    pub raim_repaired_of : Gives 𝓤 flag_numbers.raim_repaired_of.ended (flag_numbers.raim_repaired_of.clauses 𝓛 mem run) (λ κs kind flags. hands_back (asking_repaired kind flags))
    pub above_sea_of : Gives 𝓤 flag_numbers.above_sea_of.ended (flag_numbers.above_sea_of.clauses 𝓛 mem run) (λ κs kind flags. hands_back (asking_above_sea kind flags))
