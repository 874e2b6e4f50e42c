-- The worked examples hold, all of the table, by computation.
use mathlib.Core.Path.{refl}
use Rattle.wire.specs.Number.{number_at}
use Rattle.crc.specs.Crc.{bit_step, bit_steps, byte_step, crc_from}
use Rattle.frames.specs.Step.{step_of, payload_in}
use Rattle.frames.specs.Reading.{read_from, counts_of}
use Rattle.frames.specs.Cursors.{next_of}
use Rattle.flags.specs.Range.{fix_up_to}
use Rattle.observation.specs.Edition.{is_obs}
use Rattle.phases.specs.Phase.{read_phase}
use Rattle.payloads.specs.Payloads.{entry_for}
use Rattle.packets.specs.Packet.{packet_in, shape, numbering}
use Rattle.groups.specs.Group.{stepped}
use Rattle.epochs.specs.Search.{repeats}
use Rattle.epochs.specs.Collator.{for_place, fed_frame, made}
use Rattle.examples.specs.Examples.{AllHold, table}

pub all_hold : AllHold table
unfolding number_at bit_step bit_steps byte_step crc_from step_of payload_in read_from counts_of next_of fix_up_to is_obs read_phase entry_for packet_in shape numbering stepped repeats for_place fed_frame made
all_hold =
    (refl, (refl, ((refl, refl), (refl, ((refl, refl), ((refl, refl), (refl, ((refl, refl), (refl, (refl, (refl, (refl, (refl, (refl, (refl, ((refl, refl), ((refl, refl), tt)))))))))))))))))
