-- Every linked function does what is promised of it.
use seplogic.Ra.Ura.{Ura}
use base.Logic.{SProp}
use prog.Memory.{Memory}
use prog.Routine.{Routine}
use types.Logic.{Logic}
use contract.Monad.{Fun}
use Rattle.frame_writer.specs.Writer.{planned, with_frame}
use Rattle.frame_writer.specs.Faithful.{write_answer, written_as}
use Rattle.phases.specs.Phase.{read_phase}
use Rattle.row_reader.specs.ReadRow.{read_row, read_one}
use Rattle.row_writer.specs.WriteRow.{write_row, row_written}
use Rattle.row_writer.specs.WriteObsRow.{write_obs_row, obs_row_written}
use Rattle.listing.specs.Listing.{list_answer}
use Rattle.frame_rows.specs.Found.{next_from}
use Rattle.frame_rows.specs.Totals.{totals_for}
use Rattle.states.specs.Feed.{made_in, move_in, fed_in}
use Rattle.states.specs.Enlist.{growing_in, enlist_in}
use Rattle.calls.proofs.Giving as by
use Rattle.linked_calls.proofs.Numbered as numbered
use Rattle.linked_calls.specs.LinkedCalls as linked

ruleset givings = (by.plain, by.plain_stored, by.plain_stored_stored)

-- of the functions behind them
ruleset results = (by.answered, by.answered_stored, by.numbered_stored, numbered.found, numbered.ended)

module _ {M : Type 1} {𝓤 : Ura M} (𝓛 : Logic 𝓤) (mem : Memory → SProp 𝓤) (run : Routine → Fun 𝓤) where
  pub reads : linked.Reads 𝓛 mem run
  unfolding next_from totals_for list_answer read_row read_one
  reads = search givings

  pub writes : linked.Writes 𝓛 mem run
  unfolding planned with_frame write_answer written_as write_row row_written write_obs_row obs_row_written
  writes = search givings

  pub collates : linked.Collates 𝓛 mem run
  unfolding made_in move_in fed_in growing_in enlist_in
  collates = search givings

  pub tells : linked.Tells 𝓛 mem run
  unfolding read_phase
  tells = search givings

  pub behind : linked.Behind 𝓛 mem run
  unfolding next_from totals_for read_row read_one planned with_frame write_row row_written write_obs_row obs_row_written made_in move_in fed_in growing_in enlist_in read_phase
  behind = search results
