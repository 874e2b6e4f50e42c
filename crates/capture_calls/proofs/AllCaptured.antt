-- Each call does what is promised of it.
use seplogic.Ra.Ura.{Ura}
use base.Logic.{SProp}
use prog.Memory.{Memory}
use prog.Routine.{Routine}
use types.Logic.{Logic}
use contract.Monad.{Fun}
use Rattle.frames.specs.Step.{payload_in}
use Rattle.phases.specs.Phase.{read_phase}
use Rattle.observation.specs.Obs.{read_entry_of}
use Rattle.obs_reader.specs.Reader.{at_after}
use Rattle.epochs.specs.Collator.{for_place}
use Rattle.listing.specs.Listing.{list_answer}
use Rattle.calls.proofs.Giving as by
use Rattle.capture_calls.specs.CaptureCalls as calls
use Rattle.capture_calls.proofs.Captured as captured

ruleset givings = (by.plain, by.stored, by.answered, by.answered_stored, captured.reader, captured.stepped, captured.fed, captured.fed_by_value, captured.outcome, captured.collated)

module _ {M : Type 1} {𝓤 : Ura M} (𝓛 : Logic 𝓤) (mem : Memory → SProp 𝓤) (run : Routine → Fun 𝓤) where
  pub frames : calls.Frames 𝓛 mem run
  unfolding payload_in
  frames = search givings

  pub collators : calls.Collators 𝓛 mem run
  unfolding list_answer for_place
  collators = search givings

  pub observations : calls.Observations 𝓛 mem run
  unfolding read_entry_of at_after
  observations = search givings

  pub told : calls.Told 𝓛 mem run
  unfolding read_phase
  told = search givings
