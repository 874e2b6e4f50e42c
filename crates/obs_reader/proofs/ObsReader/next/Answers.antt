-- `obs_reader::ObsReader::next` meets its contract: with an observation the reader moves on, and with a refusal it stays.
use mathlib.Core.Path.{sym, ap, ◌∙◌}
use native.Mathlib.Omega.{arith}
use Rattle.refusals.specs.Numbers.{answer_of}
use Rattle.obs_reader.proofs.OneQuestion.{at_small, asked_given, asked_refused}
use Rattle.obs_reader.proofs.ObsReader.next.Goals as goal

pub overflow_add-self : goal.overflow_add-self
overflow_add-self c =
    let r = c.args.self.now in
    omega (arith, at_small r.kind r.payload.now r.at (sym c.read_observation_of.ensures ∙ ap answer_of c.in_ok-observation.was))

pub returns-in_err-observation-clause-self_after : goal.returns-in_err-observation-clause-self_after
returns-in_err-observation-clause-self_after c =
    asked_refused c.args.self.now (sym c.read_observation_of.ensures ∙ ap answer_of c.in_err-observation.was)

pub returns-clause-self_after : goal.returns-clause-self_after
returns-clause-self_after c =
    asked_given c.args.self.now (sym c.read_observation_of.ensures ∙ ap answer_of c.in_ok-observation.was)
