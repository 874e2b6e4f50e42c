-- `groups::grouping::step` meets its contract, way by way.
use Rattle.std.proofs.Common.{sym, ap, ◌∙◌}
use Rattle.refusals.specs.Refusals.{given}
use Rattle.groups.proofs.Answers.{at_idle, at_other, at_copy, at_new}
use Rattle.groups.proofs.grouping.step.Goals as goal

pub returns-then-flag : goal.returns-then-flag
returns-then-flag c =
    at_copy c.args.packet c.in-Some.part (sym c.in-Some.is) (sym c.same_key.ensures ∙ c.if-same_key.true) (sym c.flag.ensures ∙ c.if-flag.true)

pub returns-then-same_key : goal.returns-then-same_key
returns-then-same_key c =
    ap given c.added.ensures ∙ at_new c.args.packet c.in-Some.part (sym c.in-Some.is) (sym c.same_key.ensures ∙ c.if-same_key.true) (sym c.flag.ensures ∙ c.if-flag.false)

pub returns-in-None : goal.returns-in-None
returns-in-None c = ap given c.begun.ensures ∙ at_idle c.args.packet (sym c.in-None.is)

pub returns-else-same_key : goal.returns-else-same_key
returns-else-same_key c =
    ap given c.begun-in-Some.ensures ∙ at_other c.args.packet c.in-Some.part (sym c.in-Some.is) (sym c.same_key.ensures ∙ c.if-same_key.false)
