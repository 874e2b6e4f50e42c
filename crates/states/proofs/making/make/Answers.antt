-- `states::making::make` meets its contract, case by case.
use mathlib.Core.Path.{◌≡◌, sym, ap, ◌∙◌}
use Rattle.std.proofs.Common.{rules}
use Rattle.refusals.specs.Refusals.{zero_or}
use Rattle.refusals.specs.Numbers.{number_of, answer_of}
use Rattle.states.proofs.Makes.{made_refused, made_short, made_few, made_put}
use Rattle.states.proofs.making.make.Goals as goal

pub returns-in_err-made : goal.returns-in_err-made
returns-in_err-made c =
    let a = c.args in
    let same : zero_or (answer_of c.from_residual.result) ≡ number_of c.in_err-made.field-0.0 = search rules in
    let both = made_refused a.roster.now a.state.now (sym c.made.ensures ∙ ap answer_of c.in_err-made.was) in
    record { value = same ∙ both.0; state_after = both.1 }

pub returns-then-state-lt-STATE_SIZE : goal.returns-then-state-lt-STATE_SIZE
returns-then-state-lt-STATE_SIZE c =
    let a = c.args in
    let both = made_short a.roster.now a.state.now (sym c.made.ensures ∙ ap answer_of c.in_ok-made.was) c.if-state-lt-STATE_SIZE.true in
    record { value = both.0; state_after = both.1 }

pub put_collator-requires : goal.put_collator-requires
put_collator-requires c =
    let a = c.args in
    made_few a.roster.now a.state.now (sym c.made.ensures ∙ ap answer_of c.in_ok-made.was)

pub returns : goal.returns
returns c =
    let a = c.args in
    let both = made_put a.roster.now a.state.now (sym c.made.ensures ∙ ap answer_of c.in_ok-made.was) c.if-state-lt-STATE_SIZE.false c.put_collator.ensures in
    record { value = both.0; state_after = both.1 }
