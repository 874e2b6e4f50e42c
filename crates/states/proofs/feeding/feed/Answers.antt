-- `states::feeding::feed` meets its contract, case by case.
use mathlib.Core.Path.{◌≡◌, sym, ap, ◌∙◌}
use lib.ListN.{length}
use Rattle.std.proofs.Common.{rules}
use Rattle.std.specs.Prelude.{Option, Result}
use Rattle.refusals.specs.Refusals.{refused, as_number}
use Rattle.refusals.specs.Numbers.{number_of, answer_of}
use Rattle.refusals.specs.declared.Refusal.{Refusal}
use Rattle.frames.specs.Frame.{Content}
use Rattle.epochs.specs.Listed.{listed}
use Rattle.epochs.specs.Collator.{for_place, happened_of}
use Rattle.epochs.specs.declared.seating.Roster.{Roster}
use Rattle.epochs.specs.declared.collating.Report.{Report}
use Rattle.states.specs.Feed.{epoch_number, happened_number, happened_stored, move_in}
use Rattle.states.proofs.Feeds.{came, state_short, report_short, came_refused, came_taken, eight}
use Rattle.states.proofs.feeding.feed.Goals as goal
use Rattle.states.proofs.feeding.feed.Goals.{then-state-lt-STATE_SIZE-via-then-state-lt-STATE_SIZE, then-state-lt-STATE_SIZE-via-else-state-lt-STATE_SIZE+then-report-lt-REPORT_SIZE}

pub returns-then-state-lt-STATE_SIZE : goal.returns-then-state-lt-STATE_SIZE
returns-then-state-lt-STATE_SIZE c =
    let a = c.args in
    let x : Content = record { kind = a.kind; sender = a.sender; payload = a.payload.now } in
    let short : move_in a.state.now (length a.report.now) x ≡ refused 32
    = elim c.then-state-lt-STATE_SIZE.branch [
      | then-state-lt-STATE_SIZE-via-then-state-lt-STATE_SIZE w ↦ state_short a.state.now x a.report.now w.if-state-lt-STATE_SIZE.true
      | then-state-lt-STATE_SIZE-via-else-state-lt-STATE_SIZE+then-report-lt-REPORT_SIZE w ↦
          report_short a.state.now x a.report.now w.if-state-lt-STATE_SIZE.false w.if-report-lt-REPORT_SIZE.true
    ] in
    let out = came a.state.now x a.report.now short in
    record { value = out.0; state_after = out.1.0; report_after = out.1.1 }

pub returns-in_err-i : goal.returns-in_err-i
returns-in_err-i c =
    let a = c.args in
    let x : Content = record { kind = a.kind; sender = a.sender; payload = a.payload.now } in
    let same : as_number epoch_number (answer_of c.from_residual.result) ≡ number_of c.in_err-i.field-0.0 = search rules in
    let out = came_refused a.state.now x a.report.now c.if-state-lt-STATE_SIZE.false c.if-report-lt-REPORT_SIZE.false
    (sym (ap (λ (r : Roster). for_place (listed r) x) c.roster_in.ensures) ∙ sym c.recognise.ensures ∙ ap answer_of c.in_err-i.was) in
    record { value = same ∙ out.0; state_after = out.1.0; report_after = out.1.1 }

pub take-requires : goal.take-requires
take-requires c =
    let a = c.args in
    let x : Content = record { kind = a.kind; sender = a.sender; payload = a.payload.now } in
    eight a.state.now x
    (sym (ap (λ (r : Roster). for_place (listed r) x) c.roster_in.ensures) ∙ sym c.recognise.ensures ∙ ap answer_of c.in_ok-i.was)

pub returns-in_err-epoch : goal.returns-in_err-epoch
returns-in_err-epoch c =
    let a = c.args in
    let x : Content = record { kind = a.kind; sender = a.sender; payload = a.payload.now } in
    let same : as_number epoch_number (answer_of c.from_residual-in_err-epoch.result) ≡ number_of c.in_err-epoch.field-0.0 = search rules in
    let out = came_taken a.state.now x a.report.now c.if-state-lt-STATE_SIZE.false c.if-report-lt-REPORT_SIZE.false
    (sym (ap (λ (r : Roster). for_place (listed r) x) c.roster_in.ensures) ∙ sym c.recognise.ensures ∙ ap answer_of c.in_ok-i.was)
    c.take.ensures.value c.take.ensures.s_after
    (ap (λ (r : Result (Option Report) Refusal). happened_number (happened_of r)) (sym c.in_err-epoch.was))
    (ap (λ (r : Result (Option Report) Refusal). happened_stored (happened_of r) a.report.now) (sym c.in_err-epoch.was)) in
    record { value = same ∙ out.0; state_after = out.1.0; report_after = out.1.1 }

pub returns : goal.returns
returns c =
    let a = c.args in
    let x : Content = record { kind = a.kind; sender = a.sender; payload = a.payload.now } in
    let out = came_taken a.state.now x a.report.now c.if-state-lt-STATE_SIZE.false c.if-report-lt-REPORT_SIZE.false
    (sym (ap (λ (r : Roster). for_place (listed r) x) c.roster_in.ensures) ∙ sym c.recognise.ensures ∙ ap answer_of c.in_ok-i.was)
    c.take.ensures.value c.take.ensures.s_after
    (c.put_epoch.ensures.value ∙ ap (λ (r : Result (Option Report) Refusal). happened_number (happened_of r)) (sym c.in_ok-epoch.was))
    (c.put_epoch.ensures.buf_after ∙ ap (λ (r : Result (Option Report) Refusal). happened_stored (happened_of r) a.report.now) (sym c.in_ok-epoch.was)) in
    record { value = out.0; state_after = out.1.0; report_after = out.1.1 }
