-- `states::feeding::put_epoch` meets its contract: an epoch alone is reported.
use mathlib.Core.Path.{sym, ap, ◌∙◌}
use Rattle.std.specs.Prelude.{Option, Ok}
use Rattle.epochs.specs.Collator.{happened_of}
use Rattle.epochs.specs.declared.collating.Report.{Report}
use Rattle.states.specs.Feed.{report_fields, report_row, happened_stored}
use Rattle.lent_rows.proofs.Parts.{stored_front}
use Rattle.states.proofs.feeding.put_epoch.Goals as goal

pub returns-clause-buf_after : goal.returns-clause-buf_after
returns-clause-buf_after c =
    let a = c.args in
    c.put_report.ensures
    ∙ stored_front report_fields (report_row c.in-Some.report) a.buf.now c.requires
    ∙ ap (λ (o : Option Report). happened_stored (happened_of (Ok o)) a.buf.now) (sym c.in-Some.is)
