-- `lent_index::lent::extend` meets its contract.
use mathlib.Core.Path.{sym, ap, ◌∙◌}
use Rattle.std.proofs.Common.{rules, ◌≡◌}
use Rattle.std.specs.Prelude.{Err}
use Rattle.refusals.specs.Refusals.{zero_or}
use Rattle.refusals.specs.Numbers.{answer_of}
use Rattle.lent_index.proofs.Extended.{ends_short, ends_refused, ends_kept}
use Rattle.lent_index.proofs.lent.extend.Goals as goal

pub returns-in_err-index : goal.returns-in_err-index
returns-in_err-index c =
    let a = c.args in
    let all = ends_short a.bytes.now a.capture.now a.entries.now (sym (ap answer_of c.in_err-index.was) ∙ c.lent.ensures) in
    let same : c.from_residual.result ≡ Err c.in_err-index.field-0.0 = search rules in
    record { value = ap (λ r. zero_or (answer_of r)) same ∙ all.0; bytes_after = all.1; entries_after = all.2 }

pub returns-in_err-extend : goal.returns-in_err-extend
returns-in_err-extend c =
    let a = c.args in
    let all = ends_refused a.bytes.now a.capture.now a.entries.now (sym (ap answer_of c.in_ok-index.was) ∙ c.lent.ensures) _
    (sym (ap (λ r. zero_or (answer_of r)) c.in_err-extend.was) ∙ c.extend.ensures.value) c.extend.ensures.entries_after in
    let same : c.from_residual-in_err-extend.result ≡ Err c.in_err-extend.field-0.0 = search rules in
    record { value = ap (λ r. zero_or (answer_of r)) same ∙ all.0; bytes_after = all.1; entries_after = all.2 }

pub returns : goal.returns
returns c =
    let a = c.args in
    let all = ends_kept a.bytes.now a.capture.now a.entries.now (sym (ap answer_of c.in_ok-index.was) ∙ c.lent.ensures)
    (sym (ap (λ r. zero_or (answer_of r)) c.in_ok-extend.was) ∙ c.extend.ensures.value) c.extend.ensures.index_after c.put_index.ensures c.extend.ensures.entries_after in
    record { value = all.0; bytes_after = all.1; entries_after = all.2 }
