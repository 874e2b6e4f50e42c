-- `lent_index::lent::first` meets its contract.
use mathlib.Core.Path.{sym, ap, ◌∙◌}
use Rattle.std.proofs.Common.{rules, ◌≡◌}
use Rattle.std.specs.Prelude.{Err}
use Rattle.refusals.specs.Numbers.{answer_of}
use Rattle.index.specs.Index.{sought_answer}
use Rattle.lent_index.proofs.Calls.{first_short, first_lent}
use Rattle.lent_index.proofs.lent.first.Goals as goal

pub returns-in_err-index : goal.returns-in_err-index
returns-in_err-index c =
    let a = c.args in
    let same : c.from_residual.result ≡ Err c.in_err-index.field-0.0 = search rules in
    ap sought_answer same
    ∙ first_short a.bytes.now a.entries.now a.kind a.sender a.offset (sym (ap answer_of c.in_err-index.was) ∙ c.lent.ensures)

pub returns : goal.returns
returns c =
    let a = c.args in
    c.first.ensures ∙ first_lent a.bytes.now a.entries.now a.kind a.sender a.offset (sym (ap answer_of c.in_ok-index.was) ∙ c.lent.ensures)
