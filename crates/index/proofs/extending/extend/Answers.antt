-- `index::extending::extend` meets its contract, test by test.
use Rattle.std.proofs.Common.{sym, ◌∙◌, length}
use Rattle.index.proofs.Plans.{answers_52, answers_51, extends}
use Rattle.index.proofs.Plans.{kept, gone_on}
use Rattle.index.proofs.extending.extend.Goals as goal

pub returns-then-capture-index : goal.returns-then-capture-index
returns-then-capture-index c =
    let a = c.args in
    let all = kept a.index.now a.capture.now a.entries.now (answers_52 a.index.now a.capture.now (length a.entries.now) c.if-capture-index.true) in
    record { value = all.0; index_after = all.1; entries_after = all.2 }

pub returns-then-not-roomy : goal.returns-then-not-roomy
returns-then-not-roomy c =
    let a = c.args in
    let e = answers_51 a.index.now a.capture.now (length a.entries.now) c.if-capture-index.false (sym c.roomy.ensures ∙ c.if-not-roomy.true) in
    let all = kept a.index.now a.capture.now a.entries.now e in
    record { value = all.0; index_after = all.1; entries_after = all.2 }

pub returns : goal.returns
returns c =
    let a = c.args in
    let e = extends a.index.now a.capture.now (length a.entries.now) c.if-capture-index.false (sym c.roomy.ensures ∙ c.if-not-roomy.false) in
    let all = gone_on a.index.now a.capture.now a.entries.now e c.fill.ensures.index_after c.fill.ensures.entries_after in
    record { value = all.0; index_after = all.1; entries_after = all.2 }
