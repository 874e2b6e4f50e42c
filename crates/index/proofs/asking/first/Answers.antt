-- `index::asking::first` meets its contract: the first hit is at the library's `position`.
use Rattle.std.proofs.Common.{sym, ◌∙◌}
use Rattle.index.specs.declared.entry.Entry.{Entry}
use Rattle.index.proofs.Seeking.{too_short, as_position}
use Rattle.index.proofs.asking.first.Goals as goal

abbrev none : Entry
none = record { offset = 0; kind = 0; sender = 0; length = 0 }

pub returns-then-entries-index : goal.returns-then-entries-index
returns-then-entries-index c = let a = c.args in too_short a.index.now a.entries.now a.kind a.sender a.offset c.if-entries-index.true

pub returns-in-Some : goal.returns-in-Some
returns-in-Some c =
    let a = c.args in
    as_position a.index.now a.entries.now a.kind a.sender a.offset none c.if-entries-index.false (sym c.in-Some.is ∙ c.first_hit.ensures)

pub returns-in-None : goal.returns-in-None
returns-in-None c =
    let a = c.args in
    as_position a.index.now a.entries.now a.kind a.sender a.offset none c.if-entries-index.false (sym c.in-None.is ∙ c.first_hit.ensures)
