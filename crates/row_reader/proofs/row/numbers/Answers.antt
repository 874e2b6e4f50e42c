-- `row_reader::row::numbers` meets its contract.
use mathlib.Core.List.{[]}
use native.Mathlib.Omega.{arith}
use Rattle.formats.proofs.Steps.{few}
use Rattle.row_reader.proofs.Shaped.{no_tail_counted, text_counted, tail_counted}
use Rattle.row_reader.proofs.row.numbers.Goals as goal

pub overflow_add-fields : goal.overflow_add-fields
overflow_add-fields c =
    let shape = c.args.shape in
    omega (arith, (few 16 shape.head).0, (few 16 shape.more).0, c.count.ensures, c.count-2.ensures)

pub returns-then-shape-eq0 : goal.returns-then-shape-eq0
returns-then-shape-eq0 c = no_tail_counted c.args.shape [] c.count.ensures c.count-2.ensures c.if-shape-eq0.true

pub overflow_add-result : goal.overflow_add-result
overflow_add-result c =
    let shape = c.args.shape in
    omega (arith, (few 16 shape.head).0, (few 16 shape.more).0, c.count.ensures, c.count-2.ensures)

pub returns-then-shape-eq-TEXT : goal.returns-then-shape-eq-TEXT
returns-then-shape-eq-TEXT c = text_counted c.args.shape [] c.count.ensures c.count-2.ensures c.if-shape-eq-TEXT.true

pub overflow_add-result-2 : goal.overflow_add-result-2
overflow_add-result-2 c =
    let shape = c.args.shape in
    omega (arith, (few 16 shape.head).0, (few 16 shape.more).0, c.count.ensures, c.count-2.ensures)

pub returns : goal.returns
returns c =
    tail_counted c.args.shape [] c.count.ensures c.count-2.ensures c.if-shape-eq0.false c.if-shape-eq-TEXT.false
