-- `row_reader::fill::fill_tail` meets its contract.
use mathlib.Core.Path.{sym, ap, ◌∙◌}
use mathlib.Core.List.{List}
use Prim.Native.Nat.{ℕ}
use native.Mathlib.Omega.{arith}
use Rattle.formats.proofs.Widened.{some_bytes}
use Rattle.row_reader.specs.ReadRow.{beginning}
use Rattle.row_reader.proofs.Filling.{tail_unset, text_tail, text_room, tail_room, tail_set}
use Rattle.row_reader.proofs.fill.fill_tail.Goals as goal

pub returns-then-each-eq0 : goal.returns-then-each-eq0
returns-then-each-eq0 c = let a = c.args in tail_unset a.each a.s.now a.row.now c.if-each-eq0.true

pub fill_text-requires : goal.fill_text-requires
fill_text-requires c =
    text_room c.args.each c.args.s.now c.args.row.now c.requires c.if-each-eq-TEXT.true

pub returns-then-each-eq-TEXT : goal.returns-then-each-eq-TEXT
returns-then-each-eq-TEXT c =
    let a = c.args in
    c.fill_text.ensures ∙ sym (ap (λ (ns : List ℕ). beginning ns a.row.now) (text_tail a.each a.s.now c.if-each-eq-TEXT.true))

pub nonzero_div-row : goal.nonzero_div-row
nonzero_div-row c = omega (arith, some_bytes c.args.each c.if-each-eq0.false, c.size.ensures)

pub bounds-row-0 : goal.bounds-row-0
bounds-row-0 c =
    tail_room c.args.each c.args.s.now c.args.row.now c.if-each-eq0.false c.if-each-eq-TEXT.false c.requires

pub returns : goal.returns
returns c =
    tail_set c.args.each c.args.s.now c.args.row.now c.if-each-eq0.false c.if-each-eq-TEXT.false c.requires c.size.ensures
