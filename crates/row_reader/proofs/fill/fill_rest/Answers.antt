-- `row_reader::fill::fill_rest` meets its contract: the run in front, and the rest in what is lent after it.
use native.Mathlib.Omega.{arith}
use Rattle.formats.proofs.Steps.{few}
use Rattle.row_reader.specs.Inner.{tail_in}
use Rattle.row_reader.proofs.Filling.{has_start, lent_room, run_then_lem}
use Rattle.row_reader.proofs.fill.fill_rest.Goals as goal

pub offset_bounds-row-start : goal.offset_bounds-row-start
offset_bounds-row-start c = omega (arith, (few 16 c.args.more).0, c.count-start.ensures)

pub slice_bounds-fill_tail-count : goal.slice_bounds-fill_tail-count
slice_bounds-fill_tail-count c =
    has_start c.args.more (tail_in c.args.each) c.args.s.now c.args.row.now c.requires.s_in_bounds c.count-start.ensures c.size-at.ensures c.read_run.ensures

pub slice_bounds-fill_tail-start : goal.slice_bounds-fill_tail-start
slice_bounds-fill_tail-start c = slice_bounds-fill_tail-count c

pub fill_tail-requires : goal.fill_tail-requires
fill_tail-requires c =
    lent_room c.args.more (tail_in c.args.each) c.args.s.now c.args.row.now c.requires.s_in_bounds c.count-start.ensures c.size-at.ensures c.read_run.ensures

pub returns : goal.returns
returns c =
    run_then_lem c.args.more (tail_in c.args.each) c.args.s.now c.args.row.now c.requires.s_in_bounds c.count-start.ensures c.size-at.ensures c.read_run.ensures c.fill_tail.ensures
