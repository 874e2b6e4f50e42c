-- `row_reader::fill::fill` meets its contract: the run in front, and the rest in what is lent after it.
use Prim.Native.Nat.{◌≤◌}
use native.Mathlib.Omega.{arith}
use lib.ListN.{length}
use Rattle.formats.specs.Digits.{formats_by, size_of}
use Rattle.formats.proofs.Steps.{few}
use Rattle.row_reader.specs.Inner.{rest_in}
use Rattle.wire.proofs.Lent.{lent_from, lent_length}
use Rattle.row_reader.proofs.Filling.{has_start, lent_room, run_then_lem}
use Rattle.row_reader.proofs.fill.fill.Goals as goal

pub offset_bounds-row-start : goal.offset_bounds-row-start
offset_bounds-row-start c = omega (arith, (few 16 c.args.shape.head).0, c.count-start.ensures)

pub slice_bounds-fill_rest-count : goal.slice_bounds-fill_rest-count
slice_bounds-fill_rest-count c =
    has_start c.args.shape.head (rest_in c.args.shape.more c.args.shape.each) c.args.s.now c.args.row.now c.requires.s_in_bounds c.count-start.ensures c.size-at.ensures c.read_run.ensures

pub slice_bounds-fill_rest-start : goal.slice_bounds-fill_rest-start
slice_bounds-fill_rest-start c = slice_bounds-fill_rest-count c

pub fill_rest-requires : goal.fill_rest-requires
fill_rest-requires c =
    let left : size_of (formats_by c.args.shape.more) ≤ length (lent_from c.size-at.result c.args.s.now) = omega (arith, lent_length c.size-at.result c.args.s.now, c.size-at.ensures, c.requires.more_in_bounds) in
    record { more_in_bounds = left; s_in_bounds = lent_room c.args.shape.head (rest_in c.args.shape.more c.args.shape.each) c.args.s.now c.args.row.now c.requires.s_in_bounds c.count-start.ensures c.size-at.ensures c.read_run.ensures }

pub returns : goal.returns
returns c =
    run_then_lem c.args.shape.head (rest_in c.args.shape.more c.args.shape.each) c.args.s.now c.args.row.now c.requires.s_in_bounds c.count-start.ensures c.size-at.ensures c.read_run.ensures c.fill_rest.ensures
