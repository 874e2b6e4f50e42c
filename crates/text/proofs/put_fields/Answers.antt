-- `text::put_fields` meets its contract.
use Rattle.std.proofs.Common.{◌-◌, length, ◌∙◌, arith}
use lib.Seq.{length-sets}
use Rattle.text.specs.Line.{fields}
use Rattle.text.proofs.Filling.{filling_length}
use Rattle.text.proofs.LinesPut.{left_begun, left_room, left_more, left_none}
use Rattle.text.proofs.put_fields.Goals as goal

pub loop-i-init : goal.loop-i-init
loop-i-init c =
    left_begun c.args.buf.now c.args.end c.args.numbers c.requires.numbers_len_bound c.requires.end_in_bounds (omega (arith, c.well_formed.1.1.0.1.0.1))

pub put_number-to-requires : goal.put_number-to-requires
put_number-to-requires c =
    let both = let a = c.args in
    left_room a.buf.now a.end a.numbers c.loop-i.invariant c.loop-i-test.true in record { n_len_bound = both.0; end_in_bounds = both.1 }

pub loop-i-preserved : goal.loop-i-preserved
loop-i-preserved c =
    let a = c.args in
    left_more a.buf.now a.end a.numbers c.loop-i.invariant c.loop-i-test.true c.put_number-to.ensures.value c.put_number-to.ensures.buf_after

pub shape_of-buf : goal.shape_of-buf
shape_of-buf c =
    let a = c.args in
    filling_length c.loop-i.invariant.1 ∙ length-sets a.buf.now (a.end - length (fields a.numbers)) (fields a.numbers)

pub returns : goal.returns
returns c =
    let a = c.args in
    left_none a.buf.now a.end a.numbers c.loop-i.invariant (omega (arith, c.loop-i-test.false))
