-- `formats::store::store_run` meets its contract: number after number.
use mathlib.Core.Path.{refl, sym, ap, ◌∙◌}
use Prim.Native.Nat.{◌%◌}
use native.Mathlib.Omega.{arith}
use lib.ListN.{length}
use Rattle.formats.specs.Digits.{formats_by}
use Rattle.formats.proofs.Formats.{at_most_eight}
use Rattle.formats.proofs.Steps.{counted_none, counted_more, counted_few, sized_none, sized_more, sized_few, below}
use Rattle.formats.proofs.Rows.{stored_none, stored_more, length-run_stored}
use Rattle.formats.proofs.store.store_run.Goals as goal

pub loop-rest-init : goal.loop-rest-init
loop-rest-init c = let a = c.args in (counted_none a.digits, sized_none a.digits, refl)

pub overflow_add-at : goal.overflow_add-at
overflow_add-at c =
    let digits = c.args.digits in
    omega (arith, c.width_of-at.ensures, at_most_eight (c.loop-rest.rest % 16), sized_few digits c.loop-rest.rest c.loop-rest.at c.loop-rest.invariant.1)

pub overflow_add-i : goal.overflow_add-i
overflow_add-i c =
    let digits = c.args.digits in
    omega (arith, counted_few digits c.loop-rest.rest c.loop-rest.i c.loop-rest.invariant.0)

pub loop-rest-smaller : goal.loop-rest-smaller
loop-rest-smaller c = omega (arith, c.loop-rest-test.true)

pub loop-rest-preserved : goal.loop-rest-preserved
loop-rest-preserved c =
    let small = below c.args.digits c.loop-rest.rest c.ranges.digits.fits c.loop-rest.invariant.0.0 in (
      counted_more c.args.digits c.loop-rest.rest c.loop-rest.i c.ranges.digits.fits c.loop-rest-test.true c.loop-rest.invariant.0,
      sized_more c.args.digits c.loop-rest.rest c.loop-rest.at c.width_of-at.result small c.loop-rest-test.true c.width_of-at.ensures c.loop-rest.invariant.1,
      stored_more c.loop-rest.rest c.args.row.now c.loop-rest.i c.loop-rest.buf c.loop-rest.at small c.loop-rest-test.true c.number_of.ensures c.store_number.ensures c.width_of-at.ensures ∙ c.loop-rest.invariant.2,
    )

pub shape_of-buf : goal.shape_of-buf
shape_of-buf c =
    let a = c.args in
    sym (length-run_stored (formats_by c.loop-rest.rest) a.row.now c.loop-rest.i c.loop-rest.buf c.loop-rest.at)
    ∙ ap length c.loop-rest.invariant.2
    ∙ length-run_stored (formats_by a.digits) a.row.now 0 a.buf.now 0

pub returns : goal.returns
returns c =
    let a = c.args in
    sym (stored_none c.loop-rest.rest a.row.now c.loop-rest.i c.loop-rest.buf c.loop-rest.at c.loop-rest-test.false) ∙ c.loop-rest.invariant.2
