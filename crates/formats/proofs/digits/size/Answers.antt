-- `formats::digits::size` meets its contract.
use Prim.Native.Nat.{◌%◌}
use native.Mathlib.Omega.{arith}
use Rattle.formats.proofs.Formats.{at_most_eight}
use Rattle.formats.proofs.Steps.{sized_none, sized_more, sized_all, sized_few, below}
use Rattle.formats.proofs.digits.size.Goals as goal

pub loop-rest-init : goal.loop-rest-init
loop-rest-init c = (omega arith, sized_none c.args.digits)

pub overflow_add-n : goal.overflow_add-n
overflow_add-n c =
    omega (arith, c.width_of-n.ensures, at_most_eight (c.loop-rest.rest % 16), sized_few c.args.digits c.loop-rest.rest c.loop-rest.n c.loop-rest.invariant.1)

pub loop-rest-smaller : goal.loop-rest-smaller
loop-rest-smaller c = omega (arith, c.loop-rest-test.true)

pub loop-rest-preserved : goal.loop-rest-preserved
loop-rest-preserved c =
    (omega (arith, c.loop-rest.invariant.0), sized_more c.args.digits c.loop-rest.rest c.loop-rest.n c.width_of-n.result (below c.args.digits c.loop-rest.rest c.ranges.digits.fits c.loop-rest.invariant.0) c.loop-rest-test.true c.width_of-n.ensures c.loop-rest.invariant.1)

pub returns : goal.returns
returns c = sized_all c.args.digits c.loop-rest.rest c.loop-rest.n c.loop-rest-test.false c.loop-rest.invariant.1
