-- `formats::digits::count` meets its contract.
use native.Mathlib.Omega.{arith}
use Rattle.formats.proofs.Steps.{counted_none, counted_more, counted_all, counted_few}
use Rattle.formats.proofs.digits.count.Goals as goal

pub loop-rest-init : goal.loop-rest-init
loop-rest-init c = counted_none c.args.digits

pub overflow_add-n : goal.overflow_add-n
overflow_add-n c = omega (arith, counted_few c.args.digits c.loop-rest.rest c.loop-rest.n c.loop-rest.invariant)

pub loop-rest-smaller : goal.loop-rest-smaller
loop-rest-smaller c = omega (arith, c.loop-rest-test.true)

pub loop-rest-preserved : goal.loop-rest-preserved
loop-rest-preserved c =
    counted_more c.args.digits c.loop-rest.rest c.loop-rest.n c.ranges.digits.fits c.loop-rest-test.true c.loop-rest.invariant

pub returns : goal.returns
returns c = counted_all c.args.digits c.loop-rest.rest c.loop-rest.n c.loop-rest-test.false c.loop-rest.invariant
