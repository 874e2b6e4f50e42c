-- `formats::fits::run_fits` meets its contract.
use mathlib.Core.Path.{refl, sym, ap, ◌∙◌}
use Prim.Native.Nat.{◌%◌}
use native.Mathlib.Omega.{arith}
use Rattle.formats.specs.Wide.{fits_in}
use Rattle.formats.specs.Digits.{format_by}
use Rattle.formats.proofs.Steps.{counted_none, counted_more, counted_few, below}
use Rattle.formats.proofs.Rows.{fits_more, fits_not, fits_all}
use Rattle.formats.proofs.fits.run_fits.Goals as goal

pub loop-rest-init : goal.loop-rest-init
loop-rest-init c = (counted_none c.args.digits, refl)

pub overflow_add-i : goal.overflow_add-i
overflow_add-i c =
    omega (arith, counted_few c.args.digits c.loop-rest.rest c.loop-rest.i c.loop-rest.invariant.0)

pub loop-rest-smaller : goal.loop-rest-smaller
loop-rest-smaller c = omega (arith, c.loop-rest-test.true)

pub loop-rest-preserved : goal.loop-rest-preserved
loop-rest-preserved c =
    let fit = sym (ap (fits_in (format_by (c.loop-rest.rest % 16))) c.number_of.ensures) ∙ sym c.fits.ensures ∙ c.if-fits.true in (
      counted_more c.args.digits c.loop-rest.rest c.loop-rest.i c.ranges.digits.fits c.loop-rest-test.true c.loop-rest.invariant.0,
      fits_more c.loop-rest.rest c.args.row.now c.loop-rest.i (below c.args.digits c.loop-rest.rest c.ranges.digits.fits c.loop-rest.invariant.0.0) c.loop-rest-test.true fit ∙ c.loop-rest.invariant.1,
    )

pub returns-else-fits : goal.returns-else-fits
returns-else-fits c =
    let fit = sym (ap (fits_in (format_by (c.loop-rest.rest % 16))) c.number_of.ensures) ∙ sym c.fits.ensures ∙ c.if-fits.false in
    sym (fits_not c.loop-rest.rest c.args.row.now c.loop-rest.i (below c.args.digits c.loop-rest.rest c.ranges.digits.fits c.loop-rest.invariant.0.0) c.loop-rest-test.true fit) ∙ c.loop-rest.invariant.1

pub returns : goal.returns
returns c =
    sym (fits_all c.loop-rest.rest c.args.row.now c.loop-rest.i c.loop-rest-test.false) ∙ c.loop-rest.invariant.1
