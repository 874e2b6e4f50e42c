-- `row_writer::obs::rows_fit` meets its contract. The loop's invariant: whether the observations left fit is whether all do.
use mathlib.Core.Path.{sym, ◌∙◌}
use Prim.Native.Nat.{◌*◌}
use native.Mathlib.Omega.{arith}
use Rattle.observation.specs.Edition.{observation}
use Rattle.row_writer.proofs.ObsRows.{fits_lent, fit_none, fit_all, fit_more, fit_not}
use Rattle.row_writer.proofs.ObsPacked.{each_formats}
use Rattle.row_writer.proofs.obs.rows_fit.Goals as goal

pub loop-i-init : goal.loop-i-init
loop-i-init c = let a = c.args in fit_none observation.fields a.rows.now a.k

pub overflow_mul-from : goal.overflow_mul-from
overflow_mul-from c = omega (arith, c.requires)

pub offset_bounds-rows-from : goal.offset_bounds-rows-from
offset_bounds-rows-from c = omega (arith, c.requires)

pub slice_bounds-run_fits-count : goal.slice_bounds-run_fits-count
slice_bounds-run_fits-count c = omega (arith, c.requires)

pub slice_bounds-run_fits-start : goal.slice_bounds-run_fits-start
slice_bounds-run_fits-start c = slice_bounds-run_fits-count c

pub loop-i-preserved : goal.loop-i-preserved
loop-i-preserved c =
    let a = c.args in
    fit_more observation.fields a.rows.now a.k c.loop-i.i c.loop-i.invariant c.loop-i-test.true
    (sym c.if-not-run_fits.false ∙ c.run_fits.ensures ∙ fits_lent observation.fields a.rows.now (c.loop-i.i * 8) each_formats)

pub returns-then-not-run_fits : goal.returns-then-not-run_fits
returns-then-not-run_fits c =
    let a = c.args in
    fit_not observation.fields a.rows.now a.k c.loop-i.i c.loop-i.invariant c.loop-i-test.true
    (sym c.if-not-run_fits.true ∙ c.run_fits.ensures ∙ fits_lent observation.fields a.rows.now (c.loop-i.i * 8) each_formats)

pub returns : goal.returns
returns c = let a = c.args in fit_all observation.fields a.rows.now a.k c.loop-i.i c.loop-i.invariant c.loop-i-test.false
