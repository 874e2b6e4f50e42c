-- `row_writer::row::fits` meets its contract: the fields of both runs, the second from the numbers that the first leaves.
use mathlib.Core.Path.{◌∙◌}
use Rattle.formats.specs.Digits.{formats_by}
use Rattle.row_writer.proofs.Runs.{fit_both, fit_not}
use Rattle.row_writer.proofs.row.fits.Goals as goal

pub returns-then-run_fits : goal.returns-then-run_fits
returns-then-run_fits c =
    let a = c.args in
    fit_both (formats_by a.shape.head) (formats_by a.shape.more) a.row.now c.count-n.ensures c.run_fits.ensures c.if-run_fits.true c.run_fits-then-run_fits.ensures

pub returns-else-run_fits : goal.returns-else-run_fits
returns-else-run_fits c =
    let a = c.args in
    c.if-run_fits.false ∙ fit_not (formats_by a.shape.head) (formats_by a.shape.more) a.row.now c.count-n.ensures c.run_fits.ensures c.if-run_fits.false
