-- `row_writer::obs::count_of` meets its contract, test by test.
use mathlib.Core.Path.{◌≡◌, sym, ap, ◌∙◌}
use mathlib.Core.List.{List}
use lib.ListN.{length}
use Rattle.wire.specs.Value.{Format}
use Rattle.formats.specs.Wide.{fits_row}
use Rattle.formats.specs.Digits.{run_fits}
use Rattle.formats.proofs.Narrow.{fits_row_lem}
use Rattle.observation.specs.Edition.{head}
use Rattle.row_writer.specs.WriteObsRow.{rows_in}
use Rattle.row_writer.proofs.ObsPacked.{head_formats}
use Rattle.row_writer.proofs.ObsSent.{is_23_head, is_23_rows, is_31, is_given}
use Rattle.row_writer.proofs.obs.count_of.Goals as goal
use Rattle.row_writer.proofs.obs.count_of.Goals.{After-run_fits}

-- the header's numbers were looked at
header : (c : After-run_fits) → c.run_fits.result ≡ fits_row head.fields c.args.head.now 0
header c =
    let hs = c.args.head.now in
    c.run_fits.ensures ∙ ap (λ (ks : List Format). run_fits ks hs 0) head_formats ∙ fits_row_lem head.fields hs 0

pub returns-then-not-run_fits : goal.returns-then-not-run_fits
returns-then-not-run_fits c =
    let a = c.args in
    let h = header (goal.at.returns-then-not-run_fits c).After-run_fits in
    is_23_head a.kind a.head.now a.rows.now (rows_in (length a.rows.now)) (sym c.is_obs.ensures ∙ c.if-not-is_obs.false) c.if-head-ne-HEAD_NUMBERS.false c.if-rows-ne0.false
    (sym h ∙ c.if-not-run_fits.true)

pub returns-then-not-rows_fit : goal.returns-then-not-rows_fit
returns-then-not-rows_fit c =
    let a = c.args in
    let h = header (goal.at.returns-then-not-rows_fit c).After-run_fits in
    is_23_rows a.kind a.head.now a.rows.now (rows_in (length a.rows.now)) (sym c.is_obs.ensures ∙ c.if-not-is_obs.false) c.if-head-ne-HEAD_NUMBERS.false c.if-rows-ne0.false
    (sym h ∙ c.if-not-run_fits.false) (sym c.rows_fit.ensures ∙ c.if-not-rows_fit.true)

pub returns-then-k-gt-MOST : goal.returns-then-k-gt-MOST
returns-then-k-gt-MOST c =
    let a = c.args in
    let h = header (goal.at.returns-then-k-gt-MOST c).After-run_fits in
    is_31 a.kind a.head.now a.rows.now (rows_in (length a.rows.now)) (sym c.is_obs.ensures ∙ c.if-not-is_obs.false) c.if-head-ne-HEAD_NUMBERS.false c.if-rows-ne0.false
    (sym h ∙ c.if-not-run_fits.false) (sym c.rows_fit.ensures ∙ c.if-not-rows_fit.false) c.if-k-gt-MOST.true

pub returns : goal.returns
returns c =
    let a = c.args in
    let h = header (goal.at.returns c).After-run_fits in
    is_given a.kind a.head.now a.rows.now (rows_in (length a.rows.now)) (sym c.is_obs.ensures ∙ c.if-not-is_obs.false) c.if-head-ne-HEAD_NUMBERS.false c.if-rows-ne0.false
    (sym h ∙ c.if-not-run_fits.false) (sym c.rows_fit.ensures ∙ c.if-not-rows_fit.false) c.if-k-gt-MOST.false
