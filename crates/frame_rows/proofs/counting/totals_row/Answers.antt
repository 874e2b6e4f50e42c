-- `frame_rows::counting::totals_row` meets its contract: the row of the whole reading's counts.
use mathlib.Core.Path.{refl, ap}
use Rattle.frame_rows.specs.Totals.{totals_fields, totals_row, totals_for}
use Rattle.frame_rows.proofs.LentRows.{row_put}
use Rattle.frame_rows.proofs.counting.totals_row.Goals as goal

pub returns-clause-counts_after : goal.returns-clause-counts_after
unfolding totals_for
returns-clause-counts_after c =
    (row_put totals_fields (λ x. 0) totals_row _ c.args.counts.now c.if-counts-lt-TOTALS_SIZE.false refl (ap totals_row c.totals.ensures) c.put_counts.ensures).1
