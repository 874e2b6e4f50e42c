-- `row_writer::row::pack` meets its contract: the fields of both runs, the second where the first ends.
use Rattle.formats.specs.Digits.{formats_by}
use Rattle.row_writer.proofs.Runs.{packed}
use Rattle.row_writer.proofs.row.pack.Goals as goal

pub returns : goal.returns
returns c =
    let a = c.args in
    packed (formats_by a.shape.head) (formats_by a.shape.more) a.row.now c.count-n.ensures a.bytes.now c.size-at.ensures c.requires.more_in_bounds c.store_run.ensures c.store_run-2.ensures
