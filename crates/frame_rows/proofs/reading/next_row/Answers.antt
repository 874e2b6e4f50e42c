-- `frame_rows::reading::next_row` meets its contract: the row of what comes next.
use mathlib.Core.Path.{ap}
use Rattle.frames.specs.Cursors.{next_of}
use Rattle.frame_rows.specs.Found.{found_fields, found_values, start_at, found_in, number_in, next_from}
use Rattle.frame_rows.proofs.LentRows.{row_put}
use Rattle.frame_rows.proofs.reading.next_row.Goals as goal

pub returns : goal.returns
unfolding next_from
returns c =
    let a = c.args in
    let next = next_of a.capture.now (start_at a.at a.opened) in
    let both = row_put found_fields number_in (λ x. found_values (found_in x)) next a.found.now c.if-found-lt-FOUND_SIZE.false
    (c.found_of.ensures next c.reach-reached.ensures) (ap found_values (c.row_of.ensures next c.reach-reached.ensures)) c.put_found.ensures in
    record { value = both.0; found_after = both.1 }
