-- `states::making::put_seats` meets its contract. The loop's invariant: the first i seats are stored.
use Rattle.places.specs.State.{seat_fields, seats_at, seat_row}
use Rattle.lent_rows.proofs.Tables.{rows_none, rows_more}
use Rattle.states.proofs.making.put_seats.Goals as goal

pub loop-i-init : goal.loop-i-init
loop-i-init c = rows_none _ _ _ _

pub loop-i-preserved : goal.loop-i-preserved
loop-i-preserved c =
    let a = c.args in
    rows_more seat_fields (seat_row a.roster) a.s.now seats_at c.loop-i.i c.loop-i.invariant c.store.ensures
