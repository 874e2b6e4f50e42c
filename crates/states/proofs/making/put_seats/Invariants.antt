-- `states::making::put_seats` meets its contract. The loop's invariant: the first i seats are stored.
use mathlib.Core.Path.{◌≡◌}
use Rattle.lent_rows.specs.Lent.{first_rows_stored}
use Rattle.places.specs.State.{seat_fields, seats_at, seat_row}
use Rattle.states.proofs.making.put_seats.Given as goal

abbrev pub invariant-loop-i : goal.invariant-loop-i
invariant-loop-i l = l.s ≡ first_rows_stored seat_fields (seat_row l.roster) l.i l.initial.s seats_at
