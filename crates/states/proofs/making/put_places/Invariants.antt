-- `states::making::put_places` meets its contract. The loop's invariant: the first i places are stored.
use mathlib.Core.Path.{◌≡◌}
use Rattle.lent_rows.specs.Lent.{first_rows_stored}
use Rattle.places.specs.State.{slot_fields, places_at, place_row}
use Rattle.states.proofs.making.put_places.Given as goal

abbrev pub invariant-loop-i : goal.invariant-loop-i
invariant-loop-i l = l.s ≡ first_rows_stored slot_fields (place_row l.places) l.i l.initial.s places_at
