-- `states::feeding::seat_in` meets its contract: its two bytes.
use Rattle.wire.proofs.Numbers.{number_halves}
use Rattle.places.specs.State.{seat_at}
use Rattle.states.proofs.feeding.seat_in.Goals as goal

pub returns : goal.returns
returns c =
    let a = c.args in
    number_halves 1 1 a.s.now (seat_at a.i) c.byte_in.ensures c.byte_in-2.ensures
