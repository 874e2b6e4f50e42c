-- `states::feeding::seats_in` meets its contract, seat by seat.
use mathlib.Core.List.{[], ◌∷◌}
use Rattle.wire.specs.Tabulated.{tabulated}
use Rattle.states.proofs.feeding.seats_in.Goals as goal

pub returns : goal.returns
unfolding tabulated
returns c = λ i. c.seat_in.ensures i ∷ c.seat_in-2.ensures i ∷ c.seat_in-3.ensures i ∷ c.seat_in-4.ensures i ∷ c.seat_in-5.ensures i ∷ c.seat_in-6.ensures i ∷ c.seat_in-7.ensures i ∷ c.seat_in-8.ensures i ∷ []
