-- `states::feeding::byte_in` meets its contract.
use Rattle.wire.proofs.Numbers.{number_byte}
use Rattle.states.proofs.feeding.byte_in.Goals as goal

pub returns : goal.returns
returns c = number_byte c.args.s.now c.args.at c.requires
