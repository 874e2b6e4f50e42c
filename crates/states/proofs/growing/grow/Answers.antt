-- `states::growing::grow` meets its contract: the collator lists nobody.
use Rattle.states.proofs.Enlists.{grows_few}
use Rattle.states.proofs.growing.grow.Goals as goal

pub put_collator-requires : goal.put_collator-requires
put_collator-requires c = grows_few c.args.state.now c.empty.ensures
