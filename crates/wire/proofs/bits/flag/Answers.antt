-- `wire::bits::flag` meets its contract.
use Rattle.wire.proofs.OneBit.{flag_masked, flag_past}
use Rattle.wire.proofs.bits.flag.Goals as goal

pub returns-then-k-ge32 : goal.returns-then-k-ge32
returns-then-k-ge32 c = flag_past 32 c.args.n c.args.k c.ranges.n.fits c.if-k-ge32.true

pub returns : goal.returns
returns c = flag_masked c.args.n c.args.k
