-- `crc::folding::moved_up` meets its contract.
use Rattle.crc.proofs.Quotients.{moved_is}
use Rattle.crc.proofs.folding.moved_up.Goals as goal

pub returns : goal.returns
returns c = moved_is c.args.r c.divided-q.result c.divided-q.ensures.0 c.divided-q.ensures.1
