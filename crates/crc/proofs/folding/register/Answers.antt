-- `crc::folding::register` meets its contract.
use Rattle.crc.proofs.Quotients.{register_is}
use Rattle.crc.proofs.folding.register.Goals as goal

pub returns : goal.returns
returns c = register_is c.args.r c.divided-u.result c.divided-u.ensures.0
