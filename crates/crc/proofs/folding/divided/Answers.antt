-- `crc::folding::divided` meets its contract.
use native.Mathlib.Omega.{arith}
use Rattle.crc.proofs.Quotients.{divided_is}
use Rattle.crc.proofs.folding.divided.Goals as goal

pub returns : goal.returns
returns c = divided_is c.args.r (omega (arith, c.ranges))
