-- `crc::bytes::early` meets its contract.
use native.Mathlib.Omega.{arith}
use Rattle.crc.proofs.Words.{early_is}
use Rattle.crc.proofs.bytes.early.Goals as goal

pub returns : goal.returns
returns c = early_is c.args.start c.args.k (omega (arith, c.ranges)) c.requires
