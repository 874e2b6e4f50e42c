-- `crc::folding::stepped` meets its contract.
use native.Mathlib.Omega.{arith}
use Rattle.crc.proofs.Folded.{stepped_is}
use Rattle.crc.proofs.folding.stepped.Goals as goal

pub returns : goal.returns
returns c =
    let a = c.args in
    stepped_is a.x.a (omega (arith, c.struct_known-1.given)) a.x.b a.w
