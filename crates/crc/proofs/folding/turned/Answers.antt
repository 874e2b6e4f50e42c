-- `crc::folding::turned` meets its contract.
use Rattle.crc.proofs.Folded.{turned_is}
use Rattle.crc.proofs.folding.turned.Goals as goal

pub returns : goal.returns
returns c =
    let a = c.args in
    turned_is a.x.a a.x.b a.x.c a.x.d a.w
