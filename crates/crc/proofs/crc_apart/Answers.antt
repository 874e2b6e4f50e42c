-- `crc::crc_apart` meets its contract: the second part goes on from what the first came to.
use mathlib.Core.Path.{sym, ap, ◌∙◌}
use Prim.Native.Nat.{ℕ}
use Rattle.crc.specs.Crc.{crc_from}
use Rattle.crc.proofs.Joined.{joined}
use Rattle.crc.proofs.crc_apart.Goals as goal

pub returns : goal.returns
returns c =
    let a = c.args in
    c.crc.ensures
    ∙ ap (λ (x : ℕ). crc_from x a.second.now) c.crc-between.ensures
    ∙ sym (joined a.start a.first.now a.second.now)
