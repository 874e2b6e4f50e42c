-- `crc::folding::two_of` meets its contract: each word behind two that leave the same.
use mathlib.Core.Path.{◌∙◌}
use Rattle.crc.specs.Inner.{then}
use Rattle.crc.proofs.Folded.{then_same}
use Rattle.crc.proofs.folding.two_of.Goals as goal

pub returns : goal.returns
returns c =
    let x = c.args.x in
    c.stepped-2.ensures ∙ then_same x.d (then c.stepped.result.a c.stepped.result.b) (then (then x.a x.b) x.c) c.stepped.ensures
