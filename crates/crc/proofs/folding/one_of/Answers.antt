-- `crc::folding::one_of` meets its contract: a word is added to a number that leaves the same.
use mathlib.Core.Path.{sym, ap, ◌∙◌}
use Prim.Native.Nat.{ℕ, ◌*◌, ◌^◌}
use lib.Bits.{bit_xor}
use Rattle.crc.specs.Inner.{rest}
use Rattle.crc.proofs.Rest.{rest_xor}
use Rattle.crc.proofs.folding.one_of.Goals as goal

pub returns : goal.returns
returns c =
    let x = c.args.x in
    rest_xor c.moved_up.result x.b ∙ ap (λ (y : ℕ). bit_xor y (rest x.b)) c.moved_up.ensures ∙ sym (rest_xor (x.a * 2 ^ 64) x.b)
