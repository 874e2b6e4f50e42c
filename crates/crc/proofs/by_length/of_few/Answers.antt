-- `crc::by_length::of_few` meets its contract: a start goes in by itself.
use mathlib.Core.Path.{ap₂, ◌∙◌}
use Prim.Native.Nat.{ℕ, ◌*◌}
use native.Mathlib.Omega.{arith}
use lib.Bits.{bit_xor}
use Rattle.crc.specs.Inner.{rest}
use Rattle.crc.proofs.Starts.{of_few}
use Rattle.crc.proofs.by_length.of_few.Goals as goal

pub returns : goal.returns
returns c =
    ap₂ bit_xor (c.register.ensures ∙ ap₂ (λ (x y : ℕ). rest (bit_xor x y * 65536)) c.few.ensures c.early.ensures) c.late.ensures
    ∙ of_few c.args.start c.args.s.now (omega (arith, c.ranges)) (λ i. (c.shared_slice_known-1.given i).fits)
