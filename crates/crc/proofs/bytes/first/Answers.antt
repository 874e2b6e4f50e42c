-- `crc::bytes::first` meets its contract: what is below the first k of eight bytes is shifted out.
use mathlib.Core.Path.{ap, ◌∙◌}
use Prim.Native.Nat.{ℕ, ◌-◌, ◌*◌, ◌/◌, ◌^◌}
use Rattle.crc.proofs.Words.{first_is, none_is}
use Rattle.crc.proofs.bytes.first.Goals as goal

pub returns-then-k-eq0 : goal.returns-then-k-eq0
returns-then-k-eq0 c = none_is c.args.s.now c.if-k-eq0.true

pub returns : goal.returns
returns c =
    let a = c.args in
    ap (λ (x : ℕ). x / 2 ^ (64 - 8 * a.k)) c.word.ensures
    ∙ first_is a.s.now (λ i. (c.shared_slice_known-1.given i).fits) a.k c.requires.1 c.requires.0
