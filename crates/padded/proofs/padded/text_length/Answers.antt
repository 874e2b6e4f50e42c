-- `padded::padded::text_length` meets its contract: as trimmed, or byte by byte.
use mathlib.Core.Path.{sym, ap, ◌∙◌}
use Prim.Native.Nat.{ℕ}
use native.Mathlib.Nat.{sub-zero}
use lib.ListN.{take}
use Rattle.padded.specs.Padded.{no_zero}
use Rattle.padded.proofs.Texts.{whole_text}
use Rattle.padded.proofs.padded.text_length.Goals as goal

pub returns-then-no_zero : goal.returns-then-no_zero
returns-then-no_zero c =
    let s = c.args.s.now in
    let none = ap (λ (k : ℕ). no_zero (take k s)) (sym (sub-zero c.trimmed-n.result)) ∙ sym c.no_zero.ensures ∙ c.if-no_zero.true in
    whole_text s c.trimmed-n.result c.trimmed-n.ensures.0 none c.trimmed-n.ensures.1

pub returns : goal.returns
returns c = c.first_zero.ensures
