-- `crc::by_length::of_many` meets its contract: what is made of the words leaves what the bytes do, and a start goes in by itself.
use mathlib.Core.Path.{◌≡◌, ◌∙◌}
use Prim.Native.Nat.{◌+◌, ◌-◌, ◌*◌, ◌%◌, ◌^◌}
use native.Mathlib.Omega.{arith}
use lib.Bits.{bit_xor}
use lib.ListN.{length}
use Rattle.crc.specs.Inner.{then}
use Rattle.crc.proofs.Starts.{of_many}
use Rattle.crc.proofs.Loops.{none_more, one_more, two_more}
use Rattle.crc.proofs.by_length.of_many.Goals as goal

pub returns-then-from-s : goal.returns-then-from-s
returns-then-from-s c =
    let s = c.args.s.now in
    let k = length s % 8 in
    let begun = then (bit_xor c.first.result c.early.result) (bit_xor c.word.result (c.late.result * 2 ^ 48 % 2 ^ 64)) in
    let whole : (length s - (k + 8)) % 8 ≡ 0 = omega (arith, c.requires) in
    c.register.ensures
    ∙ of_many c.args.start s (omega (arith, c.ranges)) (λ i. (c.shared_slice_known-1.given i).fits) k (omega (arith, c.requires))
    c.one_of.result
    c.first.ensures
    c.early.ensures
    c.word.ensures
    c.late.ensures
    (c.one_of.ensures ∙ c.stepped.ensures ∙ one_more begun s (k + 8) whole c.if-from-s.true (omega (arith, c.if-s-from-lt16.true)) c.word-then-from-s.ensures)

pub returns-then-s-from-lt16 : goal.returns-then-s-from-lt16
returns-then-s-from-lt16 c =
    let s = c.args.s.now in
    let k = length s % 8 in
    let begun = then (bit_xor c.first.result c.early.result) (bit_xor c.word.result (c.late.result * 2 ^ 48 % 2 ^ 64)) in
    let whole : (length s - (k + 8)) % 8 ≡ 0 = omega (arith, c.requires) in
    c.register-then-s-from-lt16.ensures
    ∙ of_many c.args.start s (omega (arith, c.ranges)) (λ i. (c.shared_slice_known-1.given i).fits) k (omega (arith, c.requires))
    c.one_of-then-s-from-lt16.result
    c.first.ensures
    c.early.ensures
    c.word.ensures
    c.late.ensures
    (c.one_of-then-s-from-lt16.ensures ∙ none_more begun s (k + 8) (omega (arith, c.requires)) whole c.if-from-s.false)

pub returns : goal.returns
returns c =
    let s = c.args.s.now in
    let k = length s % 8 in
    let begun = then (bit_xor c.first.result c.early.result) (bit_xor c.word.result (c.late.result * 2 ^ 48 % 2 ^ 64)) in
    let whole : (length s - (k + 8)) % 8 ≡ 0 = omega (arith, c.requires) in
    c.register-2.ensures
    ∙ of_many c.args.start s (omega (arith, c.ranges)) (λ i. (c.shared_slice_known-1.given i).fits) k (omega (arith, c.requires))
    c.one_of-2.result
    c.first.ensures
    c.early.ensures
    c.word.ensures
    c.late.ensures
    (c.one_of-2.ensures ∙ c.two_of.ensures ∙ c.turned_all.ensures ∙ two_more begun s (k + 8) whole (omega (arith, c.requires, c.if-s-from-lt16.false)) c.word-2.ensures c.word-3.ensures)
