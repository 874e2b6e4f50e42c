-- `crc::folding::turned_all` meets its contract: each turn of the loop takes the next word.
use mathlib.Core.Path.{ap, ◌∙◌}
use Prim.Native.Nat.{ℕ}
use native.Mathlib.Omega.{arith}
use Rattle.crc.specs.Inner.{rest, then, joined}
use Rattle.crc.proofs.Loops.{going_none, room, going_more, going_all}
use Rattle.crc.proofs.folding.turned_all.Goals as goal

pub loop-i-init : goal.loop-i-init
loop-i-init c = let a = c.args in going_none (joined a.x) a.s.now a.from c.requires.0 c.requires.1

pub word-requires : goal.word-requires
word-requires c = let a = c.args in room (joined a.x) a.s.now a.from c.loop-i.invariant c.loop-i-test.true

pub loop-i-preserved : goal.loop-i-preserved
loop-i-preserved c =
    let a = c.args in
    going_more (joined a.x) a.s.now a.from c.loop-i.invariant c.loop-i-test.true
    (c.turned-four.ensures ∙ ap (λ (w : ℕ). rest (then (joined c.loop-i.four) w)) c.word.ensures)

pub returns : goal.returns
returns c = let a = c.args in going_all (joined a.x) a.s.now a.from c.loop-i.invariant c.loop-i-test.false

-- no word is left after the last
pub returns-2 : goal.returns-2
returns-2 c =
    let a = c.args in
    going_all (joined a.x) a.s.now a.from
    (going_more (joined a.x) a.s.now a.from c.loop-i.invariant c.loop-i-test.true
    (c.turned-four.ensures ∙ ap (λ (w : ℕ). rest (then (joined c.loop-i.four) w)) c.word.ensures))
    (omega arith)
