-- `frames::junk::clear` meets its contract. The loop's invariant: a hit says that the run is shorter than the bytes looked at.
use Rattle.std.proofs.Common.{◌≡◌, ℕ, ◌<◌, Bool, not, eqb, leb, length, drop, sym, ap, ◌∙◌, ap₂, arith, length-drop, get_or-drop}
use mathlib.Core.Bool.{not-not, ◌||◌}
use Rattle.frames.specs.Inner.{junk_run}
use Rattle.frames.proofs.JunkRuns.{Hit, hit_none, hit_more}
use Rattle.frames.proofs.junk.clear.Goals as goal

pub loop-i-init : goal.loop-i-init
loop-i-init c = hit_none (drop c.args.from c.args.s.now)

pub loop-i-preserved : goal.loop-i-preserved
loop-i-preserved c =
    let s = c.args.s.now in
    let from = c.args.from in
    let byte = get_or-drop from s c.loop-i.i 0 in
    let inside : c.loop-i.i < length (drop from s) = omega (arith, c.requires, c.loop-i-test.true, length-drop from s) in
    ap₂ (λ (h : Bool) (b : ℕ). h || eqb b 0x55) c.loop-i.invariant (sym byte) ∙ hit_more (drop from s) c.loop-i.i inside

pub returns : goal.returns
returns c =
    let all : c.loop-i.i ≡ 32 = omega arith in
    ap not (c.loop-i.invariant ∙ ap (Hit (drop c.args.from c.args.s.now)) all) ∙ not-not (leb 32 (junk_run (drop c.args.from c.args.s.now)))
