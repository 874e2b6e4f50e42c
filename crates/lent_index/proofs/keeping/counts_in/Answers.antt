-- `lent_index::keeping::counts_in` meets its contract. The loop's invariant: the first i counts are there.
use mathlib.Core.Path.{refl}
use native.Mathlib.Omega.{arith}
use Rattle.lent_index.specs.Bytes.{count_at}
use Rattle.lent_index.proofs.Numbers.{one_filled, all_filled}
use Rattle.lent_index.proofs.keeping.counts_in.Goals as goal

pub loop-i-init : goal.loop-i-init
loop-i-init c = (omega arith, refl, λ j h. absurd (omega arith))

pub loop-i-preserved : goal.loop-i-preserved
loop-i-preserved c =
    one_filled (count_at c.args.s.now) c.loop-i.counts c.loop-i.i c.loop-i.invariant c.loop-i-test.true c.read.ensures

pub returns : goal.returns
returns c = all_filled (count_at c.args.s.now) c.loop-i.counts c.loop-i.i c.loop-i.invariant c.loop-i-test.false
