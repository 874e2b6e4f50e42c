-- `lent_index::keeping::counts_in` meets its contract. The loop's invariant: the first i counts are there.
use Prim.Native.Nat.{◌-◌}
use Rattle.payloads.specs.Places.{message_count}
use Rattle.lent_index.specs.Bytes.{count_at}
use Rattle.lent_index.proofs.Numbers.{Filled}
use Rattle.lent_index.proofs.keeping.counts_in.Given as goal

abbrev pub invariant-loop-i : goal.invariant-loop-i
invariant-loop-i l = Filled (count_at l.s) l.counts l.i

abbrev pub decreases-loop-i : goal.decreases-loop-i
decreases-loop-i l = message_count - l.i
