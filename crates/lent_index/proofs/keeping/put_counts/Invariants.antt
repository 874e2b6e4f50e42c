-- `lent_index::keeping::put_counts` meets its contract. The loop's invariant: the first i counts are stored.
use mathlib.Core.Path.{◌≡◌}
use Prim.Native.Nat.{◌-◌, ◌≤◌}
use Rattle.payloads.specs.Places.{message_count}
use Rattle.lent_rows.specs.Lent.{first_rows_stored}
use Rattle.lent_index.specs.Bytes.{count_fields, counts_at, count_row}
use Rattle.lent_index.proofs.keeping.put_counts.Given as goal

abbrev pub invariant-loop-i : goal.invariant-loop-i
invariant-loop-i l = (l.i ≤ message_count) × (l.s ≡ first_rows_stored count_fields (count_row l.counts) l.i l.initial.s counts_at)

abbrev pub decreases-loop-i : goal.decreases-loop-i
decreases-loop-i l = message_count - l.i
