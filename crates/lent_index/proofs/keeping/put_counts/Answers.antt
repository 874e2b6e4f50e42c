-- `lent_index::keeping::put_counts` meets its contract. The loop's invariant: the first i counts are stored.
use mathlib.Core.Path.{◌≡◌, ap, ◌∙◌}
use Prim.Native.Nat.{ℕ}
use native.Mathlib.Omega.{arith}
use lib.ListN.{length}
use Rattle.payloads.specs.Places.{message_count}
use Rattle.lent_rows.specs.Lent.{first_rows_stored}
use Rattle.lent_rows.proofs.Tables.{rows_none, rows_more, length-stored}
use Rattle.lent_index.specs.Bytes.{count_fields, counts_at, count_row}
use Rattle.lent_index.proofs.keeping.put_counts.Goals as goal

pub loop-i-init : goal.loop-i-init
loop-i-init c = (omega arith, rows_none _ _ _ _)

pub loop-i-preserved : goal.loop-i-preserved
loop-i-preserved c =
    let a = c.args in
    (omega arith, rows_more count_fields (count_row a.counts.now) a.s.now counts_at c.loop-i.i c.loop-i.invariant.1 c.store.ensures)

pub shape_of-s : goal.shape_of-s
shape_of-s c =
    let a = c.args in
    ap length c.loop-i.invariant.1 ∙ length-stored count_fields (count_row a.counts.now) a.s.now counts_at c.loop-i.i

pub returns : goal.returns
returns c =
    let a = c.args in
    let end : c.loop-i.i ≡ message_count = omega arith in
    c.loop-i.invariant.1 ∙ ap (λ (n : ℕ). first_rows_stored count_fields (count_row a.counts.now) n a.s.now counts_at) end
