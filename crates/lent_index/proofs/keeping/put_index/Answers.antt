-- `lent_index::keeping::put_index` meets its contract: store after store.
use mathlib.Core.Path.{ap, ◌∙◌}
use mathlib.Core.List.{List}
use Prim.Native.Nat.{ℕ}
use Rattle.wire.specs.Value.{u64, value_stored}
use Rattle.lent_index.specs.Bytes.{counts_stored}
use Rattle.lent_index.proofs.keeping.put_index.Goals as goal

pub returns : goal.returns
returns c =
    let x = c.args.index.now in
    c.put_counts.ensures
    ∙ ap (counts_stored x.counts) (c.store-2.ensures ∙ ap (λ (t : List ℕ). value_stored u64 x.held t 8) c.store.ensures)
