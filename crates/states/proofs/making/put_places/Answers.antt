-- `states::making::put_places` meets its contract. The loop's invariant: the first i places are stored.
use mathlib.Core.Path.{◌≡◌, ap, ◌∙◌}
use Prim.Native.Nat.{ℕ, ◌%◌}
use native.Mathlib.Nat.{mod-eq_of_lt}
use lib.ListN.{get_or}
use Rattle.epochs.specs.Collator.{idle}
use Rattle.places.specs.State.{slot_fields, places_at, place_stored, place_row}
use Rattle.lent_rows.proofs.Tables.{rows_none, rows_more}
use Rattle.states.proofs.making.put_places.Goals as goal

pub loop-i-init : goal.loop-i-init
loop-i-init c = rows_none _ _ _ _

pub loop-i-preserved : goal.loop-i-preserved
loop-i-preserved c =
    let a = c.args in
    let own : c.loop-i.i % 8 ≡ c.loop-i.i = mod-eq_of_lt c.loop-i-test.true in
    rows_more slot_fields (place_row a.places) a.s.now places_at c.loop-i.i c.loop-i.invariant
    (c.put_place.ensures ∙ ap (λ (i : ℕ). place_stored c.loop-i.s i (get_or a.places c.loop-i.i idle)) own)
