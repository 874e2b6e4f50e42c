-- Demand 3 holds, all of it by citations.
use mathlib.Core.Path.{◌≡◌, sym, ap, ◌∙◌}
use mathlib.Core.Bool.{true≢false}
use mathlib.Core.List.{List, []}
use Prim.Native.Nat.{ℕ}
use Rattle.frames.specs.Frame.{Content}
use Rattle.epochs.specs.Search.{names}
use Rattle.epochs.specs.Collator.{made}
use Rattle.epochs.specs.Epoch.{after, reports, reports_of, Epochs, contents_of}
use Rattle.epochs.specs.declared.collating.Report.{Report}
use Rattle.epochs.proofs.Making.{seated}
use Rattle.epochs.proofs.Collations.{only_epochs, came_to_lem, same_captures}
use Rattle.captures.proofs.Captures.{collated_state}
use Rattle.demands.specs.Demand3.{Demand3}
use Rattle.demands.proofs.Between.{sent}
use Rattle.demands.proofs.Shuffled.{change_places, nobodys}

-- the epochs of demand 2 are what is reported
pub reported : (roster : List ℕ) → (made roster).number ≡ 0 → (xs : List Content) (es : List Report) → Epochs roster [] xs es → es ≡ reports (made roster).collator xs
unfolding after
reported roster ok xs es w = only_epochs w _ (came_to_lem roster (seated roster ok) [] xs)

pub demand_3 : Demand3
demand_3 = record {
  unmixed = λ roster ok a b es fs first second same.
      let all = same_captures roster (seated roster ok) a b same in
      let of-a = reported roster ok (contents_of a) es first in
      let of-b = reported roster ok (contents_of b) fs second in
      record {
        first_reported = of-a;
        second_reported = of-b;
        same_reports = λ sender n. ap (reports_of sender) of-a ∙ all.1 sender n ∙ sym (ap (reports_of sender) of-b);
        same_state = all.0;
        same_collated = collated_state a roster ok ∙ all.0 ∙ sym (collated_state b roster ok);
      };
  shuffled = λ roster xs x y ys other s n. change_places s xs x y ys other;
  noise = sent;
  unlisted = λ roster xs x ys off s n. nobodys s xs x ys (λ e. true≢false (sym n ∙ ap (names roster) (sym e) ∙ off));
}
