-- What feeding leaves of the bytes lent for a report.
use mathlib.Core.Path.{◌≡◌, refl, subst}
use mathlib.Core.List.{List, ◌++◌}
use Prim.Native.Nat.{ℕ}
use lib.ListN.{length, drop}
use lib.Seq.{drop-append_seam}
use Rattle.refusals.specs.Refusals.{given, refused, Answer}
use Rattle.layouts.specs.Field.{encode}
use Rattle.layouts.proofs.Fields.{length-encode}
use Rattle.frames.specs.Frame.{Content}
use Rattle.epochs.specs.Collator.{Move}
use Rattle.epochs.specs.Happened.{Happened}
use Rattle.epochs.specs.Happened as H
use Rattle.states.specs.Feed.{report_fields, report_row, happened_number, happened_stored, move_in, came_out, fed_in}

module _ (buf : List ℕ) where
  happened_kept : (h : Happened) → (happened_number h ≡ 1 → ⊥) → happened_stored h buf ≡ buf
  happened_kept (H.Refused n) other = refl
  happened_kept H.Taken other = refl
  happened_kept (H.Epoch e) other = absurd (other refl)

  happened_alone : (h : Happened) → drop 11 (happened_stored h buf) ≡ drop 11 buf
  happened_alone (H.Refused n) = refl
  happened_alone H.Taken = refl
  happened_alone (H.Epoch e) =
      let row = encode report_fields (report_row e) in
      subst (λ (n : ℕ). drop n (row ++ drop 11 buf) ≡ drop 11 buf) (length-encode report_fields (report_row e)) (drop-append_seam row (drop 11 buf))

module _ (state lent : List ℕ) (x : Content) where
  pub report_alone : drop 11 (fed_in state x lent).report ≡ drop 11 lent
  unfolding fed_in
  report_alone = by (move_in state (length lent) x)
    where
      by : (a : Answer Move) → drop 11 (came_out state lent a).report ≡ drop 11 lent
      by (refused n) = refl
      by (given m) = happened_alone lent m.happened

  pub report_kept : ((fed_in state x lent).answer ≡ 1 → ⊥) → (fed_in state x lent).report ≡ lent
  unfolding fed_in
  report_kept = by (move_in state (length lent) x)
    where
      by : (a : Answer Move) → ((came_out state lent a).answer ≡ 1 → ⊥) → (came_out state lent a).report ≡ lent
      by (refused n) h = refl
      by (given m) h = happened_kept lent m.happened h
