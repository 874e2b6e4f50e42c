-- What a call hands back and leaves is read off its answer, once for every call; and so is what a collator does.
use mathlib.Core.Path.{◌≡◌, refl, ap}
use mathlib.Core.List.{List}
use mathlib.Core.Logic.{◌↔◌, ◌⊎◌, inl, inr}
use Prim.Native.Nat.{ℕ, ◌≤◌, ◌<◌}
use native.Mathlib.Omega.{arith}
use lib.ListN.{length}
use Rattle.refusals.specs.Refusals.{refused, given, Answer, Call, reply, leaves, as_number, zero_or, FirstFails}
use Rattle.refusals.proofs.Ordered.{exactly_first, exactly_all}
use Rattle.frames.specs.Frame.{Content}
use Rattle.epochs.specs.Collator.{as_made, Move, moved, fed_frame, made, rostering, feeding}
use Rattle.epochs.specs.declared.collating.Collator.{Collator}
use Rattle.epochs.specs.declared.collating.Report.{Report}
use Rattle.epochs.specs.Happened as H
use Rattle.epochs.proofs.Feeding.{moves_told, never_refuses}
use Rattle.layouts.specs.Description.{read_as}
use Rattle.frame_writer.specs.Writer.{planned, with_frame}
use Rattle.frame_writer.specs.Faithful.{write_answer, written_as}
use Rattle.phases.specs.Phase.{read_phase}
use Rattle.row_reader.specs.ReadRow.{read_row, read_one}
use Rattle.row_writer.specs.WriteRow.{write_row, row_written}
use Rattle.row_writer.specs.WriteObsRow.{write_obs_row, obs_row_written}
use Rattle.listing.specs.Listing.{list_answer}
use Rattle.frame_rows.specs.Found.{next_from}
use Rattle.frame_rows.specs.Totals.{totals_for}
use Rattle.places.specs.State.{state_in}
use Rattle.states.specs.Feed.{happened_number, feeding_in, made_in, move_in, fed_in, came_out}
use Rattle.states.specs.Enlist.{growing_in, enlist_in}
use Rattle.demands.specs.ReadOff.{ReadOff}

module _ {A : Type 0} (c : Call A) where
  pub apart : (number : A → ℕ) → ((x : A) → number x < 11) → (n : ℕ) → 11 ≤ n → (as_number number (reply c) ≡ n) ↔ FirstFails c.tests n
  apart number small n h = (
    λ e. (exactly_first c.value c.tests n).0 (by (reply c) e),
    λ f. ap (as_number number) ((exactly_first c.value c.tests n).1 f),
  )
    where
      by : (a : Answer A) → as_number number a ≡ n → a ≡ refused n
      by (given x) e = absurd (omega (arith, small x, e, h))
      by (refused m) e = ap refused e

  pub alone : {B : Type 0} (put : A → B → B) (lent : B) (n : ℕ) → FirstFails c.tests n → leaves put (reply c) lent ≡ lent
  alone put lent n f = ap (λ (a : Answer A). leaves put a lent) ((exactly_first c.value c.tests n).1 f)

-- ---- a collator

made_number : (roster : List ℕ) → (made roster).number ≡ zero_or (reply (rostering roster))
unfolding made
made_number roster = by (reply (rostering roster))
  where
    by : (a : Answer Collator) → (as_made a).number ≡ zero_or a
    by (given c) = refl
    by (refused n) = refl

module _ (c : Collator) (x : Content) (n : ℕ) where
  fed_refused : ((fed_frame c x).happened ≡ H.Refused n) ↔ FirstFails (feeding c x).tests n
  unfolding fed_frame
  fed_refused = (
    λ e. (exactly_first (feeding c x).value (feeding c x).tests n).0 (by (reply (feeding c x)) refl e),
    λ f. ap (λ (a : Answer Move). (moved c a).happened) ((exactly_first (feeding c x).value (feeding c x).tests n).1 f),
  )
    where
      by : (a : Answer Move) → reply (feeding c x) ≡ a → (moved c a).happened ≡ H.Refused n → a ≡ refused n
      by (given m) q e = absurd (never_refuses c x q e)
      by (refused m) q e = let same : m ≡ n = cc in ap refused same

module _ (state report : List ℕ) (x : Content) (n : ℕ) where
  abbrev call : Call Move
  call = feeding_in state (length report) x

  fed_number : 11 ≤ n → ((fed_in state x report).answer ≡ n) ↔ FirstFails call.tests n
  unfolding fed_in move_in
  fed_number h = (
    λ e. (exactly_first call.value call.tests n).0 (by (reply call) refl e),
    λ f. ap (λ (a : Answer Move). (came_out state report a).answer) ((exactly_first call.value call.tests n).1 f),
  )
    where
      -- what is given has 0 or 1
      small : (m : Move) → (m.happened ≡ H.Taken) ⊎ ((r : Report) × (m.happened ≡ H.Epoch r)) → happened_number m.happened < 11
      small m (inl e) = omega (arith, ap happened_number e)
      small m (inr e) = omega (arith, ap happened_number e.1)

      by : (a : Answer Move) → reply call ≡ a → (came_out state report a).answer ≡ n → a ≡ refused n
      by (refused m) q e = ap refused e
      by (given m) q e =
          let all = (exactly_all call.value call.tests m).0 q in
          let own = (exactly_all call.value (feeding (state_in state) x).tests m).1 (all.0.1.1, all.1) in
          absurd (omega (arith, small m (moves_told (state_in state) x own), e, h))

  fed_untouched : FirstFails call.tests n → ((fed_in state x report).state ≡ state) × ((fed_in state x report).report ≡ report)
  unfolding fed_in move_in
  fed_untouched f =
      let e = (exactly_first call.value call.tests n).1 f in
      (ap (λ (a : Answer Move). (came_out state report a).state) e, ap (λ (a : Answer Move). (came_out state report a).report) e)

pub read_off : ReadOff
unfolding read_as list_answer read_row read_one read_phase planned with_frame write_answer written_as write_row row_written write_obs_row obs_row_written next_from totals_for fed_in move_in made_in growing_in enlist_in
read_off = record {
  record_read = λ R d s. refl;
  listed = λ s room. refl;
  listed_in = λ s buf. refl;
  row_read = λ kind s room. refl;
  one_read = λ kind s i room. refl;
  phase_read = λ z. refl;
  frame_planned = λ n room. refl;
  frame_in = λ kind w payload buf. refl;
  record_planned = λ R d r room. refl;
  record_in = λ R d w r buf. refl;
  row_planned = λ kind ns room. refl;
  row_in = λ kind w ns buf. refl;
  obs_planned = λ kind hs ns room. refl;
  obs_in = λ kind w hs ns buf. refl;
  reached_frame = λ f c. refl;
  reached_end = λ c. refl;
  reached_needs = λ n c. refl;
  made_number = made_number;
  fed_refused = fed_refused;
  fed_number = fed_number;
  next_number = λ s at opened room. refl;
  next_in = λ s at opened row. refl;
  totals_in = λ s row. refl;
  made_in = λ roster s. refl;
  grown_in = λ s. refl;
  enlisted_in = λ s kind sender. refl;
  fed_in_lem = λ state report x. refl;
  fed_untouched = fed_untouched;
}
