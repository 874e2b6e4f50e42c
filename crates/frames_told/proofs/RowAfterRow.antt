-- Calls of `sbp_next` one after the other: together they hand out the frames of the reading and count its steps, and they come to an end.
use mathlib.Core.Path.{◌≡◌, refl, sym, ap, ◌∙◌}
use mathlib.Core.Bool.{Bool, false}
use mathlib.Core.List.{List, [], ◌∷◌}
use Prim.Native.Nat.{ℕ, ◌+◌, ◌^◌, ◌≤◌, ◌<◌}
use native.Mathlib.Omega.{arith}
use lib.ListN.{length}
use Rattle.frames.specs.Reading.{Positioned, steps, frames_of}
use Rattle.frames.specs.declared.step.Frame.{Frame}
use Rattle.frames.specs.declared.step.Step.{Step}
use Rattle.frames.specs.declared.step.Step.TheVariants.{Found}
use Rattle.frame_rows.specs.Found.{next_answer, next_stored}
use Rattle.frames_told.specs.Counting.{sum_over, one_junk, one_bad, one_short, frame_size}
use Rattle.frames_told.specs.FramesTold.{shown_frame, goes_on_at, before_frame, FirstFrame, NextTold, AsLent}
use Rattle.frames_told.specs.RowByRow.{RowByRow, last, then, RowsTold, RowsFollow}
use Rattle.frames_told.proofs.Tallies.{sum_append}
use Rattle.frames_told.proofs.Befores.{all_before, no_frame_bytes}
use Rattle.frames_told.proofs.NextTells.{next_told}
use Rattle.frames_told.proofs.CallsTell.{totals_shown}

-- a sum over steps is that on the way, that of the first frame, and that of the steps after it
split : (opened : Bool) (s : List ℕ) (at : ℕ) (of : Step → ℕ) {f : Frame} {next : ℕ} → FirstFrame opened s at f next
    → let sum = sum_over (λ (x : Positioned). of x.step) in
    sum (steps opened s at) ≡ sum (before_frame (steps opened s at)) + (of (Found f) + sum (steps opened s next))
unfolding sum_over
split opened s at of {f} {next} first =
    let sum : Positioned → ℕ = λ x. of x.step in
    ap (sum_over sum) first.parts ∙ sum_append sum (before_frame (steps opened s at)) (record { at = f.at; step = Found f } ∷ steps opened s next)

module _ (opened : Bool) (s : List ℕ) (lent : AsLent s) where
  none_left : {at number : ℕ} {row : List ℕ} → NextTold opened s at row number → (number ≡ 0 → ⊥) → frames_of (steps opened s at) ≡ []
  none_left {at} told other = by (frames_of (steps opened s at)) refl
    where
      by : (fs : List Frame) → frames_of (steps opened s at) ≡ fs → frames_of (steps opened s at) ≡ []
      by [] e = e
      by (f ∷ fs) e = absurd (other (told.frame.1 (λ none. (let z : ◌≡◌ {A = ℕ} 0 1 = cc in omega arith))))

  rows_told : {at : ℕ} {rows : List (List ℕ)} {final : List ℕ} → RowByRow opened s at rows final → at < 2 ^ 64 → RowsTold opened s at rows final
  unfolding sum_over
  rows_told (last {at = at} buf room other) inside =
      let told = next_told opened s lent at inside buf room in
      let none = none_left told other in
      let xs = steps opened s at in
      let all : before_frame xs ≡ xs = all_before xs none in
      let way = told.passed_over in
      record {
        frames = sym none;
        sums = record {
          framed_sum = sym (no_frame_bytes xs) ∙ ap (sum_over (λ (x : Positioned). frame_size x.step)) all;
          junk_sum = omega (arith, way.junk, ap (sum_over (λ (x : Positioned). one_junk x.step)) all);
          bad_sum = omega (arith, way.bad, ap (sum_over (λ (x : Positioned). one_bad x.step)) all);
          short_sum = omega (arith, way.short, ap (sum_over (λ (x : Positioned). one_short x.step)) all);
        };
      }
  rows_told (then {at = at} {rows = rows} {final = final} buf room answer more) inside =
      let told = next_told opened s lent at inside buf room in
      let first = (told.of_frame answer).0 in
      let rest = rows_told more (omega (arith, first.within)) in
      let way = told.passed_over in
      record {
        frames = ap (λ (fs : List Frame). shown_frame (next_stored s at opened buf) ∷ fs) rest.frames ∙ sym first.frames;
        sums = record {
          framed_sum = omega (arith, split opened s at frame_size first, no_frame_bytes (steps opened s at), rest.sums.framed_sum);
          junk_sum = omega (arith, split opened s at one_junk first, way.junk, rest.sums.junk_sum);
          bad_sum = omega (arith, split opened s at one_bad first, way.bad, rest.sums.bad_sum);
          short_sum = omega (arith, split opened s at one_short first, way.short, rest.sums.short_sum);
        };
      }

  -- ---- they come to an end: each hands out one of the frames that are left

  abbrev Come : ℕ → Type 0
  Come at = (rows : List (List ℕ)) × (final : List ℕ) × RowByRow opened s at rows final

  one_more : {at : ℕ} (buf : List ℕ) → 53 ≤ length buf → next_answer s at opened (length buf) ≡ 0
      → Come (goes_on_at (next_stored s at opened buf)) → Come at
  one_more {at} buf room answer (rows, final, calls) = (next_stored s at opened buf ∷ rows, final, then buf room answer calls)

  come_by : (buf : List ℕ) → 53 ≤ length buf → (fs : List Frame) (at : ℕ) → at < 2 ^ 64 → frames_of (steps opened s at) ≡ fs → Come at
  come_by buf room [] at inside e =
      let told = next_told opened s lent at inside buf room in
      ([], next_stored s at opened buf, last buf room (λ z. told.frame.0 z e))
  come_by buf room (f ∷ fs) at inside e =
      let told = next_told opened s lent at inside buf room in
      let answer = told.frame.1 (λ none. (let z : ◌≡◌ {A = ℕ} 0 1 = cc in omega arith)) in
      let first = (told.of_frame answer).0 in
      let frames = first.frames in
      let next = goes_on_at (next_stored s at opened buf) in
      let left : frames_of (steps opened s next) ≡ fs = cc in
      one_more buf room answer (come_by buf room fs next (omega (arith, first.within)) left)

pub rows_follow : RowsFollow
rows_follow = record {
  told = λ opened s lent at inside rows final calls. rows_told opened s lent calls inside;
  complete = λ s lent rows final calls buf room.
      let told = rows_told false s lent calls (omega arith) in
      let totals = totals_shown s lent buf room in (
        told.frames,
        record {
          framed_sum = told.sums.framed_sum ∙ sym totals.framed;
          junk_sum = told.sums.junk_sum ∙ sym totals.junk;
          bad_sum = told.sums.bad_sum ∙ sym totals.bad;
          short_sum = told.sums.short_sum ∙ sym totals.short;
        },
      );
  come = λ opened s lent at inside buf room. come_by opened s lent buf room (frames_of (steps opened s at)) at inside refl;
}
