-- Of the two functions: what each tells, and when it answers 32.
use mathlib.Core.Path.{refl, ◌∙◌}
use mathlib.Core.List.{List}
use Prim.Native.Nat.{ℕ, ◌≤◌, ◌<◌}
use native.Mathlib.Omega.{arith}
use lib.ListN.{length}
use Rattle.frames.specs.Reading.{closed_steps, counts_of}
use Rattle.frames.specs.Cursors.{next_of}
use Rattle.frames.specs.declared.cursor.Next as Next
use Rattle.frame_rows.specs.Found.{found_fields, found_values, start_at, found_in, number_in, next_from}
use Rattle.frame_rows.specs.Totals.{totals_fields, totals_row, totals_for, totals_stored}
use Rattle.frame_rows.proofs.ReadBack.{counts_shown}
use Rattle.frames_told.specs.FramesTold.{AsLent, TotalsShown, FramesTold}
use Rattle.frames_told.proofs.Tallies.{counts_are_steps}
use Rattle.frames_told.proofs.Rooms.{exactly_32, exactly_0, only_first, untouched}
use Rattle.frames_told.proofs.NextTells.{next_told}

own_number : (n : Next.Next) → number_in n < 32
own_number (Next.TheVariants.Frame f c) = omega arith
own_number (Next.TheVariants.End c) = omega arith
own_number (Next.TheVariants.Needs n c) = omega arith

pub totals_shown : (s : List ℕ) → AsLent s → (buf : List ℕ) → 32 ≤ length buf → TotalsShown s (totals_stored s buf)
totals_shown s lent buf room =
    let shown = counts_shown s lent.1 buf room in
    let xs = closed_steps s in
    record {
      framed = shown.framed ∙ counts_are_steps.framed xs;
      junk = shown.junk ∙ counts_are_steps.junk xs;
      bad = shown.bad ∙ counts_are_steps.bad xs;
      short = shown.short ∙ counts_are_steps.short xs;
    }

pub frames_told : FramesTold
unfolding next_from totals_for
frames_told = record {
  next = λ opened s lent at inside buf room. (
    next_told opened s lent at inside buf room,
    only_first (next_of s (start_at at opened)) found_fields (λ (n : Next.Next). found_values (found_in n)) buf room,
  );
  next_32 = λ opened s at room. exactly_32 (next_of s (start_at at opened)) number_in 53 room (own_number (next_of s (start_at at opened)));
  next_untouched = λ opened s at buf. untouched (next_of s (start_at at opened)) found_fields (λ (n : Next.Next). found_values (found_in n)) buf;
  totals = λ s lent buf room. (totals_shown s lent buf room, only_first (counts_of (closed_steps s)) totals_fields totals_row buf room);
  totals_0 = λ s room. exactly_0 (counts_of (closed_steps s)) (λ c. 0) 32 room refl;
  totals_32 = λ s room. exactly_32 (counts_of (closed_steps s)) (λ c. 0) 32 room (omega arith);
  totals_untouched = λ s buf. untouched (counts_of (closed_steps s)) totals_fields totals_row buf;
}
