-- The counts of a row are those of the steps on the way.
use mathlib.Core.Path.{◌≡◌, refl, ap}
use mathlib.Core.Bool.{Bool}
use mathlib.Core.List.{List}
use Prim.Native.Nat.{ℕ, ◌^◌, ◌≤◌, ◌<◌}
use native.Mathlib.Omega.{arith}
use lib.ListN.{length}
use Rattle.frames.specs.Cursors.{plus, next_of, after}
use Rattle.frames.specs.declared.cursor.Counts.{Counts}
use Rattle.frames.specs.declared.cursor.Next as Next
use Rattle.frames.proofs.Tiling.{counted_sum}
use Rattle.frames.proofs.GoingOn.{answered}
use Rattle.frame_rows.specs.Found.{start_at, found_in, next_stored}
use Rattle.frame_rows.proofs.ReadBack.{found_shown}
use Rattle.frames_told.specs.Counting.{one_junk, one_bad, one_short}
use Rattle.frames_told.specs.FramesTold.{PassedOver, AsLent}
use Rattle.frames_told.proofs.Tallies.{one}
use Rattle.frames_told.proofs.OnTheWay.{Kept, counted_by}

junk_kept : Kept one_junk (λ c. c.junk)
junk_kept = record {
  adds = λ c x. ap (λ (k : Counts). plus c.junk k.junk) (one x);
  fits = λ x. omega (arith, counted_sum x, ap (λ (k : Counts). k.junk) (one x));
  frameless = λ f. refl;
}

bad_kept : Kept one_bad (λ c. c.bad)
bad_kept = record {
  adds = λ c x. ap (λ (k : Counts). plus c.bad k.bad) (one x);
  fits = λ x. omega (arith, counted_sum x, ap (λ (k : Counts). k.bad) (one x));
  frameless = λ f. refl;
}

short_kept : Kept one_short (λ c. c.short)
short_kept = record {
  adds = λ c x. ap (λ (k : Counts). plus c.short k.short) (one x);
  fits = λ x. omega (arith, counted_sum x, ap (λ (k : Counts). k.short) (one x));
  frameless = λ f. refl;
}

-- a row has the counts of the cursor that was handed back
row_counts : (n : Next.Next) → ((found_in n).junk ≡ (after n).junk) × ((found_in n).bad ≡ (after n).bad) × ((found_in n).short ≡ (after n).short)
row_counts (Next.TheVariants.Frame f c) = (refl, refl, refl)
row_counts (Next.TheVariants.End c) = (refl, refl, refl)
row_counts (Next.TheVariants.Needs n c) = (refl, refl, refl)

pub passed_over : (opened : Bool) (s : List ℕ) → AsLent s → (at : ℕ) → at < 2 ^ 64 → (buf : List ℕ) → 53 ≤ length buf
    → PassedOver opened s at (next_stored s at opened buf)
passed_over opened s (bytes, small) at inside buf room =
    let how = answered s small opened (start_at at opened) refl in
    let shown = found_shown s bytes small at inside opened buf room in
    let same = row_counts (next_of s (start_at at opened)) in
    record {
      junk = omega (arith, shown.junk, same.0, counted_by s small opened one_junk (λ c. c.junk) junk_kept how (omega arith));
      bad = omega (arith, shown.bad, same.1, counted_by s small opened one_bad (λ c. c.bad) bad_kept how (omega arith));
      short = omega (arith, shown.short, same.2, counted_by s small opened one_short (λ c. c.short) short_kept how (omega arith));
    }
