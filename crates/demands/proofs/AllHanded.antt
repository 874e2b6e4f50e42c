-- Calls of `next` come to an end, with all frames of the reading handed out and its counts.
use mathlib.Core.Path.{◌≡◌, refl, sym, ap, ◌∙◌, subst}
use mathlib.Core.Bool.{Bool}
use mathlib.Core.List.{List, [], ◌∷◌, ◌++◌}
use Prim.Native.Nat.{ℕ, zero, suc, ◌^◌, ◌≤◌, ◌<◌}
use native.Mathlib.Omega.{arith}
use lib.ListN.{length}
use Rattle.frames.specs.Reading.{steps, frames_of, counts_of}
use Rattle.frames.specs.Cursors.{begun, counts_in, next_of, after, remaining, Says, Led, start, more}
use Rattle.frames.specs.declared.step.Frame.{Frame}
use Rattle.frames.specs.declared.cursor.Cursor.{Cursor}
use Rattle.frames.specs.declared.cursor.Next as Next
use Rattle.frames.proofs.NextAnswers.{said, led, led_end, led_needs}
use Rattle.demands.specs.Handed.{Stops, Handed}

module _ (opened : Bool) (s : List ℕ) (small : length s < 2 ^ 64) where
  stopped : {fs : List Frame} {c : Cursor} {n : Next.Next} → Led opened s fs c → next_of s c ≡ n → Stops opened s n
      → (fs ≡ frames_of (steps opened s 0)) × (counts_in (after n) ≡ counts_of (steps opened s 0)) → Handed opened s
  stopped {c = c} l e stop all = record {
    last = c;
    frames = subst (λ (fs : List Frame). Led opened s fs c) all.0 l;
    stops = subst (Stops opened s) (sym e) stop;
    counts = ap (λ (n : Next.Next). counts_in (after n)) e ∙ all.1;
  }

  -- one call: it stops, or one frame fewer is left
  turn : (fs : List Frame) (c : Cursor) → Led opened s fs c → ((f : Frame) (d : Cursor) → Led opened s (fs ++ f ∷ []) d → length (remaining opened s d) < length (remaining opened s c) → Handed opened s) → Handed opened s
  turn fs c l rest = by (next_of s c) refl
    where
      says : {n : Next.Next} → next_of s c ≡ n → Says opened s (remaining opened s c) n
      says e = (said s small opened (led s small opened l).0 e).0

      by : (n : Next.Next) → next_of s c ≡ n → Handed opened s
      by (Next.TheVariants.Frame f d) e = rest f d (more l e) (omega (arith, ap length (says e)))
      by (Next.TheVariants.End d) e = stopped l e (says e).1 (led_end s small opened l e)
      by (Next.TheVariants.Needs n d) e = stopped l e ((says e).2, (says e).1) (led_needs s small opened l e)

  within : (k : ℕ) (fs : List Frame) (c : Cursor) → Led opened s fs c → length (remaining opened s c) ≤ k → Handed opened s
  within zero fs c l few = turn fs c l (λ f d on fewer. absurd (omega arith))
  within (suc k) fs c l few = turn fs c l (λ f d on fewer. within k (fs ++ f ∷ []) d on (omega arith))

  pub handed_out : Handed opened s
  handed_out = within (length (remaining opened s (begun opened))) [] (begun opened) start (omega arith)
