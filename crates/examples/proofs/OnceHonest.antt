-- Steps that are honest up to the first frame and junk from there on still add up to the capture's length, for every capture.
use mathlib.Core.Path.{◌≡◌, refl, ◌∙◌}
use mathlib.Core.Bool.{Bool, true, false, cond}
use mathlib.Core.List.{List, [], ◌∷◌}
use Prim.Native.Nat.{ℕ, suc, ◌+◌, ◌-◌}
use native.Mathlib.Omega.{arith}
use lib.ListN.{length, drop, length-drop}
use Rattle.frames.specs.Step.{step_at, ends}
use Rattle.frames.specs.Reading.{Positioned, positioned, Tiled, done, then, counted, counts_of, sum_of}
use Rattle.frames.proofs.Tiling.{counted_sum, added_sum, closed_tiled}
use Rattle.examples.specs.Idle.{junk_from, up_to_frame, is_frame, once_honest}

junk_sum : (p : ℕ) (t : List ℕ) → sum_of (counts_of (junk_from p t)) ≡ length t
unfolding junk_from counts_of
junk_sum p [] = refl
junk_sum p (b ∷ t) = omega (arith, junk_sum (suc p) t)

sum_from : (s : List ℕ) {p e : ℕ} {xs : List Positioned} → Tiled s p e xs → e ≡ length s → sum_of (counts_of (up_to_frame s xs)) + p ≡ length s
unfolding up_to_frame counts_of
sum_from s done q = omega arith
sum_from s (then {p = p} {xs = xs} l t) q = by (is_frame (step_at s p)) (sum_from s t q)
  where
    junk : List Positioned
    junk = junk_from (ends s p) (drop (ends s p) s)

    by : (f : Bool) → sum_of (counts_of (up_to_frame s xs)) + ends s p ≡ length s → sum_of (counts_of (positioned s p ∷ cond f junk (up_to_frame s xs))) + p ≡ length s
    by true rest =
        let left : sum_of (counts_of junk) ≡ length s - ends s p = junk_sum (ends s p) (drop (ends s p) s) ∙ length-drop (ends s p) s in
        omega (arith, added_sum (counted (step_at s p)) (counts_of junk), counted_sum (step_at s p))
    by false rest = omega (arith, added_sum (counted (step_at s p)) (counts_of (up_to_frame s xs)), counted_sum (step_at s p))

pub adds_up : (s : List ℕ) → sum_of (counts_of (once_honest s)) ≡ length s
adds_up s = omega (arith, sum_from s (closed_tiled s) refl)
