-- Each count of steps is that of the steps of its kind. Sums over lists one after the other.
use mathlib.Core.Path.{◌≡◌, refl, ap, ap₂}
use mathlib.Core.List.{List, [], ◌∷◌, ◌++◌}
use Prim.Native.Nat.{ℕ, ◌+◌}
use native.Mathlib.Omega.{arith}
use Rattle.frames.specs.Reading.{Positioned, counted, added, counts_of}
use Rattle.frames.specs.declared.step.Step.{Step}
use Rattle.frames.specs.declared.step.Step.TheVariants.{Finished, Junk, Short, Bad, Found}
use Rattle.frames.specs.declared.cursor.Counts.{Counts}
use Rattle.frames_told.specs.Counting.{sum_over, one_junk, one_bad, one_short, frame_size, junks_in, bads_in, shorts_in, frame_bytes_in, CountsAreSteps}

pub one : (x : Step) → counted x ≡ record { framed = frame_size x; junk = one_junk x; bad = one_bad x; short = one_short x }
one Finished = refl
one Junk = refl
one (Short n) = refl
one Bad = refl
one (Found f) = refl

all : (xs : List Positioned) → counts_of xs ≡ record { framed = frame_bytes_in xs; junk = junks_in xs; bad = bads_in xs; short = shorts_in xs }
unfolding counts_of sum_over
all [] = refl
all (x ∷ xs) = ap₂ added (one x.step) (all xs)

pub counts_are_steps : CountsAreSteps
counts_are_steps = record {
  framed = λ xs. ap (λ (c : Counts). c.framed) (all xs);
  junk = λ xs. ap (λ (c : Counts). c.junk) (all xs);
  bad = λ xs. ap (λ (c : Counts). c.bad) (all xs);
  short = λ xs. ap (λ (c : Counts). c.short) (all xs);
}

pub sum_append : {A : Type 0} (of : A → ℕ) (xs ys : List A) → sum_over of (xs ++ ys) ≡ sum_over of xs + sum_over of ys
unfolding sum_over
sum_append of [] ys = omega arith
sum_append of (x ∷ xs) ys = omega (arith, sum_append of xs ys)
