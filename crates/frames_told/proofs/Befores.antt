-- The steps before the first frame: none of them is a frame, and where there is no frame they are all.
use mathlib.Core.Path.{◌≡◌, refl, ap}
use mathlib.Core.Bool.{cond}
use mathlib.Core.List.{List, [], ◌∷◌, ◌++◌}
use Prim.Native.Nat.{ℕ}
use native.Mathlib.Omega.{arith}
use Rattle.frames.specs.Reading.{Positioned, frames_in, frames_of}
use Rattle.frames.specs.declared.step.Step.{Step}
use Rattle.frames.specs.declared.step.Step.TheVariants.{Finished, Junk, Short, Bad, Found}
use Rattle.frames_told.specs.Counting.{sum_over, frame_bytes_in}
use Rattle.frames_told.specs.FramesTold.{is_frame, before_frame}

-- x before those before xs, unless it is a frame
abbrev led : Positioned → List Positioned → List Positioned
led x before = cond (is_frame x.step) [] (x ∷ before)

pub frames_after : (xs ys : List Positioned) → frames_of (before_frame xs ++ ys) ≡ frames_of ys
unfolding before_frame frames_of
frames_after [] ys = refl
frames_after (x ∷ xs) ys = by x.step (frames_after xs ys)
  where
    by : (y : Step) → frames_of (before_frame xs ++ ys) ≡ frames_of ys
        → frames_of (led (record { at = x.at; step = y }) (before_frame xs) ++ ys) ≡ frames_of ys
    by Finished rest = rest
    by Junk rest = rest
    by (Short n) rest = rest
    by Bad rest = rest
    by (Found f) rest = refl

pub all_before : (xs : List Positioned) → frames_of xs ≡ [] → before_frame xs ≡ xs
unfolding before_frame frames_of
all_before [] e = refl
all_before (x ∷ xs) e = by x.step e (all_before xs)
  where
    by : (y : Step) → frames_in y (frames_of xs) ≡ [] → (frames_of xs ≡ [] → before_frame xs ≡ xs)
        → led (record { at = x.at; step = y }) (before_frame xs) ≡ record { at = x.at; step = y } ∷ xs
    by Finished e rest = ap (λ (ys : List Positioned). record { at = x.at; step = Finished } ∷ ys) (rest e)
    by Junk e rest = ap (λ (ys : List Positioned). record { at = x.at; step = Junk } ∷ ys) (rest e)
    by (Short n) e rest = ap (λ (ys : List Positioned). record { at = x.at; step = Short n } ∷ ys) (rest e)
    by Bad e rest = ap (λ (ys : List Positioned). record { at = x.at; step = Bad } ∷ ys) (rest e)
    by (Found f) e rest = let z : ◌≡◌ {A = ℕ} 0 1 = cc in absurd (omega arith)

pub no_frame_bytes : (xs : List Positioned) → frame_bytes_in (before_frame xs) ≡ 0
unfolding before_frame sum_over
no_frame_bytes [] = refl
no_frame_bytes (x ∷ xs) = by x.step (no_frame_bytes xs)
  where
    by : (y : Step) → frame_bytes_in (before_frame xs) ≡ 0 → frame_bytes_in (led (record { at = x.at; step = y }) (before_frame xs)) ≡ 0
    by Finished rest = omega (arith, rest)
    by Junk rest = omega (arith, rest)
    by (Short n) rest = omega (arith, rest)
    by Bad rest = omega (arith, rest)
    by (Found f) rest = refl
