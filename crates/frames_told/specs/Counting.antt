-- Document 01, "Finding frames and resuming": "each count being that of the steps of its kind". The steps of a kind one by one, and the bytes in
-- frames.
use Rattle.std.specs.Prelude.{ℕ, ◌+◌, ◌≡◌, List, [], ◌∷◌}
use Rattle.frames.specs.Reading.{Positioned, counts_of}
use Rattle.frames.specs.declared.step.Step.{Step}
use Rattle.frames.specs.declared.step.Step.TheVariants.{Finished, Junk, Short, Bad, Found}

-- a number of each element, added up
unfoldable pub sum_over : {A : Type 0} → (A → ℕ) → List A → ℕ
sum_over of [] = 0
sum_over of (x ∷ xs) = of x + sum_over of xs

-- 1 for a step of the kind, else 0
abbrev pub one_junk : Step → ℕ
one_junk Finished = 0
one_junk Junk = 1
one_junk (Short n) = 0
one_junk Bad = 0
one_junk (Found f) = 0

abbrev pub one_bad : Step → ℕ
one_bad Finished = 0
one_bad Junk = 0
one_bad (Short n) = 0
one_bad Bad = 1
one_bad (Found f) = 0

abbrev pub one_short : Step → ℕ
one_short Finished = 0
one_short Junk = 0
one_short (Short n) = 1
one_short Bad = 0
one_short (Found f) = 0

-- N + 8 for a frame, else 0
abbrev pub frame_size : Step → ℕ
frame_size Finished = 0
frame_size Junk = 0
frame_size (Short n) = 0
frame_size Bad = 0
frame_size (Found f) = f.length + 8

-- among steps
abbrev pub junks_in : List Positioned → ℕ
junks_in = sum_over (λ (x : Positioned). one_junk x.step)

abbrev pub bads_in : List Positioned → ℕ
bads_in = sum_over (λ (x : Positioned). one_bad x.step)

abbrev pub shorts_in : List Positioned → ℕ
shorts_in = sum_over (λ (x : Positioned). one_short x.step)

abbrev pub frame_bytes_in : List Positioned → ℕ
frame_bytes_in = sum_over (λ (x : Positioned). frame_size x.step)

pub record CountsAreSteps : Type 0 where
  pub framed : (xs : List Positioned) → (counts_of xs).framed ≡ frame_bytes_in xs
  pub junk : (xs : List Positioned) → (counts_of xs).junk ≡ junks_in xs
  pub bad : (xs : List Positioned) → (counts_of xs).bad ≡ bads_in xs
  pub short : (xs : List Positioned) → (counts_of xs).short ≡ shorts_in xs
