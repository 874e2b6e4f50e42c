-- The five idle programs of document 01's last section, what each would have to meet, and that it doesn't (`ShutOut`).
use Rattle.std.specs.Prelude.{ℕ, suc, ◌+◌, ◌≡◌, Bool, true, false, cond, List, [], ◌∷◌, ◌++◌, map, ◌↔◌, length, drop, replicate}
use Rattle.frames.specs.Step.{passed}
use Rattle.frames.specs.Reading.{Positioned, closed_steps, Tiled, holding, counts_of, sum_of}
use Rattle.frames.specs.Cursors.{next_of}
use Rattle.frames.specs.declared.step.Frame.{Frame}
use Rattle.frames.specs.declared.step.Step.{Step}
use Rattle.frames.specs.declared.step.Step.TheVariants.{Finished, Junk, Short, Bad, Found}
use Rattle.frames.specs.declared.cursor.Counts.{Counts}
use Rattle.frames.specs.declared.cursor.Cursor.{Cursor}
use Rattle.frames.specs.declared.cursor.Next as Next
use Rattle.runs.specs.InWords.{countdown}
use Rattle.epochs.specs.Collator.{fed_frame, made}
use Rattle.epochs.specs.Epoch.{EndsEpoch}
use Rattle.frames.specs.Frame.{Content}
use Rattle.epochs.specs.declared.collating.Collator.{Collator}
use Rattle.epochs.specs.declared.collating.Report.{Report}
use Rattle.epochs.specs.Happened.{Happened}
use Rattle.epochs.specs.Happened as H
use Rattle.examples.specs.Examples.{blank}

-- ---- readers, one frame a call

abbrev pub Reader : Type 0
Reader = List ℕ → Cursor → Next.Next

-- the contract of `next`: the frame rule
abbrev pub FrameRule : Reader → Type 0
FrameRule read = (s : List ℕ) (c : Cursor) → read s c ≡ next_of s c

-- refusing everything
abbrev pub refusing : Reader
refusing s c = Next.TheVariants.End c

-- any reader that never hands out a frame
abbrev pub FindsNothing : Reader → Type 0
FindsNothing read = (s : List ℕ) (c d : Cursor) (f : Frame) → read s c ≡ Next.TheVariants.Frame f d → ⊥

-- answering always alike
abbrev pub alike : Next.Next → Reader
alike x s c = x

-- ---- collators, whatever their state is

pub record Machine (C : Type 0) : Type 0 where
  pub start : C
  pub feed : C → Content → C × Happened

-- the state after some frames
abbrev pub standing : {C : Type 0} → Machine C → C → List Content → C
standing m c [] = c
standing m c (x ∷ xs) = standing m (m.feed c x).0 xs

-- demand 2: after any frames a frame is answered with an epoch exactly when it ends one
abbrev pub ReportsEpochs : {C : Type 0} → List ℕ → Machine C → Type 0
ReportsEpochs roster m =
    (xs : List Content) (x : Content) (e : Report) → ((m.feed (standing m m.start xs) x).1 ≡ H.Epoch e) ↔ EndsEpoch roster xs x e

-- never moving: any collator whose state stays as it is, whatever it answers
abbrev pub NeverMoves : {C : Type 0} → Machine C → Type 0
NeverMoves {C} m = (c : C) (x : Content) → (m.feed c x).0 ≡ c

-- the collator itself is one, which meets that demand
abbrev pub collator : List ℕ → Machine Collator
collator roster = record { start = (made roster).collator; feed = λ c x. ((fed_frame c x).collator, (fed_frame c x).happened) }

-- ---- honest for its first frame, calling the rest junk

unfoldable pub junk_from : ℕ → List ℕ → List Positioned
junk_from p [] = []
junk_from p (b ∷ t) = record { at = p; step = Junk } ∷ junk_from (suc p) t

abbrev pub is_frame : Step → Bool
is_frame Finished = false
is_frame Junk = false
is_frame (Short n) = false
is_frame Bad = false
is_frame (Found f) = true

-- where a step ends
abbrev pub end_of : Positioned → ℕ
end_of x = x.at + passed x.step

-- steps up to the first frame, and junk from its end on
unfoldable pub up_to_frame : List ℕ → List Positioned → List Positioned
unfolding junk_from
up_to_frame s [] = []
up_to_frame s (x ∷ xs) = x ∷ cond (is_frame x.step) (junk_from (end_of x) (drop (end_of x) s)) (up_to_frame s xs)

abbrev pub once_honest : List ℕ → List Positioned
once_honest s = up_to_frame s (closed_steps s)

-- ---- invented totals

-- the contract of `totals`: counts tied to steps
abbrev pub TiedToSteps : (List ℕ → Counts) → Type 0
TiedToSteps totals = (s : List ℕ) → totals s ≡ counts_of (closed_steps s)

-- all of the capture is frames
abbrev pub invented : List ℕ → Counts
invented s = record { framed = length s; junk = 0; bad = 0; short = 0 }

-- ---- each is shut out, by what document 01 names for it

pub record ShutOut : Type 1 where
  -- "One refusing everything, and one answering always alike: by the frame rule of demand 2." Any reader that never finds a frame, and whatever
  -- the one answer is
  pub finding_nothing : (read : Reader) → FindsNothing read → FrameRule read → ⊥
  pub refusing_everything : FrameRule refusing → ⊥
  pub answering_alike : (x : Next.Next) → FrameRule (alike x) → ⊥
  -- "A collator that never moves: by demand 2's epochs of two packets or more." Whatever it answers, and for every roster that is accepted
  pub never_moving : (C : Type 0) (m : Machine C) → NeverMoves m → (roster : List ℕ) → (made roster).number ≡ 0 → ReportsEpochs roster m → ⊥
  pub moving : (roster : List ℕ) → (made roster).number ≡ 0 → ReportsEpochs roster (collator roster)
  -- "A reader honest for its first frame and calling the rest junk: by step 5 holding at every position reached." Of one frame its steps are the
  -- right ones, of every capture their counts add up to the length, and of two frames each byte lies in one of them
  pub honest_first : once_honest blank ≡ closed_steps blank
  pub once_honest_sum : (s : List ℕ) → sum_of (counts_of (once_honest s)) ≡ length s
  pub once_honest_covers : map (λ (i : ℕ). holding i (once_honest (blank ++ blank))) (countdown 16) ≡ replicate 16 1
  -- but they are not the capture's own at every place
  pub once_honest_lem : Tiled (blank ++ blank) 0 16 (once_honest (blank ++ blank)) → ⊥
  -- "Invented totals: by counts tied to steps." They add up, but a byte of noise is no frame
  pub invented_sum : (s : List ℕ) → sum_of (invented s) ≡ length s
  pub inventing : TiedToSteps invented → ⊥
