-- The rest of a capture alone: a reading looks at what stands from its position on, and the position goes into what it names alone. So with the first
-- b bytes dropped it is the same reading, but for b in every position.
use mathlib.Core.Path.{◌≡◌, refl, sym, ap, ap₂, ◌∙◌}
use mathlib.Core.Bool.{Bool, true, false, not, cond}
use mathlib.Core.List.{List, [], ◌∷◌, map, map-map}
use Prim.Native.Nat.{ℕ, zero, suc, pred, ◌+◌, ◌-◌, ◌≤◌}
use native.Mathlib.Nat.{add-suc}
use native.Mathlib.Omega.{arith}
use lib.Dec.{eqb, ltb}
use lib.ListN.{length, get_or, take, drop, length-map}
use lib.Seq.{drop-drop}
use Rattle.wire.specs.Number.{number_at}
use Rattle.crc.specs.Crc.{crc_from}
use Rattle.frames.specs.Step.{stated, frame_at, step_of, passed}
use Rattle.frames.specs.Reading.{Positioned, stops, read_from, steps, frames_in, frames_of, counted, added, counts_of, sum_of}
use Rattle.frames.specs.declared.step.Step.{Step}
use Rattle.frames.specs.declared.step.Step.TheVariants.{Finished, Junk, Short, Bad, Found}
use Rattle.frames.specs.declared.step.Frame.{Frame}
use Rattle.index.specs.Index.{entry_of, frames_from, stop_from, entries_from, counted_all, extended}
use Rattle.index.specs.Index as index
use Rattle.index.specs.declared.index.Index.{Index}
use Rattle.indexed.specs.Growing.{lowered, raised, OfTheRest}

-- the step at p by the five tests, none of which looks at p
abbrev told : ℕ → List ℕ → Bool → Bool → Bool → Bool → Bool → Step
told p t finished junk headless cut bad =
    cond finished Finished (cond junk Junk (cond headless (Short 6) (cond cut (Short (stated t + 8)) (cond bad Bad (Found (frame_at p t))))))

-- a reading's first step and those after it
abbrev first : ℕ → List ℕ → Step → List Positioned
first p t x = cond (stops true x) [] (record { at = p; step = x } ∷ read_from true (pred (passed x)) (suc p) t)

module _ (b : ℕ) where
  -- ---- b more in every position

  abbrev raised_frame : Frame → Frame
  raised_frame f = record { at = b + f.at; kind = f.kind; sender = f.sender; length = f.length }

  abbrev raised_step : Step → Step
  raised_step Finished = Finished
  raised_step Junk = Junk
  raised_step (Short n) = Short n
  raised_step Bad = Bad
  raised_step (Found f) = Found (raised_frame f)

  abbrev raised_place : Positioned → Positioned
  raised_place x = record { at = b + x.at; step = raised_step x.step }

  -- ---- readings of one list from two positions

  told_raised : (p : ℕ) (t : List ℕ) (finished junk headless cut bad : Bool)
      → told (b + p) t finished junk headless cut bad ≡ raised_step (told p t finished junk headless cut bad)
  told_raised p t true junk headless cut bad = refl
  told_raised p t false true headless cut bad = refl
  told_raised p t false false true cut bad = refl
  told_raised p t false false false true bad = refl
  told_raised p t false false false false true = refl
  told_raised p t false false false false false = refl

  step_raised : (p : ℕ) (t : List ℕ) → step_of (b + p) t ≡ raised_step (step_of p t)
  unfolding step_of
  step_raised p t =
      told_raised p t (eqb (length t) 0) (not (eqb (get_or t 0 0) 0x55)) (ltb (length t) 6) (ltb (length t) (stated t + 8))
      (not (eqb (crc_from 0 (take (stated t + 5) (drop 1 t))) (number_at 2 t (stated t + 6))))

  first_raised : (p : ℕ) (t : List ℕ) (x : Step) → ((k : ℕ) → read_from true k (suc (b + p)) t ≡ map raised_place (read_from true k (suc p) t))
      → first (b + p) t (raised_step x) ≡ map raised_place (first p t x)
  first_raised p t Finished rest = refl
  first_raised p t Junk rest = ap (λ (xs : List Positioned). record { at = b + p; step = Junk } ∷ xs) (rest 0)
  first_raised p t (Short n) rest = refl
  first_raised p t Bad rest = ap (λ (xs : List Positioned). record { at = b + p; step = Bad } ∷ xs) (rest 0)
  first_raised p t (Found f) rest =
      ap (λ (xs : List Positioned). record { at = b + p; step = Found (raised_frame f) } ∷ xs) (rest (pred (f.length + 8)))

  one_on : (k p : ℕ) (t : List ℕ) {xs : List Positioned} → read_from true k (b + suc p) t ≡ xs → read_from true k (suc (b + p)) t ≡ xs
  one_on k p t e = ap (λ (q : ℕ). read_from true k q t) (sym (add-suc b p)) ∙ e

  read_raised : (k p : ℕ) (t : List ℕ) → read_from true k (b + p) t ≡ map raised_place (read_from true k p t)
  unfolding read_from
  read_raised k p [] = refl
  read_raised zero p (c ∷ t) =
      ap (first (b + p) t) (step_raised p (c ∷ t))
      ∙ first_raised p t (step_of p (c ∷ t)) (λ k. one_on k p t (read_raised k (suc p) t))
  read_raised (suc k) p (c ∷ t) = one_on k p t (read_raised k (suc p) t)

  -- ---- what they tell

  counted_raised : (x : Step) → counted (raised_step x) ≡ counted x
  counted_raised Finished = refl
  counted_raised Junk = refl
  counted_raised (Short n) = refl
  counted_raised Bad = refl
  counted_raised (Found f) = refl

  counts_raised : (xs : List Positioned) → counts_of (map raised_place xs) ≡ counts_of xs
  unfolding counts_of
  counts_raised [] = refl
  counts_raised (x ∷ xs) = ap₂ added (counted_raised x.step) (counts_raised xs)

  in_raised : (x : Step) (fs : List Frame) → frames_in (raised_step x) (map raised_frame fs) ≡ map raised_frame (frames_in x fs)
  in_raised Finished fs = refl
  in_raised Junk fs = refl
  in_raised (Short n) fs = refl
  in_raised Bad fs = refl
  in_raised (Found f) fs = refl

  frames_raised : (xs : List Positioned) → frames_of (map raised_place xs) ≡ map raised_frame (frames_of xs)
  unfolding frames_of
  frames_raised [] = refl
  frames_raised (x ∷ xs) = ap (frames_in (raised_step x.step)) (frames_raised xs) ∙ in_raised x.step (frames_of xs)

  -- the counts go by types alone
  all_raised : (counts : List ℕ) (fs : List Frame) → counted_all counts (map raised_frame fs) ≡ counted_all counts fs
  unfolding counted_all
  all_raised counts [] = refl
  all_raised counts (f ∷ fs) = all_raised (index.counted counts f.kind) fs

  -- ---- the rest of a capture

  module _ (s : List ℕ) (p : ℕ) (before : b ≤ p) where
    -- what is left of it
    abbrev rest : List ℕ
    rest = drop b s

    steps_raised : steps true s p ≡ map raised_place (steps true rest (p - b))
    steps_raised =
        ap (steps true s) (omega arith) ∙ ap (read_from true 0 (b + (p - b))) (sym (drop-drop (p - b) b s)) ∙ read_raised 0 (p - b) (drop (p - b) rest)

    frames : frames_from s p ≡ map raised_frame (frames_from rest (p - b))
    frames = ap frames_of steps_raised ∙ frames_raised (steps true rest (p - b))

    same_sum : sum_of (counts_of (steps true rest (p - b))) ≡ sum_of (counts_of (steps true s p))
    same_sum = sym (ap (λ (xs : List Positioned). sum_of (counts_of xs)) steps_raised ∙ ap sum_of (counts_raised (steps true rest (p - b))))

    same_stop : stop_from rest (p - b) ≡ stop_from s p - b
    same_stop = omega (arith, same_sum)

    same_number : length (frames_from rest (p - b)) ≡ length (frames_from s p)
    same_number = sym (ap length frames ∙ length-map (frames_from rest (p - b)) raised_frame)

    same_counts : (counts : List ℕ) → counted_all counts (frames_from rest (p - b)) ≡ counted_all counts (frames_from s p)
    same_counts counts = sym (ap (counted_all counts) frames ∙ all_raised counts (frames_from rest (p - b)))

    same_entries : map (raised b) (entries_from rest (p - b)) ≡ entries_from s p
    same_entries =
        map-map (raised b) entry_of (frames_from rest (p - b)) ∙ sym (ap (map entry_of) frames ∙ map-map entry_of raised_frame (frames_from rest (p - b)))

same_index : (s : List ℕ) (b : ℕ) (x : Index) → b ≤ x.reached → extended (drop b s) (lowered b x) ≡ lowered b (extended s x)
unfolding extended
same_index s b x before = λ i. record {
  reached = same_stop b s x.reached before i;
  held = x.held + same_number b s x.reached before i;
  counts = same_counts b s x.reached before x.counts i;
}

pub of_the_rest : OfTheRest
of_the_rest = record { index = same_index; entries = λ s b p before. same_entries b s p before }
