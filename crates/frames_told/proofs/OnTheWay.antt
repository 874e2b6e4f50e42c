-- What an answer's cursor counts is what was counted before, and the steps on the way: one law for each kind.
use mathlib.Core.Path.{◌≡◌, refl, ap, ◌∙◌}
use mathlib.Core.Bool.{Bool}
use mathlib.Core.List.{List}
use Prim.Native.Nat.{ℕ, ◌+◌, ◌-◌, ◌^◌, ◌≤◌, ◌<◌}
use native.Mathlib.Nat.{mod-eq_of_lt}
use native.Mathlib.Omega.{arith}
use lib.ListN.{length}
use Rattle.frames.specs.Step.{passed, ends}
use Rattle.frames.specs.Reading.{Positioned, steps}
use Rattle.frames.specs.Cursors.{plus, over, ended, after}
use Rattle.frames.specs.declared.step.Frame.{Frame}
use Rattle.frames.specs.declared.step.Step.{Step}
use Rattle.frames.specs.declared.step.Step.TheVariants.{Finished, Junk, Short, Bad, Found}
use Rattle.frames.specs.declared.cursor.Cursor.{Cursor}
use Rattle.frames.specs.declared.cursor.Next as Next
use Rattle.frames.proofs.Readings.{goes_on}
use Rattle.frames.proofs.GoingOn.{here, Answered, pass, end, passed_on, over_ends}
use Rattle.frames_told.specs.Counting.{sum_over}
use Rattle.frames_told.specs.FramesTold.{before_frame}
use Rattle.frames_told.proofs.Comes.{passed_no_frame, before_go, none_before}

-- a count that a cursor keeps of the steps of a kind
pub record Kept (of : Step → ℕ) (kept : Cursor → ℕ) : Type 0 where
  pub adds : (c : Cursor) (x : Step) → kept (over c x) ≡ plus (kept c) (of x)
  pub fits : (x : Step) → of x ≤ passed x
  pub frameless : (f : Frame) → of (Found f) ≡ 0

module _ (s : List ℕ) (small : length s < 2 ^ 64) (opened : Bool) (of : Step → ℕ) (kept : Cursor → ℕ) (k : Kept of kept) where
  abbrev on_the_way : ℕ → ℕ
  on_the_way p = sum_over (λ (x : Positioned). of x.step) (before_frame (steps opened s p))

  pub counted_by : {c : Cursor} {n : Next.Next} → Answered opened s c n → kept c + (length s - c.at) < 2 ^ 64
      → kept (after n) ≡ kept c + on_the_way c.at
  unfolding sum_over
  counted_by (pass {c = c} e a) room =
      let x = here s c in
      let on = passed_on opened x e in
      let go = goes_on opened s c.at on in
      let fits = k.fits x in
      let ahead : on_the_way c.at ≡ of x + on_the_way (ends s c.at)
      = ap (sum_over (λ (x : Positioned). of x.step)) (before_go s opened c.at on (passed_no_frame opened x e)) in
      let there = over_ends s small opened c on in
      let same : on_the_way (over c x).at ≡ on_the_way (ends s c.at) = ap on_the_way there in
      let sum : kept (over c x) ≡ kept c + of x = k.adds c x ∙ mod-eq_of_lt (omega arith) in
      let rest = counted_by a (omega arith) in
      omega arith
  counted_by (end {c = c} e) room = at (here s c) refl
    where
      none : on_the_way c.at ≡ 0
      none = ap (sum_over (λ (x : Positioned). of x.step)) (none_before s opened c.at e)

      at : (x : Step) → here s c ≡ x → kept (after (ended c x)) ≡ kept c + on_the_way c.at
      at Finished q = omega (arith, none)
      at Junk q = omega (arith, none)
      at (Short n) q = omega (arith, none)
      at Bad q = omega (arith, none)
      at (Found f) q = k.adds c (Found f) ∙ ap (plus (kept c)) (k.frameless f) ∙ mod-eq_of_lt (omega arith) ∙ omega (arith, none)
