-- The answers of a cursor: the frames of the reading in order, one a call, then where the reading stops; and the counts of the whole reading
-- with it.
use Rattle.std.proofs.Common.{◌≡◌, ℕ, ◌^◌, ◌<◌, ◌≤◌, Bool, true, false, List, [], ◌∷◌, ◌++◌, length, sym, refl, ap, ◌∙◌, subst, ap₂, true≢false, append_assoc, append-nil, arith}
use mathlib.Core.Path.{subst⁻¹}
use mathlib.Core.Bool.{false≢true}
use borrow.Author.Tests.{not-false}
use Rattle.frames.specs.Step.{ends}
use Rattle.frames.specs.Reading.{stops, steps, frames_in, frames_of, counts_of}
use Rattle.frames.specs.Cursors.{counts_in, over, passes, ended, next_of, after, remaining, Says, Led, start, more, Honest}
use Rattle.frames.specs.declared.step.Step.{Step}
use Rattle.frames.specs.declared.step.Step.TheVariants.{Finished, Junk, Short, Bad, Found}
use Rattle.frames.specs.declared.step.Frame.{Frame}
use Rattle.frames.specs.declared.cursor.Cursor.{Cursor}
use Rattle.frames.specs.declared.cursor.Next as Next
use Rattle.frames.proofs.Steps.{at_end, past_end}
use Rattle.frames.proofs.Readings.{steps_stop, steps_go}
use Rattle.frames.proofs.GoingOn.{here, Answered, pass, end, passed_on, over_ends, over_further, answered, honest_begun, honest_over, honest_counts}

passed_no_frame : (opened : Bool) (x : Step) (fs : List Frame) → passes opened x ≡ true → frames_in x fs ≡ fs
passed_no_frame opened Finished fs e = refl
passed_no_frame opened Junk fs e = refl
passed_no_frame opened (Short n) fs e = refl
passed_no_frame opened Bad fs e = refl
passed_no_frame opened (Found f) fs e = absurd (false≢true e)

module _ (s : List ℕ) (small : length s < 2 ^ 64) (opened : Bool) where
  -- ---- the counts

  -- every answer's cursor is honest again
  honest_after : {c : Cursor} {n : Next.Next} → Answered opened s c n → Honest opened s c → Honest opened s (after n)
  honest_after (pass {c = c} e rest) h = honest_after rest (honest_over s small opened c h (passed_on opened (here s c) e))
  honest_after (end {c = c} e) h = at (here s c) refl
    where
      at : (x : Step) → here s c ≡ x → Honest opened s (after (ended c x))
      at Finished q = h
      at Junk q = h
      at (Short n) q = h
      at Bad q = h
      at (Found f) q = subst (λ (x : Step). Honest opened s (over c x)) q (honest_over s small opened c h (ap (stops opened) q))

  -- ---- the answers of a cursor

  -- a step that is passed over leaves the frames that are left as they are
  remaining_over : (c : Cursor) → passes opened (here s c) ≡ true → remaining opened s c ≡ remaining opened s (over c (here s c))
  unfolding frames_of
  remaining_over c e =
      let goes = passed_on opened (here s c) e in
      ap frames_of (steps_go opened s c.at goes)
      ∙ passed_no_frame opened (here s c) (frames_of (steps opened s (ends s c.at))) e
      ∙ ap (λ (p : ℕ). frames_of (steps opened s p)) (sym (over_ends s small opened c goes))

  says_by : {c : Cursor} {n : Next.Next} → Answered opened s c n → c.at ≤ length s → Says opened s (remaining opened s c) n
  unfolding frames_of
  says_by (pass {c = c} {n = n} e rest) h =
      subst⁻¹ (λ (fs : List Frame). Says opened s fs n) (remaining_over c e) (says_by rest (over_further s small opened c (passed_on opened (here s c) e)).1)
  says_by (end {c = c} e) h = at (here s c) refl e
    where
      at : (x : Step) → here s c ≡ x → passes opened x ≡ false → Says opened s (remaining opened s c) (ended c x)
      at Finished q e = (ap frames_of (steps_stop opened s c.at (ap (stops opened) q)), omega (arith, at_end s c.at (ap (stops false) q)))
      at Junk q e = absurd (true≢false e)
      at (Short n) q e =
          let open_reading = not-false opened e in
          (ap frames_of (steps_stop opened s c.at (ap (stops opened) q ∙ open_reading)), q, open_reading)
      at Bad q e = absurd (true≢false e)
      at (Found f) q e =
          let goes = ap (stops opened) q in
          ap frames_of (steps_go opened s c.at goes)
          ∙ ap₂ (λ (x : Step) (p : ℕ). frames_in x (frames_of (steps opened s p))) q (sym (over_ends s small opened c goes) ∙ ap (λ (x : Step). (over c x).at) q)

  pub says : (c : Cursor) → c.opened ≡ opened → c.at ≤ length s → Says opened s (remaining opened s c) (next_of s c)
  says c m h = says_by (answered s small opened c m) h

  -- ---- both, of what next answered

  pub said : {c : Cursor} {n : Next.Next} → Honest opened s c → next_of s c ≡ n → Says opened s (remaining opened s c) n × Honest opened s (after n)
  said {c} h e = (subst (Says opened s (remaining opened s c)) e (says c h.mode h.inside), subst (λ (n : Next.Next). Honest opened s (after n)) e (honest_after (answered s small opened c h.mode) h))

  -- when no frame is left the counts are those of the whole reading
  pub honest_end : {c d : Cursor} → Honest opened s c → next_of s c ≡ Next.TheVariants.End d → counts_in d ≡ counts_of (steps opened s 0)
  honest_end {d = d} h e = let all = said h e in honest_counts s small opened d all.1 (past_end s d.at opened (omega (arith, all.0.1)))

  honest_needs : {c d : Cursor} {n : ℕ} → Honest opened s c → next_of s c ≡ Next.TheVariants.Needs n d → counts_in d ≡ counts_of (steps opened s 0)
  honest_needs {d = d} h e = let all = said h e in honest_counts s small opened d all.1 (ap (stops opened) all.0.1 ∙ all.0.2)

  -- ---- calls of next from the start on

  -- the frames handed out and those left are the frames of the whole reading
  pub led : {fs : List Frame} {c : Cursor} → Led opened s fs c → Honest opened s c × (fs ++ remaining opened s c ≡ frames_of (steps opened s 0))
  led start = (honest_begun s small opened, refl)
  led (more {fs = fs} {d = d} {f = f} l e) =
      let before = led l in
      let now = said before.0 e in
      (now.1, append_assoc fs (f ∷ []) (remaining opened s d) ∙ ap (λ (gs : List Frame). fs ++ gs) (sym now.0) ∙ before.1)

  -- when none is left, all were handed out
  all_handed : {fs : List Frame} {c : Cursor} → Led opened s fs c → remaining opened s c ≡ [] → fs ≡ frames_of (steps opened s 0)
  all_handed {fs} l none = sym (append-nil fs) ∙ ap (λ (gs : List Frame). fs ++ gs) (sym none) ∙ (led l).1

  pub led_end : {fs : List Frame} {c d : Cursor} → Led opened s fs c → next_of s c ≡ Next.TheVariants.End d
      → (fs ≡ frames_of (steps opened s 0)) × (counts_in d ≡ counts_of (steps opened s 0))
  led_end l e = let h = (led l).0 in (all_handed l (said h e).0.0, honest_end h e)

  pub led_needs : {fs : List Frame} {c d : Cursor} {n : ℕ} → Led opened s fs c → next_of s c ≡ Next.TheVariants.Needs n d
      → (fs ≡ frames_of (steps opened s 0)) × (counts_in d ≡ counts_of (steps opened s 0))
  led_needs l e = let h = (led l).0 in (all_handed l (said h e).0.0, honest_needs h e)
