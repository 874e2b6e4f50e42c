-- A call that begins with counts answers what it answers without them, with these in front; and what a call counts is no more than it goes on by.
use mathlib.Core.Path.{◌≡◌, refl, sym, ap, ◌∙◌, subst}
use mathlib.Core.Bool.{true, false}
use mathlib.Core.List.{List}
use Prim.Native.Nat.{ℕ, ◌+◌, ◌%◌, ◌^◌, ◌≤◌, ◌<◌}
use native.Mathlib.Nat.{add_assoc, mod-le, mod-add-mod, add-mod-mod}
use native.Mathlib.Omega.{arith}
use lib.ListN.{length}
use Rattle.frames.specs.Step.{passed}
use Rattle.frames.specs.Reading.{stops, counted, sum_of}
use Rattle.frames.specs.Cursors.{counts_in, plus, over, ended, next_of, after}
use Rattle.frames.specs.declared.step.Step.{Step}
use Rattle.frames.specs.declared.step.Step.TheVariants.{Finished, Junk, Short, Bad, Found}
use Rattle.frames.specs.declared.cursor.Counts.{Counts}
use Rattle.frames.specs.declared.cursor.Cursor.{Cursor}
use Rattle.frames.specs.declared.cursor.Next as Next
use Rattle.frames.proofs.Tiling.{counted_sum}
use Rattle.frames.proofs.GoingOn.{here, Answered, pass, end, passed_on, over_ends, over_further, answered, next_given, next_kept}
use Rattle.frame_rows.specs.Found.{start_at}
use Rattle.demands.specs.RowsStay.{open_next}

abbrev pub ahead : Counts → Cursor → Cursor
ahead k c =
    record { at = c.at; opened = c.opened; framed = plus k.framed c.framed; junk = plus k.junk c.junk; bad = plus k.bad c.bad; short = plus k.short c.short }

abbrev pub ahead_in : Counts → Next.Next → Next.Next
ahead_in k (Next.TheVariants.Frame f c) = Next.TheVariants.Frame f (ahead k c)
ahead_in k (Next.TheVariants.End c) = Next.TheVariants.End (ahead k c)
ahead_in k (Next.TheVariants.Needs n c) = Next.TheVariants.Needs n (ahead k c)

plus_assoc : (a b c : ℕ) → plus (plus a b) c ≡ plus a (plus b c)
plus_assoc a b c = mod-add-mod (a + b) (2 ^ 64) c ∙ ap (λ (n : ℕ). n % 2 ^ 64) (add_assoc a b c) ∙ sym (add-mod-mod a (b + c) (2 ^ 64))

-- they stay in front of what a step counts
over_ahead : (k : Counts) (c : Cursor) (x : Step) → over (ahead k c) x ≡ ahead k (over c x)
over_ahead k c x = λ i. record {
  at = plus c.at (passed x);
  opened = c.opened;
  framed = plus_assoc k.framed c.framed (counted x).framed i;
  junk = plus_assoc k.junk c.junk (counted x).junk i;
  bad = plus_assoc k.bad c.bad (counted x).bad i;
  short = plus_assoc k.short c.short (counted x).short i;
}

ended_ahead : (k : Counts) (c : Cursor) (x : Step) → ended (ahead k c) x ≡ ahead_in k (ended c x)
ended_ahead k c Finished = refl
ended_ahead k c Junk = refl
ended_ahead k c (Short n) = refl
ended_ahead k c Bad = refl
ended_ahead k c (Found f) = ap (λ (d : Cursor). Next.TheVariants.Frame f d) (over_ahead k c (Found f))

module _ (t : List ℕ) (small : length t < 2 ^ 64) where
  -- a call answers the same, with these counts in front
  answer_ahead : (k : Counts) {c : Cursor} {n : Next.Next} → Answered true t c n → c.opened ≡ true → next_of t (ahead k c) ≡ ahead_in k n
  answer_ahead k (pass {c = c} e rest) m =
      sym (next_kept t small (ahead k c) {x = here t c} refl refl (rw m e)) ∙ ap (next_of t) (over_ahead k c (here t c)) ∙ answer_ahead k rest m
  answer_ahead k (end {c = c} e) m = sym (next_given t small (ahead k c) {x = here t c} refl (rw m e) (sym (ended_ahead k c (here t c))))

  pub next_ahead : (k : Counts) (c : Cursor) → c.opened ≡ true → next_of t (ahead k c) ≡ ahead_in k (next_of t c)
  next_ahead k c m = answer_ahead k (answered t small true c m) m

  -- a call counts no more than it goes on by, and stays within the capture
  abbrev pub Bounded : ℕ → Cursor → Type 0
  Bounded q c = (sum_of (counts_in c) + q ≤ c.at) × (c.at ≤ length t)

  bounded_over : (q : ℕ) (c : Cursor) → stops true (here t c) ≡ false → Bounded q c → Bounded q (over c (here t c))
  bounded_over q c e h =
      let x = here t c in
      let k = counted x in
      let framed = mod-le (c.framed + k.framed) (2 ^ 64) in
      let junk = mod-le (c.junk + k.junk) (2 ^ 64) in
      let bad = mod-le (c.bad + k.bad) (2 ^ 64) in
      let short = mod-le (c.short + k.short) (2 ^ 64) in
      (omega (arith, framed, junk, bad, short, h.0, counted_sum x, over_ends t small true c e), (over_further t small true c e).1)

  bounded_by : (q : ℕ) {c : Cursor} {n : Next.Next} → Answered true t c n → Bounded q c → Bounded q (after n)
  bounded_by q (pass {c = c} e rest) h = bounded_by q rest (bounded_over q c (passed_on true (here t c) e) h)
  bounded_by q (end {c = c} e) h = at (here t c) refl
    where
      at : (x : Step) → here t c ≡ x → Bounded q (after (ended c x))
      at Finished e = h
      at Junk e = h
      at (Short n) e = h
      at Bad e = h
      at (Found f) e = subst (λ (x : Step). Bounded q (over c x)) e (bounded_over q c (ap (stops true) e) h)

  pub bounded : (at : ℕ) → at ≤ length t → Bounded at (after (open_next t at))
  bounded at h = bounded_by at (answered t small true (start_at at true) refl) (omega arith, h)
