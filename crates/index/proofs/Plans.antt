-- Whether a list has room: frames counted one by one, or no more than one for each 8 bytes.
use Rattle.std.proofs.Common.{◌≡◌, ℕ, suc, ◌+◌, ◌-◌, ◌/◌, ◌^◌, ◌<◌, ◌≤◌, Bool, true, false, leb, List, length, sym, refl, ap, ◌∙◌, arith, le-leb, leb-false, leb-true}
use borrow.Author.Tests.{lt-leb}
use Rattle.frames.specs.Cursors.{next_of}
use Rattle.frames.specs.declared.step.Frame.{Frame}
use Rattle.frames.specs.declared.cursor.Cursor.{Cursor}
use Rattle.frames.specs.declared.cursor.Next as Next
use Rattle.refusals.specs.Refusals.{Answer, given, refused, leaves, zero_or}
use Rattle.index.specs.Index.{frames_from, entries_from, extended, written, extend_in, index_after, entries_after}
use Rattle.index.specs.declared.entry.Entry.{Entry}
use Rattle.index.specs.Inner.{cursor_at}
use Rattle.index.specs.declared.index.Index.{Index}
use Rattle.index.proofs.Onward.{few_frames, told_frame, told_end, told_needs}

module _ (s : List ℕ) (small : length s < 2 ^ 64) (p : ℕ) (inside : p ≤ length s) where
  module _ {f : Frame} {c : Cursor} (e : next_of s (cursor_at p) ≡ Next.TheVariants.Frame f c) where
    counted_one : length (frames_from s p) ≡ suc (length (frames_from s c.at))
    counted_one = ap length (told_frame s small p inside e).0

    pub one_too_many : {left : ℕ} → left ≡ 0 → leb (length (frames_from s p)) left ≡ false
    one_too_many {left} q = lt-leb (length (frames_from s p)) left (omega (arith, counted_one))

    pub one_taken : (c.at ≤ length s) × ((left : ℕ) → (left ≡ 0 → ⊥) → leb (length (frames_from s p)) left ≡ leb (length (frames_from s c.at)) (left - 1))
    one_taken = ((told_frame s small p inside e).2, λ left some. by left some (leb (length (frames_from s c.at)) (left - 1)) refl)
      where
        by : (left : ℕ) → (left ≡ 0 → ⊥) → (t : Bool) → leb (length (frames_from s c.at)) (left - 1) ≡ t → leb (length (frames_from s p)) left ≡ t
        by left some true q = le-leb (length (frames_from s p)) left (omega (arith, counted_one, leb-true (length (frames_from s c.at)) (left - 1) q))
        by left some false q = lt-leb (length (frames_from s p)) left (omega (arith, counted_one, leb-false (length (frames_from s c.at)) (left - 1) q))

  pub none_left : (left : ℕ) (n : Next.Next) → next_of s (cursor_at p) ≡ n → ((f : Frame) (c : Cursor) → n ≡ Next.TheVariants.Frame f c → ⊥)
      → leb (length (frames_from s p)) left ≡ true
  none_left left (Next.TheVariants.Frame f c) e not = absurd (not f c refl)
  none_left left (Next.TheVariants.End c) e not = le-leb (length (frames_from s p)) left (omega (arith, ap length (told_end s small p inside e).0))
  none_left left (Next.TheVariants.Needs n c) e not = le-leb (length (frames_from s p)) left (omega (arith, ap length (told_needs s small p inside e).0))

module _ (s : List ℕ) (most held p : ℕ) (inside : p ≤ length s) where
  pub too_short : most < held → leb (held + length (frames_from s p)) most ≡ false
  too_short h = lt-leb (held + length (frames_from s p)) most (omega arith)

  -- one for each 8 bytes that are left
  pub roomy_enough : held ≤ most → (length s - p) / 8 ≤ most - held → leb (held + length (frames_from s p)) most ≡ true
  roomy_enough h g = le-leb (held + length (frames_from s p)) most (omega (arith, few_frames s p inside))

  pub as_measured : held ≤ most → leb (length (frames_from s p)) (most - held) ≡ leb (held + length (frames_from s p)) most
  as_measured h = by (leb (length (frames_from s p)) (most - held)) refl
    where
      by : (t : Bool) → leb (length (frames_from s p)) (most - held) ≡ t → t ≡ leb (held + length (frames_from s p)) most
      by true e = sym (le-leb (held + length (frames_from s p)) most (omega (arith, leb-true (length (frames_from s p)) (most - held) e)))
      by false e = sym (lt-leb (held + length (frames_from s p)) most (omega (arith, leb-false (length (frames_from s p)) (most - held) e)))

-- ---- what extending answers, test by test

module _ (x : Index) (s : List ℕ) (most : ℕ) where
  pub answers_52 : length s < x.reached → extend_in x s most ≡ refused 52
  unfolding extend_in
  answers_52 h = rw (lt-leb x.reached (length s) h)

  module _ (inside : x.reached ≤ length s) where
    pub answers_51 : leb (x.held + length (frames_from s x.reached)) most ≡ false → extend_in x s most ≡ refused 51
    unfolding extend_in
    answers_51 e = rw (le-leb x.reached (length s) inside, e)

    pub extends : leb (x.held + length (frames_from s x.reached)) most ≡ true → extend_in x s most ≡ given (extended s x)
    unfolding extend_in
    extends e = rw (le-leb x.reached (length s) inside, e)

-- and what it leaves
module _ (x : Index) (s : List ℕ) (list : List Entry) where
  abbrev Leaves : ℕ → Index → List Entry → Type 0
  Leaves n after left = (n ≡ zero_or (extend_in x s (length list))) × (after ≡ index_after x s (length list)) × (left ≡ entries_after x s list)

  abbrev list_left : Answer Index → List Entry
  list_left a = leaves (λ new. written x.held (entries_from s x.reached)) a list

  pub kept : {n : ℕ} → extend_in x s (length list) ≡ refused n → Leaves n x list
  kept e = (ap zero_or (sym e), ap (λ (a : Answer Index). leaves (λ (new old : Index). new) a x) (sym e), ap list_left (sym e))

  pub gone_on : {after : Index} {left : List Entry} → extend_in x s (length list) ≡ given (extended s x) → after ≡ extended s x
      → left ≡ written x.held (entries_from s x.reached) list → Leaves 0 after left
  gone_on e p q = (ap zero_or (sym e), p ∙ ap (λ (a : Answer Index). leaves (λ (new old : Index). new) a x) (sym e), q ∙ ap list_left (sym e))
