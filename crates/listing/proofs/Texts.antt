-- A listing put into a buffer line by line: what the loop of `put_text` keeps, and what `list` answers.
use mathlib.Core.Path.{◌≡◌, sym, ap, ap₂, ◌∙◌, subst}
use mathlib.Core.Bool.{true, false}
use mathlib.Core.List.{List, [], ◌++◌, append_assoc, map}
use Prim.Native.Nat.{ℕ, ◌+◌, ◌%◌, ◌^◌, ◌≤◌, ◌<◌}
use native.Mathlib.Omega.{arith}
use lib.Dec.{leb}
use lib.ListN.{length, drop}
use lib.Seq.{sets, sets-eq, length-sets}
use borrow.Author.Tests.{le-leb, lt-leb, leb-true}
use Rattle.wire.specs.Number.{bytes_stored}
use Rattle.refusals.specs.Refusals.{refused, given, Answer, leaves}
use Rattle.frame_writer.specs.Writer.{starting_with}
use Rattle.frames.specs.Step.{payload_in}
use Rattle.frames.specs.Reading.{closed_steps, frames_of}
use Rattle.frames.specs.Cursors.{next_of, counts_in}
use Rattle.frames.specs.Cursors as cursors
use Rattle.frames.specs.declared.step.Frame.{Frame}
use Rattle.frames.specs.declared.cursor.Counts.{Counts}
use Rattle.frames.specs.declared.cursor.Cursor.{Cursor}
use Rattle.frames.specs.declared.cursor.Next as Next
use Rattle.frames.proofs.CursorLoops.{Walking, left, walking_begun, walking_on, walking_end, end_counts}
use Rattle.payloads.specs.Payloads.{answer_for}
use Rattle.epochs.specs.Collator.{fed_frame, made}
use Rattle.epochs.specs.Epoch.{content_in, contents_of}
use Rattle.epochs.specs.declared.collating.Collator.{Collator}
use Rattle.epochs.specs.Fed.{Fed}
use Rattle.text.proofs.Pending.{Pending, pending_begun, pending_stored, pending_done, pending_last}
use Rattle.enlisting.specs.Enlisting.{enlisted_to, new_outcomes}
use Rattle.enlisting.proofs.Growing.{as_of_the_first}
use Rattle.listing.specs.Listing.{frame_line, totals_line, frames_text, text_of, most_listed, list_answer, with_listing}
use Rattle.lines.specs.Lines.{frame_shown, totals_shown, epoch_part}

-- ---- line by line

reassoc : (a b c d : List ℕ) → (a ++ (b ++ c)) ++ d ≡ a ++ (b ++ (c ++ d))
reassoc a b c d = append_assoc a (b ++ c) d ∙ ap (λ (t : List ℕ). a ++ t) (append_assoc b c d)

module _ (s buf : List ℕ) where
  -- the buffer has room for the whole text
  abbrev pub Room : Type 0
  Room = length (text_of s) ≤ length buf

  -- what is left of the text, at a place of the buffer
  abbrev pub Left : List ℕ → ℕ → List ℕ → Type 0
  Left now at rest = Pending Room (sets buf 0 (text_of s)) (length (text_of s)) now at rest

  -- the lines of the frames left, in a collator that enlists their senders as they come
  abbrev new_text : Collator → List Frame → List ℕ
  new_text c fs = frames_text s fs (new_outcomes c (map (content_in s) fs))

  -- they and the totals are left to be put
  pub record Putting (c : Collator) (now : List ℕ) (at : ℕ) (fs : List Frame) : Type 0 where
    pub pending : Left now at (new_text c fs ++ totals_line s)

  room : Room → length (text_of s) ≤ length (sets buf 0 (text_of s))
  room h = omega (arith, h, length-sets buf 0 (text_of s))

  module _ (small : length s < 2 ^ 64) (short : length (text_of s) < 2 ^ 64) where
    pub putting_begun : {c : Collator} {cur : Cursor} → c ≡ (made []).collator → cur ≡ cursors.begun false → Walking s (Putting c buf 0) cur
    unfolding contents_of
    putting_begun {c} e b =
        let zero_more : 0 + length (text_of s) ≡ length (text_of s) = omega arith in
        let all = subst (λ (end : ℕ). Pending Room (sets buf 0 (text_of s)) end buf 0 (text_of s)) zero_more (pending_begun Room buf 0 (text_of s)) in
        let same = ap (λ (c : Collator). new_text c (frames_of (closed_steps s))) e ∙ ap (frames_text s (frames_of (closed_steps s))) (as_of_the_first (contents_of s)).each in
        walking_begun s small (Putting c buf 0) (record { pending = subst (λ (t : List ℕ). Left buf 0 (t ++ totals_line s)) (sym same) all }) b

    -- a frame's line, then the line of the epoch that it ends
    pub putting_on : {c seated : Collator} {now : List ℕ} {at : ℕ} {cur d : Cursor} {f : Frame} {payload : List ℕ} {answer : ℕ} {fed : Fed} {mid after : List ℕ} {between to : ℕ}
        → Walking s (Putting c now at) cur → next_of s cur ≡ Next.TheVariants.Frame f d → payload ≡ payload_in s f → answer ≡ answer_for f.kind payload
        → between ≡ (at + length (frame_shown f answer)) % 2 ^ 64 → mid ≡ bytes_stored (frame_shown f answer) now at
        → seated ≡ enlisted_to c f.kind f.sender → fed ≡ fed_frame seated (record { kind = f.kind; sender = f.sender; payload = payload })
        → to ≡ (between + length (epoch_part fed.happened)) % 2 ^ 64 → after ≡ bytes_stored (epoch_part fed.happened) mid between → Walking s (Putting fed.collator after to) d
    unfolding frames_text new_outcomes
    putting_on {c} {seated} {now} {at} {d = d} {f} {payload} {answer} {fed} w e g a q1 e1 j k q2 e2 =
        walking_on s small w e
        (λ p.
        let rest = totals_line s in
        let h = fed_frame (enlisted_to c f.kind f.sender) (content_in s f) in
        let same : fed_frame seated (record { kind = f.kind; sender = f.sender; payload = payload }) ≡ h
        = ap₂ (λ (c : Collator) (p : List ℕ). fed_frame c (record { kind = f.kind; sender = f.sender; payload = p })) j g in
        let parts = subst (Left now at) (reassoc (frame_line s f) (epoch_part h.happened) (new_text h.collator (left s d)) rest) p.pending in
        let fed-parts = subst (λ (x : Fed). Left now at (frame_line s f ++ (epoch_part x.happened ++ (new_text x.collator (left s d) ++ rest)))) (sym (k ∙ same)) parts in
        let all-parts = subst (λ (n : ℕ). Left now at (frame_shown f n ++ (epoch_part fed.happened ++ (new_text fed.collator (left s d) ++ rest)))) (sym (a ∙ ap (answer_for f.kind) g)) fed-parts in
        let first = pending_stored (frame_shown f answer) (epoch_part fed.happened ++ (new_text fed.collator (left s d) ++ rest)) all-parts short room e1 q1 in
        record { pending = pending_stored (epoch_part fed.happened) (new_text fed.collator (left s d) ++ rest) first short room e2 q2 })

    -- the totals
    pub putting_end : {c : Collator} {now : List ℕ} {at : ℕ} {cur d : Cursor} {k : Counts} {after : List ℕ} {to : ℕ}
        → Walking s (Putting c now at) cur → next_of s cur ≡ Next.TheVariants.End d → k ≡ counts_in d
        → to ≡ (at + length (totals_shown (length s) k)) % 2 ^ 64 → after ≡ bytes_stored (totals_shown (length s) k) now at
        → (to ≡ length (text_of s)) × (Room → after ≡ sets buf 0 (text_of s))
    unfolding frames_text new_outcomes
    putting_end {now = now} {at} {k = k} w e q place stored =
        let counts = q ∙ end_counts s small w.honest e in
        let all = subst (λ (x : Counts). Left now at (totals_shown (length s) x)) (sym counts) (walking_end s small w e).pending in
        pending_done (pending_stored (totals_shown (length s) k) [] (pending_last (totals_shown (length s) k) all) short room stored place)

-- ---- what `list` answers

module _ (s buf : List ℕ) where
  abbrev pub Lists : Answer ℕ → List ℕ → Type 0
  Lists a after = (a ≡ list_answer s (length buf)) × (after ≡ with_listing s buf)

  -- a refusal changes nothing
  refuses : {n : ℕ} → refused n ≡ list_answer s (length buf) → Lists (refused n) buf
  refuses e = (e, ap (λ (a : Answer ℕ). leaves (starting_with (text_of s)) a buf) e)

  pub too_long : most_listed < length s → Lists (refused 11) buf
  unfolding list_answer
  too_long h = refuses answered
    where
      answered : refused 11 ≡ list_answer s (length buf)
      answered = rw (lt-leb (length s) most_listed h)

  module _ (short : length s ≤ most_listed) where
    pub no_room : leb (length (text_of s)) (length buf) ≡ false → Lists (refused 32) buf
    unfolding list_answer
    no_room e = refuses answered
      where
        answered : refused 32 ≡ list_answer s (length buf)
        answered = rw (le-leb (length s) most_listed short, e)

    pub text_put : {n : ℕ} {after : List ℕ} → leb (length (text_of s)) (length buf) ≡ true → n ≡ length (text_of s) → (Room s buf → after ≡ sets buf 0 (text_of s))
        → Lists (given n) after
    unfolding list_answer
    text_put {after = after} e size put =
        subst (λ (k : ℕ). Lists (given k) after) (sym size) (answered, put fits ∙ stored ∙ ap (λ (a : Answer ℕ). leaves (starting_with (text_of s)) a buf) answered)
      where
        fits : Room s buf
        fits = leb-true (length (text_of s)) (length buf) e

        answered : given (length (text_of s)) ≡ list_answer s (length buf)
        answered = rw (le-leb (length s) most_listed short, e)

        stored : sets buf 0 (text_of s) ≡ text_of s ++ drop (length (text_of s)) buf
        stored =
            let zero_more : 0 + length (text_of s) ≡ length (text_of s) = omega arith in
            sets-eq (text_of s) buf 0 (omega (arith, fits)) ∙ ap (λ (n : ℕ). text_of s ++ drop n buf) zero_more
