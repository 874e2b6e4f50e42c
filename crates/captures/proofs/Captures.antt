-- Collating a whole capture: what the loop of `collate` keeps, and what its answer is: the end state of the capture's frames, and for each
-- place the number of its sender's reports.
use Rattle.std.proofs.Common.{◌≡◌, ℕ, zero, suc, pred, ◌+◌, ◌%◌, ◌^◌, ◌<◌, ◌≤◌, Bool, true, false, cond, eqb, List, [], ◌∷◌, map, length, get_or, replicate, sym, refl, ap, ◌∙◌, ap₂, arith, length-set, get_or-set_other, get_or-set_same, eq-eqb, ne_eqb, eqb-true}
use lib.ListN.{length-map, get_or-replicate}
use borrow.Author.Tests.{eqb-false}
use Rattle.frames.specs.Step.{step_of, passed, payload_in}
use Rattle.frames.specs.Reading.{Positioned, stops, read_from, frames_in, frames_of}
use Rattle.frames.specs.Cursors.{next_of}
use Rattle.frames.specs.Cursors as cursors
use Rattle.frames.specs.declared.step.Frame.{Frame}
use Rattle.frames.specs.declared.step.Step.{Step}
use Rattle.frames.specs.declared.step.Step.TheVariants.{Finished, Junk, Short, Bad, Found}
use Rattle.frames.specs.declared.cursor.Cursor.{Cursor}
use Rattle.frames.specs.declared.cursor.Next as Next
use Rattle.frames.proofs.CursorLoops.{Walking, left, never_needs, walking_begun, walking_on, walking_end}
use Rattle.epochs.specs.Search.{seat_of, repeats}
use Rattle.epochs.specs.Collator.{roster_of, fed_frame, made}
use Rattle.epochs.specs.Epoch.{after, outcomes, report_in, reports, reports_of, content_in, contents_of}
use Rattle.frames.specs.Frame.{Content}
use Rattle.captures.specs.Capture.{begun, one_more, counted, fed_into, fed_all, collated}
use Rattle.std.specs.Prelude.{Option, Some, None}
use Rattle.epochs.specs.declared.collating.Collator.{Collator}
use Rattle.epochs.specs.Fed.{Fed}
use Rattle.epochs.specs.Fed.{Made}
use Rattle.epochs.specs.declared.collating.Report.{Report}
use Rattle.epochs.specs.Happened.{Happened}
use Rattle.epochs.specs.Happened as H
use Rattle.captures.specs.Collated.{Collated}
use Rattle.epochs.proofs.Searches.{seat_named, seat_own, seat_below}
use Rattle.epochs.proofs.Making.{seated, made_seated}
use Rattle.epochs.proofs.Feeding.{fed_lists}
use Rattle.epochs.proofs.Senders.{roster_kept}

-- ---- the roster's answer

module _ (s roster : List ℕ) {m : Made} (e : m ≡ made roster) where
  pub collated_refused : (m.number ≡ 0 → ⊥) → begun m ≡ collated s roster
  unfolding collated
  collated_refused h = rw (sym e, ne_eqb m.number 0 h)

  pub collated_fed : m.number ≡ 0 → collated s roster ≡ fed_all (begun m) (contents_of s)
  unfolding collated
  collated_fed h = rw (sym e, eq-eqb m.number 0 h)

-- ---- one frame

pub fed_into_lem : (t : Collated) (x : Content) {f : Fed} {ns : List ℕ} → f ≡ fed_frame t.collator x → ns ≡ counted t.collator f.happened t.reports
    → record { number = t.number; collator = f.collator; reports = ns } ≡ fed_into t x
fed_into_lem t x {f} e q =
    ap {B = Collated} (λ (ns : List ℕ). record { number = t.number; collator = f.collator; reports = ns }) q
    ∙ ap {B = Collated} (λ (f : Fed). record { number = t.number; collator = f.collator; reports = counted t.collator f.happened t.reports }) e

-- ---- what the loop keeps

-- the frames that are left, fed to the state, make the end
pub record Going (s : List ℕ) (end t : Collated) (fs : List Frame) : Type 0 where
  pub rest : end ≡ fed_all t (map (content_in s) fs)

module _ (s : List ℕ) (small : length s < 2 ^ 64) where
  pub going_begun : (end t : Collated) {c : Cursor} → end ≡ fed_all t (contents_of s) → c ≡ cursors.begun false → Walking s (Going s end t) c
  unfolding contents_of
  going_begun end t e b = walking_begun s small (Going s end t) (record { rest = e }) b

  -- a frame is fed
  pub going_on : {end t : Collated} {c : Cursor} → Walking s (Going s end t) c → {f : Frame} {d : Cursor} {u : Collated} {payload : List ℕ} → next_of s c ≡ Next.TheVariants.Frame f d
      → payload ≡ payload_in s f → u ≡ fed_into t (record { kind = f.kind; sender = f.sender; payload = payload }) → Walking s (Going s end u) d
  unfolding fed_all
  going_on {t = t} going {f} {d} e p q =
      let state = q ∙ ap (λ (payload : List ℕ). fed_into t (record { kind = f.kind; sender = f.sender; payload = payload })) p in
      walking_on s small going e (λ r. record { rest = r.rest ∙ ap (λ (t : Collated). fed_all t (map (content_in s) (left s d))) (sym state) })

  -- or there is none left
  pub going_end : {end t : Collated} {c d : Cursor} → Walking s (Going s end t) c → next_of s c ≡ Next.TheVariants.End d → t ≡ end
  unfolding fed_all
  going_end going e = sym (walking_end s small going e).rest

  pub going_done : {end t : Collated} {c : Cursor} → Walking s (Going s end t) c → ((f : Frame) (d : Cursor) → next_of s c ≡ Next.TheVariants.Frame f d → ⊥) → t ≡ end
  going_done {end} {t} {c} going none = by (next_of s c) refl
    where
      by : (next : Next.Next) → next_of s c ≡ next → t ≡ end
      by (Next.TheVariants.Frame f d) e = absurd (none f d e)
      by (Next.TheVariants.End d) e = going_end going e
      by (Next.TheVariants.Needs n d) e = absurd (never_needs s small going.honest e)

-- ---- what the answer is

-- the frames are fed one after the other
pub fed_after : (t : Collated) (xs : List Content) → (fed_all t xs).collator ≡ after t.collator xs
unfolding fed_all after
fed_after t [] = refl
fed_after t (x ∷ xs) = fed_after (fed_into t x) xs

-- one sender's count: each of its reports adds one, and no other
module _ (roster : List ℕ) (once : repeats roster ≡ false) (few : length roster ≤ 8) (i : ℕ) (below : i < length roster) where
  abbrev sender : ℕ
  sender = get_or roster i 0

  one_counted : (c : Collator) → roster_of c ≡ roster → (h : Happened) (ns : List ℕ) → length ns ≡ 8 → get_or ns i 0 + 1 < 2 ^ 64 → (rs : List Report)
      → get_or (counted c h ns) i 0 + length (reports_of sender rs) ≡ get_or ns i 0 + length (reports_of sender (report_in h rs))
  unfolding reports_of
  one_counted c e (H.Refused n) ns size h rs = refl
  one_counted c e H.Taken ns size h rs = refl
  one_counted c e (H.Epoch r) ns size h rs = by (eqb r.sender sender) refl
    where
      own_seat : r.sender ≡ sender → seat_of (roster_of c) r.sender 0 ≡ Some i
      own_seat q = ap₂ (λ (l : List ℕ) (s : ℕ). seat_of l s 0) e q ∙ seat_own roster i once below

      other : (x : Option ℕ) → seat_of roster r.sender 0 ≡ x → (r.sender ≡ sender → ⊥) → get_or (one_more ns x) i 0 ≡ get_or ns i 0
      other None q d = refl
      other (Some j) q d =
          get_or-set_other ns j i ((get_or ns j 0 + 1) % 2 ^ 64) 0 (λ k. d (sym (seat_named roster r.sender q) ∙ ap (λ (k : ℕ). get_or roster k 0) (sym k)))

      by : (t : Bool) → eqb r.sender sender ≡ t
          → get_or (one_more ns (seat_of (roster_of c) r.sender 0)) i 0 + length (reports_of sender rs) ≡ get_or ns i 0 + length (cond t (r ∷ reports_of sender rs) (reports_of sender rs))
      by true q =
          let more : get_or (one_more ns (seat_of (roster_of c) r.sender 0)) i 0 ≡ (get_or ns i 0 + 1) % 2 ^ 64
          = ap (λ (x : Option ℕ). get_or (one_more ns x) i 0) (own_seat (eqb-true _ _ q)) ∙ get_or-set_same ns i ((get_or ns i 0 + 1) % 2 ^ 64) 0 (omega arith) in
          omega arith
      by false q =
          let same : get_or (one_more ns (seat_of (roster_of c) r.sender 0)) i 0 ≡ get_or ns i 0
          = ap (λ (l : List ℕ). get_or (one_more ns (seat_of l r.sender 0)) i 0) e ∙ other (seat_of roster r.sender 0) refl (eqb-false _ _ q) in
          omega arith

  counted_size : (c : Collator) (h : Happened) (ns : List ℕ) → length (counted c h ns) ≡ length ns
  counted_size c (H.Refused n) ns = refl
  counted_size c H.Taken ns = refl
  counted_size c (H.Epoch r) ns = by (seat_of (roster_of c) r.sender 0)
    where
      by : (x : Option ℕ) → length (one_more ns x) ≡ length ns
      by None = refl
      by (Some j) = length-set ns j ((get_or ns j 0 + 1) % 2 ^ 64)

  -- a frame makes at most one report
  one_report : (h : Happened) → length (reports_of sender (report_in h [])) ≤ 1
  unfolding reports_of
  one_report (H.Refused n) = omega arith
  one_report H.Taken = omega arith
  one_report (H.Epoch r) = by (eqb r.sender sender)
    where
      by : (t : Bool) → length (cond t (r ∷ []) []) ≤ 1
      by true = omega arith
      by false = omega arith

  all_counted : (t : Collated) → roster_of t.collator ≡ roster → length t.reports ≡ 8 → (xs : List Content) → get_or t.reports i 0 + length xs < 2 ^ 64
      → get_or (fed_all t xs).reports i 0 ≡ get_or t.reports i 0 + length (reports_of sender (reports t.collator xs))
  unfolding fed_all outcomes reports_of
  all_counted t e size [] h = omega arith
  all_counted t e size (x ∷ xs) h =
      let c = t.collator in
      let f = fed_frame c x in
      let fits : get_or t.reports i 0 + 1 < 2 ^ 64 = omega arith in
      let one = one_counted c e f.happened t.reports size fits [] in
      let next : get_or (counted c f.happened t.reports) i 0 + length xs < 2 ^ 64 = omega (arith, one, one_report f.happened) in
      all_counted (fed_into t x) (fed_lists c x ∙ e) (counted_size c f.happened t.reports ∙ size) xs next
      ∙ one_counted c e f.happened t.reports size fits (reports f.collator xs)

-- a place that the roster does not reach counts nothing
module _ (roster : List ℕ) (i : ℕ) (past : length roster ≤ i) where
  one_idle : (c : Collator) → roster_of c ≡ roster → (h : Happened) (counts : List ℕ) → get_or (counted c h counts) i 0 ≡ get_or counts i 0
  one_idle c e (H.Refused n) counts = refl
  one_idle c e H.Taken counts = refl
  one_idle c e (H.Epoch r) counts = by (seat_of (roster_of c) r.sender 0) refl
    where
      by : (seat : Option ℕ) → seat_of (roster_of c) r.sender 0 ≡ seat → get_or (one_more counts seat) i 0 ≡ get_or counts i 0
      by None q = refl
      by (Some j) q =
          let below = (seat_below (roster_of c) r.sender 0 q).1 in
          get_or-set_other counts j i _ 0 (λ same. omega (arith, below, ap length e, past, same))

  all_idle : (t : Collated) → roster_of t.collator ≡ roster → (xs : List Content) → get_or (fed_all t xs).reports i 0 ≡ get_or t.reports i 0
  unfolding fed_all
  all_idle t e [] = refl
  all_idle t e (x ∷ xs) = all_idle (fed_into t x) (fed_lists t.collator x ∙ e) xs ∙ one_idle t.collator e (fed_frame t.collator x).happened t.reports

-- a capture has no more frames than bytes
frames_few : (opened : Bool) (k p : ℕ) (t : List ℕ) → length (frames_of (read_from opened k p t)) ≤ length t
unfolding read_from frames_of
frames_few opened k p [] = omega arith
frames_few opened zero p (b ∷ t) = by (stops opened (step_of p (b ∷ t))) (step_of p (b ∷ t)) (read_from opened (pred (passed (step_of p (b ∷ t)))) (suc p) t) (frames_few opened (pred (passed (step_of p (b ∷ t)))) (suc p) t)
  where
    one : (x : Step) (fs : List Frame) → length (frames_in x fs) ≤ suc (length fs)
    one Finished fs = omega arith
    one Junk fs = omega arith
    one (Short n) fs = omega arith
    one Bad fs = omega arith
    one (Found f) fs = omega arith

    by : (stop : Bool) (x : Step) (rest : List Positioned) → length (frames_of rest) ≤ length t → length (frames_of (cond stop [] (record { at = p; step = x } ∷ rest))) ≤ suc (length t)
    by true x rest h = omega arith
    by false x rest h = omega (arith, one x (frames_of rest))
frames_few opened (suc k) p (b ∷ t) = omega (arith, frames_few opened k (suc p) t)

fed_number : (t : Collated) (xs : List Content) → (fed_all t xs).number ≡ t.number
unfolding fed_all
fed_number t [] = refl
fed_number t (x ∷ xs) = fed_number (fed_into t x) xs

-- fed or not, the number is the roster's
pub collated_number : (s roster : List ℕ) → (collated s roster).number ≡ (made roster).number
unfolding collated
collated_number s roster = by (eqb (made roster).number 0)
  where
    by : (t : Bool) → (cond t (fed_all (begun (made roster)) (contents_of s)) (begun (made roster))).number ≡ (made roster).number
    by true = fed_number (begun (made roster)) (contents_of s)
    by false = refl

none_of : (n i : ℕ) → ◌≡◌ {A = ℕ} (get_or (replicate n 0) i 0) 0
none_of zero i = refl
none_of (suc n) zero = refl
none_of (suc n) (suc i) = none_of n i

module _ (s roster : List ℕ) (ok : (made roster).number ≡ 0) where
  whole : collated s roster ≡ fed_all (begun (made roster)) (contents_of s)
  whole = collated_fed s roster refl ok

  -- the end state is that of the capture's frames
  pub collated_state : (collated s roster).collator ≡ after (made roster).collator (contents_of s)
  collated_state = ap (λ (t : Collated). t.collator) whole ∙ fed_after (begun (made roster)) (contents_of s)

  pub collated_idle : (i : ℕ) → length roster ≤ i → get_or (collated s roster).reports i 0 ≡ 0
  collated_idle i past =
      let is = seated roster ok in
      let listed : roster_of (made roster).collator ≡ roster = ap roster_of (made_seated roster is) ∙ roster_kept roster is.few (λ (k : ℕ). []) in
      ap (λ (t : Collated). get_or t.reports i 0) whole ∙ all_idle roster i past (begun (made roster)) listed (contents_of s) ∙ none_of 8 i

  -- and each place's count is the number of its sender's reports
  pub collated_counts : length s < 2 ^ 64 → (i : ℕ) → i < length roster
      → get_or (collated s roster).reports i 0 ≡ length (reports_of (get_or roster i 0) (reports (made roster).collator (contents_of s)))
  unfolding contents_of
  collated_counts small i below =
      let is = seated roster ok in
      let listed : roster_of (made roster).collator ≡ roster
      = ap roster_of (made_seated roster is) ∙ roster_kept roster is.few (λ (k : ℕ). []) in
      let none : ◌≡◌ {A = ℕ} (get_or (replicate 8 0) i 0) 0 = get_or-replicate 8 i 0 0 (omega (arith, is.few)) in
      let frames : length (contents_of s) ≤ length s = rw length-map (frames_few false 0 0 s) in
      let sum = all_counted roster is.once is.few i below (begun (made roster)) listed refl (contents_of s) (omega arith) in
      ap (λ (t : Collated). get_or t.reports i 0) whole ∙ sum ∙ (omega arith)
