-- Whole collations, of a roster whose senders have their seats and any frames. Demand 2: each frame comes to an epoch exactly when it ends one, and
-- reports are read off that. Demand 3: the end state and each listed sender's reports depend on that sender's own frames alone, for frames and for
-- captures. Nothing here looks inside a packet or a step.
use mathlib.Core.Path.{◌≡◌, refl, sym, ap, ap₂, ◌∙◌, subst}
use mathlib.Core.Bool.{Bool, true, false, cond}
use mathlib.Core.List.{List, [], ◌∷◌, ◌++◌}
use mathlib.Core.Logic.{◌↔◌}
use Prim.Native.Nat.{ℕ, ◌≤◌}
use lib.Dec.{eqb}
use lib.ListN.{length, take, replicate}
use borrow.Author.Tests.{eqb-true, eqb-false, eq-eqb}
use Rattle.wire.specs.Number.{Bytes}
use Rattle.refusals.specs.Refusals.{refused, given, Answer, reply}
use Rattle.frames.specs.Frame.{Content}
use Rattle.packets.specs.Packet.{AllFormed}
use Rattle.packets.specs.declared.packet.Packet.{Packet}
use Rattle.packets.proofs.Recognitions.{formed, n_small}
use Rattle.groups.specs.Group.{left_open, stepping, ended_of}
use Rattle.std.specs.Prelude.{Option, Some, None}
use Rattle.groups.specs.declared.grouping.Stepped.{Stepped}
use Rattle.groups.proofs.StepCases.{not_whole}
use Rattle.groups.proofs.WholeGroups.{whole_epoch, total_small}
use Rattle.epochs.specs.Search.{names}
use Rattle.epochs.specs.Collator.{idle, outcome, came_to, fed_frame, made}
use Rattle.epochs.specs.Epoch.{own_packet, kept, packets_of, of_sender, history_of, after, outcomes, report_in, reports_in, reports, reports_of, EndsEpoch, CameTo, Epochs, none, ending, passing, Seated, SameFrames, contents_of}
use Rattle.epochs.specs.declared.collating.Place.{Place}
use Rattle.epochs.specs.declared.collating.Collator.{Collator}
use Rattle.epochs.specs.declared.collating.Report.{Report}
use Rattle.epochs.specs.Happened.{Happened}
use Rattle.epochs.specs.Happened as H
use Rattle.epochs.specs.Fed.{Fed}
use Rattle.epochs.proofs.Searches.{map-listed}
use Rattle.epochs.proofs.Making.{made_seated}
use Rattle.epochs.proofs.Feeding.{never_refused, never_taken, report_own}
use Rattle.epochs.proofs.Senders.{place_of, places_of, state_of, heard_by, comes_to, fresh_state, fed_listed, fed_unlisted, fed_state, after_state}

-- ---- what is kept of frames is well-formed

pub packets_formed : (xs : List Content) (past : List Packet) → AllFormed past → AllFormed (packets_of xs past)
unfolding packets_of
packets_formed [] past all = all
packets_formed (x ∷ xs) past all = packets_formed xs (kept (own_packet x) past) (one (own_packet x) refl)
  where
    one : (a : Answer Packet) → own_packet x ≡ a → AllFormed (kept a past)
    one (refused n) q = all
    one (given p) q = (formed x.kind x.payload q, all)

pub history_formed : (s : ℕ) (xs : List Content) → AllFormed (history_of s xs)
unfolding history_of
history_formed s xs = packets_formed (of_sender s xs) [] tt

pub same_report : {a b : Report} → H.Epoch a ≡ H.Epoch b → a ≡ b
same_report e = cc

pub after_one : (c : Collator) (xs : List Content) (x : Content) → after c (xs ++ x ∷ []) ≡ (fed_frame (after c xs) x).collator
unfolding after
after_one c [] x = refl
after_one c (y ∷ xs) x = after_one (fed_frame c y).collator xs x

-- ---- the epochs of frames, read off what each came to

module _ {roster : List ℕ} where
  pub epochs_in : (past xs : List Content) (hs : List Happened) → CameTo roster past xs hs → Epochs roster past xs (reports_in hs)
  epochs_in past [] (_ ∷ hs) c = elim c [ ]
  epochs_in past (x ∷ xs) [] c = elim c [ ]
  epochs_in past [] [] c = none
  epochs_in past (x ∷ xs) (H.Refused n ∷ hs) c = passing (λ e w. never_refused ((c.0 e).1 w)) (epochs_in (past ++ x ∷ []) xs hs c.1)
  epochs_in past (x ∷ xs) (H.Taken ∷ hs) c = passing (λ e w. never_taken ((c.0 e).1 w)) (epochs_in (past ++ x ∷ []) xs hs c.1)
  epochs_in past (x ∷ xs) (H.Epoch r ∷ hs) c = ending ((c.0 r).0 refl) (epochs_in (past ++ x ∷ []) xs hs c.1)

  pub only_epochs : {past xs : List Content} {es : List Report} → Epochs roster past xs es → (hs : List Happened) → CameTo roster past xs hs → es ≡ reports_in hs
  only_epochs (none {past = past}) (h ∷ hs) c = elim c [ ]
  only_epochs (ending {past = past} {xs = xs} {e = e} {es = es} w rest) [] c = elim c [ ]
  only_epochs (passing {past = past} {xs = xs} {es = es} never rest) [] c = elim c [ ]
  only_epochs none [] c = refl
  only_epochs (ending {e = e} w rest) (h ∷ hs) c = ap₂ report_in (sym ((c.0 e).1 w)) (only_epochs rest hs c.1)
  only_epochs (passing {es = es} never rest) (h ∷ hs) c = by h refl ∙ ap (report_in h) (only_epochs rest hs c.1)
    where
      by : (k : Happened) → h ≡ k → es ≡ report_in k es
      by (H.Refused n) q = refl
      by H.Taken q = refl
      by (H.Epoch e) q = absurd (never e ((c.0 e).0 q))

-- ---- the reports of one sender, from its own frames alone

unfoldable own_reports : ℕ → List Packet → List Content → List Report
own_reports s past [] = []
own_reports s past (x ∷ xs) = report_in (comes_to s past (own_packet x)) (own_reports s (kept (own_packet x) past) xs)

comes_own : (s : ℕ) (past : List Packet) (a : Answer Packet) (rs : List Report) → reports_of s (report_in (comes_to s past a) rs) ≡ report_in (comes_to s past a) (reports_of s rs)
unfolding reports_of
comes_own s past (refused n) rs = refl
comes_own s past (given p) rs = by_step (reply (stepping (left_open past) p))
  where
    by : (e : Option ℕ) → reports_of s (report_in (outcome s p e) rs) ≡ report_in (outcome s p e) (reports_of s rs)
    by None = refl
    by (Some t) = rw (eq-eqb s s refl)

    by_step : (a : Answer Stepped) → reports_of s (report_in (came_to s p a) rs) ≡ report_in (came_to s p a) (reports_of s rs)
    by_step (refused n) = refl
    by_step (given y) = by y.ended

module _ (roster : List ℕ) (is : Seated roster) where
  abbrev start : Collator
  start = (made roster).collator

  begun : (made roster).collator ≡ state_of roster (λ (s : ℕ). [])
  begun = made_seated roster is ∙ fresh_state roster is.few

  -- the end state is one place for each listed sender, made of that sender's own packets
  pub standing : (xs : List Content) → after (made roster).collator xs ≡ state_of roster (λ (s : ℕ). history_of s xs)
  unfolding history_of
  standing xs =
      ap (λ (c : Collator). after c xs) begun
      ∙ after_state roster is.few is.once xs (λ (s : ℕ). [])

  -- ---- demand 2

  module _ (xs : List Content) (x : Content) (e : Report) where
    abbrev past : ℕ → List Packet
    past s = history_of s xs

    formed_on : {p : Packet} → own_packet x ≡ given p → AllFormed (p ∷ past x.sender)
    formed_on q = (formed x.kind x.payload q, history_formed x.sender xs)

    -- a frame that is fed after others comes to an epoch exactly when it ends it
    pub epoch_outcome : ((fed_frame (after (made roster).collator xs) x).happened ≡ H.Epoch e) ↔ EndsEpoch roster xs x e
    epoch_outcome = (λ h. there (names roster x.sender) refl (sym at ∙ h), λ w. at ∙ back w)
      where
        at : (fed_frame (after start xs) x).happened ≡ (fed_frame (state_of roster past) x).happened
        at = ap (λ (c : Collator). (fed_frame c x).happened) (standing xs)

        listed_comes : names roster x.sender ≡ true → (fed_frame (state_of roster past) x).happened ≡ comes_to x.sender (past x.sender) (own_packet x)
        listed_comes n = ap (λ (f : Fed). f.happened) (fed_listed roster is.few is.once past x n)

        by_ended : names roster x.sender ≡ true → (p : Packet) → own_packet x ≡ given p → (d : Option ℕ) → ended_of (reply (stepping (left_open (past x.sender)) p)) ≡ d
            → outcome x.sender p d ≡ H.Epoch e → EndsEpoch roster xs x e
        by_ended n p q None r h = absurd (never_taken h)
        by_ended n p q (Some t) r h =
            record { packet = p; total = t; listed = n; formed = q; ends = (whole_epoch p (past x.sender) t (formed_on q)).0 r; report = sym (same_report h) }

        by_step : names roster x.sender ≡ true → (p : Packet) → own_packet x ≡ given p → (a : Answer Stepped) → reply (stepping (left_open (past x.sender)) p) ≡ a
            → came_to x.sender p a ≡ H.Epoch e → EndsEpoch roster xs x e
        by_step n p q (refused m) r h = absurd (never_refused h)
        by_step n p q (given y) r h = by_ended n p q y.ended (ap ended_of r) h

        by_own : names roster x.sender ≡ true → (a : Answer Packet) → own_packet x ≡ a → comes_to x.sender (past x.sender) a ≡ H.Epoch e → EndsEpoch roster xs x e
        by_own n (refused m) q h = absurd (never_refused h)
        by_own n (given p) q h = by_step n p q (reply (stepping (left_open (past x.sender)) p)) refl h

        there : (t : Bool) → names roster x.sender ≡ t → (fed_frame (state_of roster past) x).happened ≡ H.Epoch e → EndsEpoch roster xs x e
        there true n h = by_own n (own_packet x) refl (sym (listed_comes n) ∙ h)
        there false n h =
            let r = fed_unlisted roster is.few is.once past x n in
            absurd (never_refused (sym (ap (λ (f : Fed). f.happened) r.1) ∙ h))

        came_whole : (p : Packet) {t : ℕ} (a : Answer Stepped) → ended_of a ≡ Some t → came_to x.sender p a ≡ outcome x.sender p (Some t)
        came_whole p (refused n) w = absurd (not_whole w)
        came_whole p (given y) w = ap (outcome x.sender p) w

        back : EndsEpoch roster xs x e → (fed_frame (state_of roster past) x).happened ≡ H.Epoch e
        back w =
            listed_comes w.listed
            ∙ ap (comes_to x.sender (past x.sender)) w.formed
            ∙ came_whole w.packet (reply (stepping (left_open (past x.sender)) w.packet)) ((whole_epoch w.packet (past x.sender) w.total (formed_on w.formed)).1 w.ends)
            ∙ ap H.Epoch (sym w.report)

    -- with at most 225 observations, where the payload is of bytes
    pub epoch_small : Bytes x.payload → (fed_frame (after (made roster).collator xs) x).happened ≡ H.Epoch e → e.observations ≤ 225
    epoch_small bytes h =
        let w = epoch_outcome.0 h in
        let n = n_small x.kind x.payload w.formed bytes in
        subst (λ (r : Report). r.observations ≤ 225) (sym w.report) (total_small (formed_on w.formed) n w.ends)

  -- a frame ends one epoch at most
  pub one_epoch : {past : List Content} {x : Content} {d e : Report} → EndsEpoch roster past x d → EndsEpoch roster past x e → d ≡ e
  one_epoch {past} {x} {d} {e} v w = same_report (sym ((epoch_outcome past x d).1 v) ∙ (epoch_outcome past x e).1 w)

  -- each frame with its report or none: the one law that reports and listings are read off
  pub came_to_lem : (past xs : List Content) → CameTo roster past xs (outcomes (after (made roster).collator past) xs)
  unfolding outcomes
  came_to_lem past [] = tt
  came_to_lem past (x ∷ xs) = (
    λ e. epoch_outcome past x e,
    subst (λ (c : Collator). CameTo roster (past ++ x ∷ []) xs (outcomes c xs)) (after_one (made roster).collator past x) (came_to_lem (past ++ x ∷ []) xs),
  )

  -- ---- demand 3

  pub same_state : (xs ys : List Content) → SameFrames roster xs ys → after (made roster).collator xs ≡ after (made roster).collator ys
  unfolding history_of
  same_state xs ys same =
      let places : places_of roster (λ (s : ℕ). history_of s xs) ≡ places_of roster (λ (s : ℕ). history_of s ys)
      = map-listed roster (λ s n. ap (λ (zs : List Content). place_of (packets_of zs [])) (same s n)) in
      standing xs
      ∙ ap (λ (ps : List Place). record { places = take 8 (ps ++ replicate 8 idle); roster = take 8 (roster ++ replicate 8 0); count = length roster }) places
      ∙ sym (standing ys)

  own_reports_lem : (s : ℕ) → names roster s ≡ true → (xs : List Content) (past : ℕ → List Packet)
      → reports_of s (reports (state_of roster past) xs) ≡ own_reports s (past s) (of_sender s xs)
  unfolding outcomes reports_of of_sender own_reports
  own_reports_lem s n [] past = refl
  own_reports_lem s n (x ∷ xs) past = by (eqb x.sender s) refl (own_reports_lem s n xs (heard_by x past))
    where
      rest : reports_of s (reports (fed_frame (state_of roster past) x).collator xs) ≡ reports_of s (reports (state_of roster (heard_by x past)) xs)
      rest = ap (λ (c : Collator). reports_of s (reports c xs)) (fed_state roster is.few is.once past x)

      by : (t : Bool) → eqb x.sender s ≡ t
          → reports_of s (reports (state_of roster (heard_by x past)) xs) ≡ own_reports s (cond t (kept (own_packet x) (past s)) (past s)) (of_sender s xs)
          → reports_of s (report_in (fed_frame (state_of roster past) x).happened (reports (fed_frame (state_of roster past) x).collator xs))
          ≡ own_reports s (past s) (cond t (x ∷ of_sender s xs) (of_sender s xs))
      by true q all =
          let own-sender = eqb-true x.sender s q in
          let heard_of : (fed_frame (state_of roster past) x).happened ≡ comes_to s (past s) (own_packet x)
          = ap (λ (f : Fed). f.happened) (fed_listed roster is.few is.once past x (ap (names roster) own-sender ∙ n))
          ∙ ap (λ (k : ℕ). comes_to k (past k) (own_packet x)) own-sender in
          ap (λ (h : Happened). reports_of s (report_in h (reports (fed_frame (state_of roster past) x).collator xs))) heard_of
          ∙ comes_own s (past s) (own_packet x) (reports (fed_frame (state_of roster past) x).collator xs)
          ∙ ap (report_in (comes_to s (past s) (own_packet x))) (rest ∙ all)
      by false q all = report_own (state_of roster past) x (reports (fed_frame (state_of roster past) x).collator xs) (eqb-false x.sender s q) ∙ rest ∙ all

  from_start : (s : ℕ) → names roster s ≡ true → (xs : List Content) → reports_of s (reports start xs) ≡ own_reports s [] (of_sender s xs)
  from_start s n xs =
      ap (λ (c : Collator). reports_of s (reports c xs)) begun
      ∙ own_reports_lem s n xs (λ (s : ℕ). [])

  pub same_reports : (xs ys : List Content) → SameFrames roster xs ys → (s : ℕ) → names roster s ≡ true
      → reports_of s (reports (made roster).collator xs) ≡ reports_of s (reports (made roster).collator ys)
  same_reports xs ys same s n = from_start s n xs ∙ ap (own_reports s []) (same s n) ∙ sym (from_start s n ys)

  -- and so for two captures, read closed
  pub same_captures : (a b : List ℕ) → SameFrames roster (contents_of a) (contents_of b)
      → (after (made roster).collator (contents_of a) ≡ after (made roster).collator (contents_of b))
      × ((s : ℕ) → names roster s ≡ true → reports_of s (reports (made roster).collator (contents_of a)) ≡ reports_of s (reports (made roster).collator (contents_of b)))
  same_captures a b same = (same_state (contents_of a) (contents_of b) same, same_reports (contents_of a) (contents_of b) same)
