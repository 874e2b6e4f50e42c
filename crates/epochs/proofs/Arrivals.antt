-- The packets of one group in any order: what a collator reports of them, and what it is left with. Nothing here looks inside a step.
use mathlib.Core.Path.{◌≡◌, refl, sym, ap, ap₂, ◌∙◌, subst}
use mathlib.Core.Bool.{Bool, true, false, cond, true≢false}
use mathlib.Core.List.{List, [], ◌∷◌, ◌++◌, map}
use Prim.Native.Nat.{ℕ}
use native.Mathlib.Omega.{arith}
use lib.Dec.{eqb}
use borrow.Author.Tests.{eqb-true, eqb-false, eq-eqb, ne_eqb}
use Rattle.refusals.specs.Refusals.{refused, given, Answer, reply}
use Rattle.frames.specs.Frame.{Content}
use Rattle.packets.specs.Packet.{AllFormed}
use Rattle.packets.specs.declared.packet.Key.{Key}
use Rattle.packets.specs.declared.packet.Packet.{Packet}
use Rattle.groups.specs.InWords.{whole, group_at, observations_in}
use Rattle.groups.specs.Group.{stepping, ended_of, left_open}
use Rattle.groups.specs.AnyOrder.{Reordered, none, first, AllCount}
use Rattle.std.specs.Prelude.{Option, Some, None}
use Rattle.groups.specs.declared.grouping.Stepped.{Stepped}
use Rattle.groups.proofs.WholeGroups.{whole_epoch}
use Rattle.groups.proofs.AnyOrder.{onto, endings, any_order}
use Rattle.groups.proofs.LeftAlike.{alike_open}
use Rattle.epochs.specs.Search.{names}
use Rattle.epochs.specs.Collator.{outcome, came_to, fed_frame, made}
use Rattle.epochs.specs.Epoch.{own_packet, kept, packets_of, of_sender, history_of, after, outcomes, report_in, reports, Seated}
use Rattle.epochs.specs.Arrival.{PacketsOf, InAnyOrder}
use Rattle.epochs.specs.declared.collating.Collator.{Collator}
use Rattle.epochs.specs.declared.collating.Report.{Report}
use Rattle.epochs.specs.Fed.{Fed}
use Rattle.epochs.proofs.Senders.{state_of, heard_by, comes_to, state_ext, fed_listed}
use Rattle.epochs.proofs.Collations.{history_formed, standing}

-- ---- frames in another order have their packets in that order

-- a frame among others
put_in : (s : ℕ) (x : Content) (p : Packet) → x.sender ≡ s → own_packet x ≡ given p → (before behind : List Content) (qs : List Packet) → PacketsOf s (before ++ behind) qs
    → (ahead : List Packet) × (rest : List Packet) × (qs ≡ ahead ++ rest) × PacketsOf s (before ++ x ∷ behind) (ahead ++ p ∷ rest)
put_in s x p own is [] behind qs h = ([], qs, refl, (own, is, h))
put_in s x p own is (y ∷ before) behind [] h = absurd h
put_in s x p own is (y ∷ before) behind (q ∷ qs) h =
    let w = put_in s x p own is before behind qs h.2 in (q ∷ w.0, w.1, ap (λ (ps : List Packet). q ∷ ps) w.2, (h.0, h.1, w.3))

reordered : (s : ℕ) {ys zs : List Content} → Reordered ys zs → (ps : List Packet) → PacketsOf s ys ps → (qs : List Packet) × PacketsOf s zs qs × Reordered ps qs
reordered s none [] h = ([], tt, none)
reordered s none (p ∷ ps) h = absurd h
reordered s (first before behind r) [] h = absurd h
reordered s (first {x = x} before behind r) (p ∷ ps) h =
    let w = reordered s r ps h.2 in
    let q = put_in s x p h.0 h.1 before behind w.0 w.1 in
    (q.0 ++ p ∷ q.1, q.3, first q.0 q.1 (subst (Reordered ps) q.2 w.2))

-- ---- the history of the sender, and of the others

of_joined : (t : ℕ) (xs ys : List Content) → of_sender t (xs ++ ys) ≡ of_sender t xs ++ of_sender t ys
unfolding of_sender
of_joined t [] ys = refl
of_joined t (x ∷ xs) ys = by (eqb x.sender t) (of_joined t xs ys)
  where
    by : (b : Bool) → of_sender t (xs ++ ys) ≡ of_sender t xs ++ of_sender t ys
        → cond b (x ∷ of_sender t (xs ++ ys)) (of_sender t (xs ++ ys)) ≡ cond b (x ∷ of_sender t xs) (of_sender t xs) ++ of_sender t ys
    by true e = ap (λ (xs : List Content). x ∷ xs) e
    by false e = e

packets_joined : (xs ys : List Content) (past : List Packet) → packets_of (xs ++ ys) past ≡ packets_of ys (packets_of xs past)
unfolding packets_of
packets_joined [] ys past = refl
packets_joined (x ∷ xs) ys past = packets_joined xs ys (kept (own_packet x) past)

history_joined : (t : ℕ) (xs ys : List Content) → history_of t (xs ++ ys) ≡ packets_of (of_sender t ys) (history_of t xs)
unfolding history_of
history_joined t xs ys = ap (λ (zs : List Content). packets_of zs []) (of_joined t xs ys) ∙ packets_joined (of_sender t xs) (of_sender t ys) []

all_theirs : (s : ℕ) (ys : List Content) (ps : List Packet) → PacketsOf s ys ps → (past : List Packet) → packets_of (of_sender s ys) past ≡ onto past ps
unfolding packets_of of_sender onto
all_theirs s [] [] h past = refl
all_theirs s [] (p ∷ ps) h past = absurd h
all_theirs s (y ∷ ys) [] h past = absurd h
all_theirs s (y ∷ ys) (p ∷ ps) h past =
    rw (eq-eqb y.sender s h.0) (ap (λ (a : Answer Packet). packets_of (of_sender s ys) (kept a past)) h.1 ∙ all_theirs s ys ps h.2 (p ∷ past))

none_others : (s t : ℕ) → (s ≡ t → ⊥) → (ys : List Content) (ps : List Packet) → PacketsOf s ys ps → of_sender t ys ≡ []
unfolding of_sender
none_others s t other [] ps h = refl
none_others s t other (y ∷ ys) [] h = absurd h
none_others s t other (y ∷ ys) (p ∷ ps) h = rw (ne_eqb y.sender t (λ e. other (sym h.0 ∙ e))) (none_others s t other ys ps h.2)

-- ---- what is reported of them: the epochs that their packets end

abbrev report_for : ℕ → Key × ℕ → Report
report_for s e = record { sender = s; wn = e.0.wn; tow = e.0.tow; n = e.0.n; observations = e.1 }

-- a packet's own report, or none
reported : (s : ℕ) (p : Packet) (past : List Packet) → AllFormed (p ∷ past) → (rs : List Report)
    → let g = group_at (p ∷ past) in
    report_in (came_to s p (reply (stepping (left_open past) p))) rs ≡ cond (whole g) (report_for s (p.key, observations_in g) ∷ rs) rs
reported s p past all rs = by (whole (group_at (p ∷ past))) refl (reply (stepping (left_open past) p)) refl
  where
    by_ended : (e : Option ℕ) → ended_of (reply (stepping (left_open past) p)) ≡ e → whole (group_at (p ∷ past)) ≡ false → report_in (outcome s p e) rs ≡ rs
    by_ended None q w = refl
    by_ended (Some t) q w = absurd (true≢false (sym ((whole_epoch p past t all).0 q).all_come ∙ w))

    came : (a : Answer Stepped) {t : ℕ} → ended_of a ≡ Some t → report_in (came_to s p a) rs ≡ report_for s (p.key, t) ∷ rs
    came (refused n) q = let z : ◌≡◌ {A = ℕ} 0 1 = cc in absurd (omega arith)
    came (given y) q = ap (λ (e : Option ℕ). report_in (outcome s p e) rs) q

    by : (b : Bool) → whole (group_at (p ∷ past)) ≡ b → (a : Answer Stepped) → reply (stepping (left_open past) p) ≡ a
        → report_in (came_to s p a) rs ≡ cond b (report_for s (p.key, observations_in (group_at (p ∷ past))) ∷ rs) rs
    by true w a q = came a (ap ended_of (sym q) ∙ (whole_epoch p past _ all).1 (record { all_come = w; sum = refl }))
    by false w (refused n) q = refl
    by false w (given y) q = by_ended y.ended (ap ended_of q) w

-- packets that all count are well-formed
all_formed : (key : Key) (past ps : List Packet) → AllCount key past ps → AllFormed ps
all_formed key past [] c = tt
all_formed key past (p ∷ ps) c = (c.0, all_formed key past ps c.4)

onto_formed : (past ps : List Packet) → AllFormed past → AllFormed ps → AllFormed (onto past ps)
unfolding onto
onto_formed past [] all each = all
onto_formed past (p ∷ ps) all each = onto_formed (p ∷ past) ps (each.0, all) each.1

-- the same reports at the end are the same reports of all
same_end : (c : Collator) (xs ys zs : List Content) → reports (after c xs) ys ≡ reports (after c xs) zs → reports c (xs ++ ys) ≡ reports c (xs ++ zs)
unfolding outcomes after
same_end c [] ys zs e = e
same_end c (x ∷ xs) ys zs e = ap (report_in (fed_frame c x).happened) (same_end (fed_frame c x).collator xs ys zs e)

module _ (roster : List ℕ) (is : Seated roster) (s : ℕ) (listed : names roster s ≡ true) where
  reports_of : (ys : List Content) (ps : List Packet) (past : ℕ → List Packet) (heard : List Packet) → past s ≡ heard → AllFormed heard → AllFormed ps → PacketsOf s ys ps
      → reports (state_of roster past) ys ≡ map (report_for s) (endings heard ps)
  unfolding outcomes endings
  reports_of [] [] past heard e all each h = refl
  reports_of [] (p ∷ ps) past heard e all each h = absurd h
  reports_of (y ∷ ys) [] past heard e all each h = absurd h
  reports_of (y ∷ ys) (p ∷ ps) past heard e all each h =
      let now : heard_by y past s ≡ p ∷ heard = rw (eq-eqb y.sender s h.0) (ap₂ kept h.1 e) in
      let rest = reports_of ys ps (heard_by y past) (p ∷ heard) now (each.0, all) each.1 h.2 in
      let fed = fed_listed roster is.few is.once past y (ap (names roster) h.0 ∙ listed) in
      let came : (fed_frame (state_of roster past) y).happened ≡ came_to s p (reply (stepping (left_open heard) p))
      = ap (λ (f : Fed). f.happened) fed
      ∙ ap (λ (t : ℕ). comes_to t (past t) (own_packet y)) h.0
      ∙ ap₂ (comes_to s) e h.1 in
      ap₂ report_in came (ap (λ (f : Fed). reports f.collator ys) fed ∙ rest)
      ∙ reported s p heard (each.0, all) (map (report_for s) (endings (p ∷ heard) ps))
      ∙ shown (whole (group_at (p ∷ heard)))
    where
      shown : (b : Bool)
          → cond b (report_for s (p.key, observations_in (group_at (p ∷ heard))) ∷ map (report_for s) (endings (p ∷ heard) ps)) (map (report_for s) (endings (p ∷ heard) ps))
          ≡ map (report_for s) (cond b ((p.key, observations_in (group_at (p ∷ heard))) ∷ endings (p ∷ heard) ps) (endings (p ∷ heard) ps))
      shown true = refl
      shown false = refl

-- what is well-formed stays so in another order
formed_in : (before behind : List Packet) {p : Packet} → AllFormed (before ++ behind) → AllFormed (p ∷ []) → AllFormed (before ++ p ∷ behind)
formed_in [] behind all own = (own.0, all)
formed_in (q ∷ before) behind all own = (all.0, formed_in before behind all.1 own)

formed_on : (ps qs : List Packet) → Reordered ps qs → AllFormed ps → AllFormed qs
formed_on _ _ none all = tt
formed_on _ _ (first {x = p} {xs = ps} before behind r) all = formed_in before behind (formed_on ps (before ++ behind) r all.1) (all.0, tt)

-- the sender's place is left the same where its own packets leave the same, and the others' places are
left_same : (s : ℕ) (xs ys zs : List Content) (ps qs : List Packet) → PacketsOf s ys ps → PacketsOf s zs qs
    → left_open (onto (history_of s xs) ps) ≡ left_open (onto (history_of s xs) qs) → (t : ℕ) → left_open (history_of t (xs ++ ys)) ≡ left_open (history_of t (xs ++ zs))
left_same s xs ys zs ps qs h k e t = by (eqb s t) refl
  where
    by : (b : Bool) → eqb s t ≡ b → left_open (history_of t (xs ++ ys)) ≡ left_open (history_of t (xs ++ zs))
    by true q =
        subst (λ (t : ℕ). left_open (history_of t (xs ++ ys)) ≡ left_open (history_of t (xs ++ zs))) (eqb-true s t q)
        (ap left_open (history_joined s xs ys ∙ all_theirs s ys ps h (history_of s xs)) ∙ e ∙ sym (ap left_open (history_joined s xs zs ∙ all_theirs s zs qs k (history_of s xs))))
    by false q =
        let other = eqb-false s t q in
        ap left_open
        (history_joined t xs ys
        ∙ ap (λ (ws : List Content). packets_of ws (history_of t xs)) (none_others s t other ys ps h ∙ sym (none_others s t other zs qs k))
        ∙ sym (history_joined t xs zs))

-- any permutation of a group's packets, the same reports and the same end
pub in_any_order : (roster : List ℕ) → Seated roster → InAnyOrder roster
in_any_order roster is s listed xs ys zs one r =
    let ps = one.packets in
    let other = reordered s r ps one.theirs in
    let qs = other.0 in
    let past : ℕ → List Packet = λ t. history_of t xs in
    let all = history_formed s xs in
    let each = all_formed one.key (past s) ps one.count in
    let same = any_order one.key (past s) ps qs one.count other.2 in
    let each-other = formed_on ps qs other.2 each in
    let of-ys = reports_of roster is s listed ys ps past (past s) refl all each one.theirs in
    let of-zs = reports_of roster is s listed zs qs past (past s) refl all each-other other.1 in
    let at_end = ap (λ (c : Collator). reports c ys) (standing roster is xs) ∙ of-ys ∙ ap (map (report_for s)) same.0 ∙ sym of-zs ∙ sym (ap (λ (c : Collator). reports c zs) (standing roster is xs)) in
    record {
      same_reports = same_end (made roster).collator xs ys zs at_end;
      same_state =
          standing roster is (xs ++ ys)
          ∙ state_ext roster (λ t. history_of t (xs ++ ys)) (λ t. history_of t (xs ++ zs))
          (left_same s xs ys zs ps qs one.theirs other.1
          (alike_open (onto (past s) ps) (onto (past s) qs) (onto_formed (past s) ps all each) (onto_formed (past s) qs all each-other) same.1))
          ∙ sym (standing roster is (xs ++ zs));
    }
