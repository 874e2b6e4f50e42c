-- Packets in counter order: the group in which the latest stands is a run from counter 0 exactly where it has all counters up to the latest's.
use Prim.Native.Nat.{ℕ, zero, suc, ◌+◌, ◌-◌, ◌≤◌, ◌<◌}
use mathlib.Core.Path.{◌≡◌, sym, ap, ◌∙◌, subst, subst₂}
use mathlib.Core.Bool.{true, false, true≢false, not-eq-not}
use mathlib.Core.List.{List, [], ◌∷◌}
use mathlib.Core.Logic.{◌↔◌, inl, inr, ⊎_elim}
use native.Mathlib.Nat.{le-suc_iff}
use native.Mathlib.Omega.{arith}
use Rattle.packets.specs.Packet.{AllFormed}
use Rattle.packets.specs.declared.packet.Key.{Key}
use Rattle.packets.specs.declared.packet.Packet.{Packet}
use Rattle.runs.specs.InWords.{RunTo}
use Rattle.runs.specs.InWords as runs
use Rattle.runs.proofs.Fronts.{unroll, run_head, first_of, next_of, in_words}
use Rattle.groups.specs.InWords.{has, belongs, group_at, observations_in}
use Rattle.groups.specs.InWords as groups
use Rattle.groups.proofs.Words.{has_none, has_other, has_iff, sum_new, all_iff, missing, latest, none_open, alone, joined, whole_at, belongs_at}
use Rattle.in_order.specs.InOrder.{Ascending, InOrder}

-- ---- a packet alone

only : (p : Packet) {i : ℕ} → has (p ∷ []) i ≡ true → p.counter ≡ i
only p {i} e = ⊎_elim (λ c. c) (λ h. absurd (true≢false (sym h ∙ has_none i))) ((has_iff p [] i).0 e)

sum_only : (p : Packet) → observations_in (p ∷ []) ≡ p.observations
unfolding observations_in
sum_only p = omega arith

-- ---- there: the group of a run has the run's counters

record UpTo (j t : ℕ) (g : List Packet) : Type 0 where
  pub low : (i : ℕ) → has g i ≡ true → i ≤ j
  pub all : (i : ℕ) → i ≤ j → has g i ≡ true
  pub sum : observations_in g ≡ t

up_first : (p : Packet) → p.counter ≡ 0 → UpTo 0 p.observations (p ∷ [])
up_first p z = record { low = λ i e. omega (arith, only p e); all = λ i h. (has_iff p [] i).1 (inl (omega arith)); sum = sum_only p }

-- counter j + 1 is missing up to j
lacks : {j t : ℕ} {g : List Packet} → UpTo j t g → has g (suc j) ≡ false
lacks {j} u = not-eq-not.0 (λ e. omega (arith, u.low (suc j) e))

up_next : (p : Packet) {j t : ℕ} {g : List Packet} → UpTo j t g → p.counter ≡ suc j → UpTo (suc j) (t + p.observations) (p ∷ g)
up_next p {j} {t} {g} u c =
    record {
      low = λ i e. ⊎_elim (λ k. omega arith) (λ h. omega (arith, u.low i h)) ((has_iff p g i).0 e);
      all = λ i h. (has_iff p g i).1 (⊎_elim (λ l. inr (u.all i l)) (λ k. inl (c ∙ sym k)) (le-suc_iff.0 h));
      sum = sum_new p g (ap (has g) c ∙ lacks u) ∙ ap (λ (n : ℕ). n + p.observations) u.sum;
    }

-- counter 0 is above no other
begins_alone : (p : Packet) (past : List Packet) → Ascending (p ∷ past) → p.counter ≡ 0 → belongs (group_at past) p ≡ true → ⊥
begins_alone p [] up z e = true≢false (sym e ∙ none_open p)
begins_alone p (q ∷ past) up z e = omega (arith, up.0 e)

there : {key : Key} (j : ℕ) (ps : List Packet) {t : ℕ} → AllFormed ps → Ascending ps → RunTo key j ps t → UpTo j t (group_at ps)
there j [] formed up r = absurd (unroll r)
there zero (p ∷ past) formed up r =
    let a = unroll r in
    subst₂ (UpTo 0) (sym a.2) (sym (alone p past (not-eq-not.0 (begins_alone p past up a.1)))) (up_first p a.1)
there (suc j) (p ∷ []) formed up r = absurd (unroll (unroll r).2.1)
there (suc j) (p ∷ q ∷ past) formed up r =
    let a = unroll r in
    let u = there j (q ∷ past) formed.1 up.1 a.2.1 in
    let key = sym (run_head j a.2.1).0 ∙ a.0 in
    let below = subst₂ (λ (i : ℕ) (k : Key). i < k.n) a.1 (sym key) formed.0.below in
    let belongs = (belongs_at q past p).1 (whole_at q past ∙ missing (group_at (q ∷ past)) (lacks u) below, key) in
    subst₂ (UpTo (suc j)) (sym a.2.2) (sym (joined p (q ∷ past) belongs)) (up_next p u a.1)

-- ---- back: a group that has all counters up to its latest's is a run, and it has none above

record Ordered (p : Packet) (past g : List Packet) : Type 0 where
  pub low : (i : ℕ) → has g i ≡ true → i ≤ p.counter
  pub run : ((i : ℕ) → i ≤ p.counter → has g i ≡ true) → RunTo p.key p.counter (p ∷ past) (observations_in g)

ordered_first : (p : Packet) (past : List Packet) → Ordered p past (p ∷ [])
ordered_first p past =
    record {
      low = λ i e. omega (arith, only p e);
      run = λ all. subst (RunTo p.key p.counter (p ∷ past)) (sym (sum_only p)) (first_of p past (only p (all 0 (omega arith))));
    }

ordered_next : (p q : Packet) (past : List Packet) {g : List Packet} → q.counter < p.counter → q.key ≡ p.key → Ordered q past g
    → Ordered p (q ∷ past) (p ∷ g)
ordered_next p q past {g} higher key o =
    record { low = λ i e. ⊎_elim (λ k. omega arith) (λ h. omega (arith, o.low i h)) ((has_iff p g i).0 e); run = run }
  where
    new : has g p.counter ≡ false
    new = not-eq-not.0 (λ e. omega (arith, o.low p.counter e))

    run : ((i : ℕ) → i ≤ p.counter → has (p ∷ g) i ≡ true) → RunTo p.key p.counter (p ∷ q ∷ past) (observations_in (p ∷ g))
    run all =
        let earlier : (i : ℕ) → i < p.counter → has g i ≡ true = λ i h. sym (has_other p g (omega arith)) ∙ all i (omega arith) in
        -- the counter right below p's is there too, and q's is the highest before it
        let next : p.counter ≡ suc q.counter = omega (arith, o.low (p.counter - 1) (earlier (p.counter - 1) (omega arith))) in
        subst (RunTo p.key p.counter (p ∷ q ∷ past)) (sym (sum_new p g new)) (next_of p (o.run (λ i h. earlier i (omega arith))) key next)

ordered : (p : Packet) (past : List Packet) → Ascending (p ∷ past) → Ordered p past (group_at (p ∷ past))
ordered p [] up = latest (Ordered p []) p [] (λ e. absurd (true≢false (sym e ∙ none_open p))) (λ e. ordered_first p [])
ordered p (q ∷ past) up =
    latest (Ordered p (q ∷ past)) p (q ∷ past) (λ e. ordered_next p q past (up.0 e) ((belongs_at q past p).0 e).1 (ordered q past up.1))
    (λ e. ordered_first p (q ∷ past))

-- ---- the two meet

same_epochs : (p : Packet) (past : List Packet) (total : ℕ) → AllFormed (p ∷ past) → Ascending (p ∷ past)
    → runs.EpochEnds p past total ↔ groups.EpochEnds p past total
same_epochs p past total formed up = (to_groups, to_runs)
  where
    g : List Packet
    g = group_at (p ∷ past)

    n : ℕ
    n = p.key.n

    to_groups : runs.EpochEnds p past total → groups.EpochEnds p past total
    to_groups e =
        let u = there p.counter (p ∷ past) formed up e.run in
        record { all_come = whole_at p past ∙ (all_iff g n).1 (λ i h. u.all i (omega (arith, e.last))); sum = u.sum }

    to_runs : groups.EpochEnds p past total → runs.EpochEnds p past total
    to_runs e =
        let o = ordered p past up in
        let below = formed.0.below in
        let all : (i : ℕ) → i < n → has g i ≡ true = (all_iff g n).0 (sym (whole_at p past) ∙ e.all_come) in
        let last : suc p.counter ≡ n = omega (arith, o.low (n - 1) (all (n - 1) (omega arith))) in
        record { last = last; run = subst (RunTo p.key p.counter (p ∷ past)) e.sum (o.run (λ i h. all i (omega arith))) }

pub in_order : InOrder
in_order = record { as_before = in_words; same_epochs = same_epochs }
