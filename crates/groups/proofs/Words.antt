-- Groups of packets in words: what the tests on counters and groups say, where the latest packet stands, and document 02's words for an epoch.
use Rattle.std.proofs.Common.{◌≡◌, ℕ, zero, suc, ◌+◌, ◌<◌, Bool, true, false, cond, not, eqb, ◌⊎◌, ◌↔◌, List, [], ◌∷◌, ◌++◌, sym, refl, ap, ◌∙◌, subst, inl, inr, ⊎_elim, true≢false, eq-or-lt_of_le, arith, eq-eqb, ne_eqb, eqb-true}
use mathlib.Core.Bool.{not-eq-not, and-eq-true_iff}
use borrow.Author.Tests.{not-true}
use Rattle.packets.specs.Packet.{same_key, Formed}
use Rattle.packets.specs.declared.packet.Key.{Key}
use Rattle.packets.specs.declared.packet.Packet.{Packet}
use Rattle.packets.proofs.Keys.{equal_key, same_key_lem}
use Rattle.groups.specs.InWords.{has, has_all, whole, belongs, group_at, observations_in, EpochEnds, AllOf, Come, Begins, InWords}

-- ---- which counters have come

pub has_none : (i : ℕ) → has [] i ≡ false
unfolding has
has_none i = refl

module _ (p : Packet) (g : List Packet) where
  pub has_other : {i : ℕ} → (p.counter ≡ i → ⊥) → has (p ∷ g) i ≡ has g i
  unfolding has
  has_other {i} h = ap (λ (t : Bool). cond t true (has g i)) (ne_eqb p.counter i h)

  pub has_iff : (i : ℕ) → (has (p ∷ g) i ≡ true) ↔ ((p.counter ≡ i) ⊎ (has g i ≡ true))
  unfolding has
  has_iff i = (there (eqb p.counter i) refl, back (eqb p.counter i) refl)
    where
      there : (t : Bool) → eqb p.counter i ≡ t → cond t true (has g i) ≡ true → (p.counter ≡ i) ⊎ (has g i ≡ true)
      there true e h = inl (eqb-true p.counter i e)
      there false e h = inr h

      back : (t : Bool) → eqb p.counter i ≡ t → (p.counter ≡ i) ⊎ (has g i ≡ true) → cond t true (has g i) ≡ true
      back true e h = refl
      back false e (inl c) = absurd (true≢false (sym (eq-eqb p.counter i c) ∙ e))
      back false e (inr h) = h

  -- a counter that had not come counts
  pub sum_new : has g p.counter ≡ false → observations_in (p ∷ g) ≡ observations_in g + p.observations
  unfolding observations_in
  sum_new e = ap (λ (t : Bool). cond t (observations_in g) (observations_in g + p.observations)) e

pub has_come : (g : List Packet) (i : ℕ) → (has g i ≡ true) ↔ Come g i
has_come [] i = (λ e. true≢false (sym e ∙ has_none i), λ c. absurd c)
has_come (p ∷ g) i =
    let rest = has_come g i in (
      λ e. ⊎_elim inl (λ h. inr (rest.0 h)) ((has_iff p g i).0 e),
      λ c. (has_iff p g i).1 (⊎_elim inl (λ c. inr (rest.1 c)) c),
    )

-- ---- all of 0 to n - 1

pub all_iff : (g : List Packet) (n : ℕ) → (has_all g n ≡ true) ↔ ((i : ℕ) → i < n → has g i ≡ true)
unfolding has_all
all_iff g zero = (λ e i h. absurd (omega arith), λ h. refl)
all_iff g (suc n) =
    let both = and-eq-true_iff (has g n) (has_all g n) in
    let rest = all_iff g n in (
      λ e i h. ⊎_elim (λ c. subst (λ (j : ℕ). has g j ≡ true) (sym c) (both.0 e).0) (rest.0 (both.0 e).1 i) (eq-or-lt_of_le (omega arith)),
      λ h. both.1 (h n (omega arith), rest.1 (λ i l. h i (omega arith))),
    )

-- one that is missing is enough
pub missing : (g : List Packet) {i n : ℕ} → has g i ≡ false → i < n → has_all g n ≡ false
missing g {i} {n} e h = not-eq-not.0 (λ a. true≢false (sym ((all_iff g n).0 a i h) ∙ e))

-- ---- the latest packet

-- it joins the open group, or stands alone
pub latest : (P : List Packet → Type 0) (p : Packet) (past : List Packet) → (belongs (group_at past) p ≡ true → P (p ∷ group_at past))
    → (belongs (group_at past) p ≡ false → P (p ∷ [])) → P (group_at (p ∷ past))
unfolding group_at
latest P p past on off = by (belongs (group_at past) p) refl
  where
    by : (t : Bool) → belongs (group_at past) p ≡ t → P (cond t (p ∷ group_at past) (p ∷ []))
    by true e = on e
    by false e = off e

pub none_open : (p : Packet) → belongs (group_at []) p ≡ false
unfolding group_at
none_open p = refl

module _ (p : Packet) (past : List Packet) where
  pub alone : belongs (group_at past) p ≡ false → group_at (p ∷ past) ≡ p ∷ []
  alone e = latest (λ (g : List Packet). g ≡ p ∷ []) p past (λ b. absurd (true≢false (sym b ∙ e))) (λ b. refl)

  pub joined : belongs (group_at past) p ≡ true → group_at (p ∷ past) ≡ p ∷ group_at past
  joined e = latest (λ (g : List Packet). g ≡ p ∷ group_at past) p past (λ b. refl) (λ b. absurd (true≢false (sym e ∙ b)))

  pub whole_at : whole (group_at (p ∷ past)) ≡ has_all (group_at (p ∷ past)) p.key.n
  whole_at = latest (λ (g : List Packet). whole g ≡ has_all g p.key.n) p past (λ b. refl) (λ b. refl)

-- a packet belongs to a group that is not whole, of its key
pub belongs_iff : (q : Packet) (g : List Packet) (p : Packet) → (belongs (q ∷ g) p ≡ true) ↔ ((whole (q ∷ g) ≡ false) × (q.key ≡ p.key))
belongs_iff q g p =
    let both = and-eq-true_iff (not (whole (q ∷ g))) (same_key q.key p.key) in (
      λ e. (not-true (whole (q ∷ g)) (both.0 e).0, equal_key q.key p.key (both.0 e).1),
      λ h. both.1 (ap not h.0, same_key_lem q.key p.key h.1),
    )

pub belongs_at : (q : Packet) (past : List Packet) (p : Packet)
    → (belongs (group_at (q ∷ past)) p ≡ true) ↔ ((whole (group_at (q ∷ past)) ≡ false) × (q.key ≡ p.key))
belongs_at q past p =
    latest (λ (g : List Packet). (belongs g p ≡ true) ↔ ((whole g ≡ false) × (q.key ≡ p.key))) q past
    (λ b. belongs_iff q (group_at past) p) (λ b. belongs_iff q [] p)

-- a packet that belongs to no open group begins one
begins_iff : (p : Packet) (past : List Packet) → (belongs (group_at past) p ≡ false) ↔ Begins p.key past
begins_iff p [] = (λ e. tt, λ b. none_open p)
begins_iff p (q ∷ past) = (there (whole (group_at (q ∷ past))) refl, λ b. not-eq-not.0 (back b))
  where
    there : (t : Bool) → whole (group_at (q ∷ past)) ≡ t → belongs (group_at (q ∷ past)) p ≡ false → Begins p.key (q ∷ past)
    there true w e = inr (observations_in (group_at (q ∷ past)), record { all_come = w; sum = refl })
    there false w e = inl (λ k. true≢false (sym ((belongs_at q past p).1 (w, k)) ∙ e))

    back : Begins p.key (q ∷ past) → belongs (group_at (q ∷ past)) p ≡ true → ⊥
    back (inl other) e = other ((belongs_at q past p).0 e).1
    back (inr ended) e = true≢false (sym ended.1.all_come ∙ ((belongs_at q past p).0 e).0)

-- ---- from the group to the words: its packets stand at the front of the history

-- these packets, since a group of the key began
record Since (key : Key) (past before : List Packet) : Type 0 where
  pub earlier : List Packet
  pub front : past ≡ before ++ earlier
  pub begins : Begins key earlier
  pub keys : AllOf key before

-- none yet
since_now : (p : Packet) (past : List Packet) → belongs (group_at past) p ≡ false → Since p.key past []
since_now p past e = record { earlier = past; front = refl; begins = (begins_iff p past).0 e; keys = tt }

-- and one more
since_more : (p : Packet) {past before : List Packet} → Since p.key past before → Since p.key (p ∷ past) (p ∷ before)
since_more p s = record { earlier = s.earlier; front = ap (λ (ps : List Packet). p ∷ ps) s.front; begins = s.begins; keys = (refl, s.keys) }

since : (p : Packet) (past : List Packet) → belongs (group_at past) p ≡ true → Since p.key past (group_at past)
since p [] e = absurd (true≢false (sym e ∙ none_open p))
since p (q ∷ past) e =
    subst (λ (key : Key). Since key (q ∷ past) (group_at (q ∷ past))) ((belongs_at q past p).0 e).1
    (latest (Since q.key (q ∷ past)) q past (λ b. since_more q (since q past b)) (λ b. since_more q (since_now q past b)))

-- a group to which a packet belongs lacks a counter
unfinished : (g : List Packet) (p : Packet) → belongs g p ≡ true → has_all g p.key.n ≡ false
unfinished [] p e = absurd (true≢false (sym e))
unfinished (q ∷ g) p e = let b = (belongs_iff q g p).0 e in subst (λ (key : Key). has_all (q ∷ g) key.n ≡ false) b.1 b.0

-- so where the packet makes it whole, it is the packet's own
brings : (g : List Packet) (p : Packet) → belongs g p ≡ true → whole (p ∷ g) ≡ true → Come g p.counter → ⊥
brings g p e w c =
    let n = p.key.n in
    let own = (has_come g p.counter).1 c in
    let all = (all_iff g n).1 (λ i h. ⊎_elim (λ k. subst (λ (j : ℕ). has g j ≡ true) k own) (λ h. h) ((has_iff p g i).0 ((all_iff (p ∷ g) n).0 w i h))) in
    true≢false (sym all ∙ unfinished g p e)

-- ---- from the words to the group: the packets since it began are the group

module _ (p : Packet) (formed : Formed p) where
  -- none of them ended it, since p's counter was still missing
  built : (before earlier : List Packet) → Begins p.key earlier → AllOf p.key before → (Come before p.counter → ⊥)
      → (q : Packet) → q.key ≡ p.key → group_at (q ∷ (before ++ earlier)) ≡ q ∷ before
  built [] earlier begins keys new q k = alone q earlier ((begins_iff q earlier).1 (subst (λ (key : Key). Begins key earlier) (sym k) begins))
  built (r ∷ before) earlier begins keys new q k =
      let group = built before earlier begins keys.1 (λ c. new (inr c)) r keys.0 in
      let lacks : has (r ∷ before) p.counter ≡ false = not-eq-not.0 (λ e. new ((has_come (r ∷ before) p.counter).0 e)) in
      let below = subst (λ (key : Key). p.counter < key.n) (sym keys.0) formed.below in
      let still = (belongs_iff r before q).1 (missing (r ∷ before) lacks below, keys.0 ∙ sym k) in
      joined q (r ∷ (before ++ earlier)) (subst (λ (g : List Packet). belongs g q ≡ true) (sym group) still) ∙ ap (λ (g : List Packet). q ∷ g) group

-- an epoch ends with a packet exactly when document 02's words hold of it
pub in_words : (p : Packet) (past : List Packet) (t : ℕ) → Formed p → EpochEnds p past t ↔ InWords p past t
in_words p past t formed = (there, back)
  where
    words : (before : List Packet) → Since p.key past before → (whole (p ∷ before) ≡ true → Come before p.counter → ⊥)
        → whole (p ∷ before) ≡ true → observations_in (p ∷ before) ≡ t → InWords p past t
    words before s new w sum =
        record {
          before = before;
          earlier = s.earlier;
          front = s.front;
          begins = s.begins;
          keys = s.keys;
          all_come = λ i h. (has_come (p ∷ before) i).0 ((all_iff (p ∷ before) p.key.n).0 w i h);
          last = new w;
          sum = sum;
        }

    there : EpochEnds p past t → InWords p past t
    there e =
        latest (λ (g : List Packet). whole g ≡ true → observations_in g ≡ t → InWords p past t) p past
        (λ b. words (group_at past) (since p past b) (brings (group_at past) p b)) (λ b. words [] (since_now p past b) (λ w c. c)) e.all_come e.sum

    back : InWords p past t → EpochEnds p past t
    back w =
        let group = built p formed w.before w.earlier w.begins w.keys w.last p refl in
        let all = (all_iff (p ∷ w.before) p.key.n).1 (λ i h. (has_come (p ∷ w.before) i).1 (w.all_come i h)) in
        subst (λ (past : List Packet). EpochEnds p past t) (sym w.front)
        (record { all_come = ap whole group ∙ all; sum = ap observations_in group ∙ w.sum })
