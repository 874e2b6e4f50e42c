-- Runs of packets: what the front of a history says of a run, that it has one key and one total, how large the total is, and document 01's
-- words for it.
use Rattle.std.proofs.Common.{◌≡◌, ℕ, zero, suc, ◌+◌, ◌*◌, ◌≤◌, ◌↔◌, List, [], ◌∷◌, ◌++◌, map, replicate, sym, refl, ap, ◌∙◌, subst, ap₂, arith}
use Rattle.runs.specs.InWords.{RunTo, begins, follows, EpochEnds, countdown, observations_in, InWords}
use Rattle.packets.specs.declared.packet.Key.{Key}
use Rattle.packets.specs.declared.packet.Packet.{Packet}
use Rattle.packets.specs.Packet.{AllFormed}
use Rattle.packets.proofs.Keys.{equal_key, same_key_lem}

-- ---- a run, from its latest packet

abbrev pub Unrolled : Key → ℕ → List Packet → ℕ → Type 0
Unrolled key j [] t = ⊥
Unrolled key zero (p ∷ past) t = (key ≡ p.key) × (p.counter ≡ 0) × (t ≡ p.observations)
Unrolled key (suc j) (p ∷ past) t = (key ≡ p.key) × (p.counter ≡ suc j) × ((u : ℕ) × RunTo key j past u × (t ≡ u + p.observations))

pub unroll : {key : Key} {j t : ℕ} {ps : List Packet} → RunTo key j ps t → Unrolled key j ps t
unroll {key} (begins {p = p} k c) = (equal_key key p.key k, c, refl)
unroll {key} (follows {p = p} {total = u} r k c) = (equal_key key p.key k, c, (u, r, refl))

pub run_head : {key : Key} (j : ℕ) {t : ℕ} {p : Packet} {past : List Packet} → RunTo key j (p ∷ past) t → (key ≡ p.key) × (p.counter ≡ j)
run_head zero r = let u = unroll r in (u.0, u.1)
run_head (suc j) r = let u = unroll r in (u.0, u.1)

-- a packet begins a run, or goes on with one
pub first_of : (p : Packet) (past : List Packet) → p.counter ≡ 0 → RunTo p.key p.counter (p ∷ past) p.observations
first_of p past z = subst (λ (j : ℕ). RunTo p.key j (p ∷ past) p.observations) (sym z) (begins (same_key_lem p.key p.key refl) z)

pub next_of : (p : Packet) {key : Key} {past : List Packet} {j total : ℕ} → RunTo key j past total → key ≡ p.key → p.counter ≡ suc j
    → RunTo p.key p.counter (p ∷ past) (total + p.observations)
next_of p {past = past} {j = j} {total = total} r k c =
    subst (λ (i : ℕ). RunTo p.key i (p ∷ past) (total + p.observations)) (sym c)
    (follows (subst (λ (key : Key). RunTo key j past total) k r) (same_key_lem p.key p.key refl) c)

-- ---- one key, one length, one total

module _ {key : Key} where
  same_total : (j : ℕ) (ps : List Packet) {t u : ℕ} → RunTo key j ps t → RunTo key j ps u → t ≡ u
  same_total j [] r q = absurd (unroll r)
  same_total zero (p ∷ past) r q = (unroll r).2 ∙ sym (unroll q).2
  same_total (suc j) (p ∷ past) r q =
      let a = (unroll r).2 in
      let b = (unroll q).2 in
      a.2 ∙ ap (λ (n : ℕ). n + p.observations) (same_total j past a.1 b.1) ∙ sym b.2

pub same_run : {key other : Key} {i j : ℕ} (ps : List Packet) {t u : ℕ} → RunTo key i ps t → RunTo other j ps u → (key ≡ other) × (i ≡ j) × (t ≡ u)
same_run [] r q = absurd (unroll r)
same_run {key} {other} {i} {j} (p ∷ past) {u = u} r q =
    let a = run_head i r in
    let b = run_head j q in
    let k = a.0 ∙ sym b.0 in
    let n = sym a.1 ∙ b.1 in
    (k, n, same_total i (p ∷ past) r (subst (λ (i : ℕ). RunTo key i (p ∷ past) u) (sym n) (subst (λ (key : Key). RunTo key j (p ∷ past) u) (sym k) q)))

-- at most one total fits
pub one_total : {p : Packet} {past : List Packet} {t u : ℕ} → EpochEnds p past t → EpochEnds p past u → t ≡ u
one_total {p} {past} a b = (same_run (p ∷ past) a.run b.run).2

-- ---- how large a total is

pub run_small : {key : Key} (j : ℕ) (ps : List Packet) {t : ℕ} → AllFormed ps → RunTo key j ps t → t ≤ 15 * j + 15
run_small j [] all r = absurd (unroll r)
run_small zero (p ∷ past) all r = let e = (unroll r).2 in omega (arith, all.0.few)
run_small (suc j) (p ∷ past) all r =
    let a = (unroll r).2 in
    let h = run_small j past all.1 a.1 in
    omega (arith, a.2, all.0.few)

pub run_low : {key : Key} (j : ℕ) (ps : List Packet) {t : ℕ} → AllFormed ps → RunTo key j ps t → j ≤ 15
run_low j [] all r = absurd (unroll r)
run_low j (p ∷ past) all r = omega (arith, (run_head j r).1, all.0.nibble)

-- the observations of an epoch are at most 225
pub total_small : {p : Packet} {past : List Packet} {t : ℕ} → AllFormed (p ∷ past) → p.key.n ≤ 15 → EpochEnds p past t → t ≤ 225
total_small {p} {past} all h e = omega (arith, run_small p.counter (p ∷ past) all e.run, e.last)

-- ---- document 01's words

-- packets at the front of a history, of one key and counting down from j
record Front (key : Key) (j : ℕ) (ps : List Packet) (t : ℕ) : Type 0 where
  pub packets : List Packet
  pub earlier : List Packet
  pub front : ps ≡ packets ++ earlier
  pub counters : map (λ (q : Packet). q.counter) packets ≡ countdown (suc j)
  pub keys : map (λ (q : Packet). q.key) packets ≡ replicate (suc j) key
  pub sum : observations_in packets ≡ t

front_of : {key : Key} {j t : ℕ} {ps : List Packet} → RunTo key j ps t → Front key j ps t
unfolding countdown observations_in
front_of {key} (begins {p = p} {past = past} k c) =
    record { packets = p ∷ []; earlier = past; front = refl; counters = ap (λ (n : ℕ). n ∷ []) c; keys = ap (λ (k : Key). k ∷ []) (sym (equal_key key p.key k)); sum = omega arith }
front_of {key} (follows {p = p} {j = j} r k c) =
    let f = front_of r in
    record {
      packets = p ∷ f.packets;
      earlier = f.earlier;
      front = ap (λ (ps : List Packet). p ∷ ps) f.front;
      counters = ap₂ (λ (n : ℕ) (ns : List ℕ). n ∷ ns) c f.counters;
      keys = ap₂ (λ (k : Key) (ks : List Key). k ∷ ks) (sym (equal_key key p.key k)) f.keys;
      sum = ap (λ (n : ℕ). n + p.observations) f.sum;
    }

same_front : {A : Type 0} {x y : A} {xs ys : List A} → x ∷ xs ≡ y ∷ ys → (x ≡ y) × (xs ≡ ys)
same_front e = (cc, cc)

of_front : {key : Key} (j : ℕ) (packets earlier : List Packet) → map (λ (q : Packet). q.counter) packets ≡ countdown (suc j)
    → map (λ (q : Packet). q.key) packets ≡ replicate (suc j) key → RunTo key j (packets ++ earlier) (observations_in packets)
unfolding countdown observations_in
of_front j [] earlier c k = let z : ◌≡◌ {A = ℕ} 0 1 = cc in absurd (omega arith)
of_front {key} zero (p ∷ []) earlier c k =
    let alone : p.observations ≡ 0 + p.observations = omega arith in
    subst (RunTo key 0 (p ∷ earlier)) alone (begins (same_key_lem key p.key (sym (same_front k).0)) (same_front c).0)
of_front zero (p ∷ q ∷ ps) earlier c k = let z : ◌≡◌ {A = ℕ} 0 1 = cc in absurd (omega arith)
of_front {key} (suc j) (p ∷ ps) earlier c k =
    follows (of_front j ps earlier (same_front c).1 (same_front k).1) (same_key_lem key p.key (sym (same_front k).0)) (same_front c).0

-- an epoch ends with a packet exactly when document 01's words hold of it
pub in_words : (p : Packet) (past : List Packet) (t : ℕ) → 1 ≤ p.key.n → EpochEnds p past t ↔ InWords p past t
unfolding countdown
in_words p past t some = (there, λ w. back p.key.n some refl w)
  where
    there : EpochEnds p past t → InWords p past t
    there e =
        let f = front_of e.run in
        record {
          packets = f.packets;
          earlier = f.earlier;
          front = f.front;
          counters = f.counters ∙ ap countdown e.last;
          keys = f.keys ∙ ap (λ (n : ℕ). replicate n p.key) e.last;
          sum = f.sum;
        }

    -- the first of the packets is p itself
    counted : {j : ℕ} (packets earlier : List Packet) → p ∷ past ≡ packets ++ earlier → map (λ (q : Packet). q.counter) packets ≡ countdown (suc j) → p.counter ≡ j
    counted [] earlier f c = let z : ◌≡◌ {A = ℕ} 0 1 = cc in absurd (omega arith)
    counted (q ∷ ps) earlier f c = ap (λ (p : Packet). p.counter) (same_front f).0 ∙ (same_front c).0

    back : (n : ℕ) → 1 ≤ n → n ≡ p.key.n → InWords p past t → EpochEnds p past t
    back zero h e w = absurd (omega arith)
    back (suc j) h e w =
        let counters = w.counters ∙ ap countdown (sym e) in
        let c = counted w.packets w.earlier w.front counters in
        let run : RunTo p.key j (p ∷ past) t
        = subst (RunTo p.key j (p ∷ past)) w.sum (subst (λ (ps : List Packet). RunTo p.key j ps (observations_in w.packets)) (sym w.front) (of_front j w.packets w.earlier counters (w.keys ∙ ap (λ (n : ℕ). replicate n p.key) (sym e)))) in
        record { last = ap suc c ∙ e; run = subst (λ (i : ℕ). RunTo p.key i (p ∷ past) t) (sym c) run }
