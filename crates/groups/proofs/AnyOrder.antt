-- Packets of one group that all count come to the same in any order: they end the same epochs, and what is left of them is alike.
use Rattle.std.proofs.Common.{◌≡◌, ℕ, zero, suc, ◌+◌, ◌<◌, Bool, true, false, cond, not, ◌&&◌, eqb, List, [], ◌∷◌, ◌++◌, sym, refl, ap, ◌∙◌, subst, ap₂, subst₂, inl, inr, ⊎_elim, arith}
use mathlib.Core.Bool.{and-false}
use Rattle.packets.specs.Packet.{same_key, Formed}
use Rattle.packets.specs.declared.packet.Key.{Key}
use Rattle.packets.specs.declared.packet.Packet.{Packet}
use Rattle.groups.specs.InWords.{has, has_all, whole, belongs, gathered, group_at, is_copy, observations_in, Come}
use Rattle.groups.specs.AnyOrder.{Reordered, none, first, AllCount}
use Rattle.groups.proofs.Words.{has_none, has_other, sum_new, missing, latest, joined, whole_at, belongs_at}

-- ---- what packets end, and what they leave

-- packets one after the other, onto those of the past
unfoldable pub onto : List Packet → List Packet → List Packet
onto past [] = past
onto past (p ∷ ps) = onto (p ∷ past) ps

-- the epochs that they end, each by its key and its sum
unfoldable pub endings : List Packet → List Packet → List (Key × ℕ)
unfolding group_at observations_in
endings past [] = []
endings past (p ∷ ps) =
    let g = group_at (p ∷ past) in
    cond (whole g) ((p.key, observations_in g) ∷ endings (p ∷ past) ps) (endings (p ∷ past) ps)

-- ---- groups that are alike: all that later packets and their ends can see of a group

abbrev pub SameHead : List Packet → List Packet → Type 0
SameHead [] [] = Unit {0}
SameHead [] (q ∷ h) = ⊥
SameHead (p ∷ g) [] = ⊥
SameHead (p ∷ g) (q ∷ h) = p.key ≡ q.key

pub record Alike (g h : List Packet) : Type 0 where
  pub same_head : SameHead g h
  pub same_has : (i : ℕ) → has g i ≡ has h i
  pub same_sum : observations_in g ≡ observations_in h

alike_self : (g : List Packet) → Alike g g
alike_self g = record { same_head = head g; same_has = λ i. refl; same_sum = refl }
  where
    head : (g : List Packet) → SameHead g g
    head [] = tt
    head (p ∷ g) = refl

alike_then : {f g h : List Packet} → Alike f g → Alike g h → Alike f h
alike_then {f} {g} {h} a b =
    record { same_head = head f g h a.same_head b.same_head; same_has = λ i. a.same_has i ∙ b.same_has i; same_sum = a.same_sum ∙ b.same_sum }
  where
    head : (f g h : List Packet) → SameHead f g → SameHead g h → SameHead f h
    head [] [] h a b = b
    head [] (q ∷ g) h a b = absurd a
    head (p ∷ f) [] h a b = absurd a
    head (p ∷ f) (q ∷ g) [] a b = b
    head (p ∷ f) (q ∷ g) (r ∷ h) a b = a ∙ b

same_all : {g h : List Packet} → Alike g h → (n : ℕ) → has_all g n ≡ has_all h n
unfolding has_all
same_all a zero = refl
same_all a (suc n) = ap₂ ◌&&◌ (a.same_has n) (same_all a n)

pub same_whole : {g h : List Packet} → Alike g h → whole g ≡ whole h
same_whole {g} {h} a = by g h a.same_head (same_all a)
  where
    by : (g h : List Packet) → SameHead g h → ((n : ℕ) → has_all g n ≡ has_all h n) → whole g ≡ whole h
    by [] [] k e = refl
    by [] (q ∷ h) k e = absurd k
    by (p ∷ g) [] k e = absurd k
    by (p ∷ g) (q ∷ h) k e = e p.key.n ∙ ap (λ (key : Key). has_all (q ∷ h) key.n) k

same_belongs : {g h : List Packet} → Alike g h → (p : Packet) → belongs g p ≡ belongs h p
same_belongs {g} {h} a p = by g h a.same_head (same_whole a)
  where
    by : (g h : List Packet) → SameHead g h → whole g ≡ whole h → belongs g p ≡ belongs h p
    by [] [] k w = refl
    by [] (q ∷ h) k w = absurd k
    by (q ∷ g) [] k w = absurd k
    by (q ∷ g) (r ∷ h) k w = ap₂ (λ (t : Bool) (key : Key). not t && same_key key p.key) w k

-- the next packet keeps them alike
alike_more : (p : Packet) {g h : List Packet} → Alike g h → Alike (p ∷ g) (p ∷ h)
unfolding observations_in
alike_more p a =
    record {
      same_head = refl;
      same_has = λ i. ap (cond (eqb p.counter i) true) (a.same_has i);
      same_sum = ap₂ (λ (t : Bool) (n : ℕ). cond t n (n + p.observations)) (a.same_has p.counter) a.same_sum;
    }

alike_next : (p : Packet) (a b : List Packet) → Alike (group_at a) (group_at b) → Alike (group_at (p ∷ a)) (group_at (p ∷ b))
unfolding group_at
alike_next p a b alike =
    subst (λ (t : Bool). Alike (gathered (group_at a) p) (cond t (p ∷ group_at b) (p ∷ []))) (same_belongs alike p) (by (belongs (group_at a) p))
  where
    by : (t : Bool) → Alike (cond t (p ∷ group_at a) (p ∷ [])) (cond t (p ∷ group_at b) (p ∷ []))
    by true = alike_more p alike
    by false = alike_self (p ∷ [])

-- ---- packets that come to the same, ps onto a and qs onto b: they end the same epochs and leave groups alike

abbrev pub Same : List Packet → List Packet → List Packet → List Packet → Type 0
Same a ps b qs = (endings a ps ≡ endings b qs) × Alike (group_at (onto a ps)) (group_at (onto b qs))

same_then : (past ps qs rs : List Packet) → Same past ps past qs → Same past qs past rs → Same past ps past rs
same_then past ps qs rs s t = (s.0 ∙ t.0, alike_then s.1 t.1)

-- they do where the first of each leave groups alike, and the others come to the same
same_after : (p q : Packet) (a b ps qs : List Packet) → p.key ≡ q.key → Alike (group_at (p ∷ a)) (group_at (q ∷ b)) → Same (p ∷ a) ps (q ∷ b) qs
    → Same a (p ∷ ps) b (q ∷ qs)
unfolding endings onto
same_after p q a b ps qs k alike s = (λ i. cond (same_whole alike i) ((k i, alike.same_sum i) ∷ s.0 i) (s.0 i), s.1)

same_next : (p : Packet) (past ps qs : List Packet) → Same (p ∷ past) ps (p ∷ past) qs → Same past (p ∷ ps) past (p ∷ qs)
same_next p past ps qs s = same_after p p past past ps qs refl (alike_self (group_at (p ∷ past))) s

-- the same packets onto groups that are alike
same_on : (ps a b : List Packet) → Alike (group_at a) (group_at b) → Same a ps b ps
unfolding endings onto
same_on [] a b alike = (refl, alike)
same_on (p ∷ ps) a b alike = let next = alike_next p a b alike in same_after p p a b ps ps refl next (same_on ps (p ∷ a) (p ∷ b) next)

-- a packet that ends nothing
silent : (p : Packet) (past ps : List Packet) → whole (group_at (p ∷ past)) ≡ false → endings past (p ∷ ps) ≡ endings (p ∷ past) ps
unfolding endings
silent p past ps e = ap (λ (t : Bool). cond t ((p.key, observations_in (group_at (p ∷ past))) ∷ endings (p ∷ past) ps) (endings (p ∷ past) ps)) e

-- ---- what a packet finds: the open group where it belongs to it, else none

found : List Packet → Packet → List Packet
found past p = cond (belongs (group_at past) p) (group_at past) []

group_found : (p : Packet) (past : List Packet) → group_at (p ∷ past) ≡ p ∷ found past p
unfolding found
group_found p past =
    let with_it : Bool → List Packet = λ t. p ∷ cond t (group_at past) [] in
    latest (λ (g : List Packet). g ≡ p ∷ found past p) p past (λ e. ap with_it (sym e)) (λ e. ap with_it (sym e))

-- packets of one key find the same
same_found : (past : List Packet) (p q : Packet) → p.key ≡ q.key → found past p ≡ found past q
unfolding found
same_found past p q k = ap (λ (t : Bool). cond t (group_at past) []) (by (group_at past))
  where
    by : (g : List Packet) → belongs g p ≡ belongs g q
    by [] = refl
    by (r ∷ g) = ap (λ (key : Key). not (whole (r ∷ g)) && same_key r.key key) k

-- a packet that is no copy finds its counter missing
found_new : (past : List Packet) (p : Packet) → is_copy past p ≡ false → has (found past p) p.counter ≡ false
unfolding found
found_new past p = by (belongs (group_at past) p)
  where
    by : (t : Bool) → (t && has (group_at past) p.counter) ≡ false → has (cond t (group_at past) []) p.counter ≡ false
    by true e = e
    by false e = has_none p.counter

-- ---- two packets of one key with different counters

either_way : (s t b : Bool) → cond s true (cond t true b) ≡ cond t true (cond s true b)
either_way true true b = refl
either_way true false b = refl
either_way false t b = refl

-- on a group that has neither counter
alike_two : (p q : Packet) (g : List Packet) → p.key ≡ q.key → (p.counter ≡ q.counter → ⊥) → has g p.counter ≡ false → has g q.counter ≡ false
    → Alike (q ∷ p ∷ g) (p ∷ q ∷ g)
unfolding has
alike_two p q g k other new-p new-q =
    let after-p = sum_new q (p ∷ g) (has_other p g other ∙ new-q) in
    let after-q = sum_new p (q ∷ g) (has_other q g (λ e. other (sym e)) ∙ new-p) in
    record {
      same_head = sym k;
      same_has = λ i. either_way (eqb q.counter i) (eqb p.counter i) (has g i);
      same_sum = omega (arith, after-p, after-q, sum_new p g new-p, sum_new q g new-q);
    }

-- q is no copy. After p its counter is still missing, so it still is none, and p has not ended an epoch
module _ (past : List Packet) (p q : Packet) (k : p.key ≡ q.key) (other : p.counter ≡ q.counter → ⊥) (new : is_copy past q ≡ false) where
  missed : has (group_at (p ∷ past)) q.counter ≡ false
  missed =
      ap (λ (g : List Packet). has g q.counter) (group_found p past ∙ ap (λ (g : List Packet). p ∷ g) (same_found past p q k))
      ∙ has_other p (found past q) other ∙ found_new past q new

  still_new : is_copy (p ∷ past) q ≡ false
  still_new = ap (λ (t : Bool). belongs (group_at (p ∷ past)) q && t) missed ∙ and-false (belongs (group_at (p ∷ past)) q)

  module _ (formed : Formed q) where
    not_ended : whole (group_at (p ∷ past)) ≡ false
    not_ended = whole_at p past ∙ missing (group_at (p ∷ past)) missed (subst (λ (key : Key). q.counter < key.n) (sym k) formed.below)

    both : group_at (q ∷ p ∷ past) ≡ q ∷ p ∷ found past p
    both = joined q (p ∷ past) ((belongs_at p past q).1 (not_ended, k)) ∙ ap (λ (g : List Packet). q ∷ g) (group_found p past)

-- neither is a copy: they come to the same in either order
same_swap : (past : List Packet) (p q : Packet) → p.key ≡ q.key → (p.counter ≡ q.counter → ⊥) → Formed p → Formed q
    → is_copy past p ≡ false → is_copy past q ≡ false → (rest : List Packet) → Same past (p ∷ q ∷ rest) past (q ∷ p ∷ rest)
unfolding onto
same_swap past p q k other formed-p formed-q new-p new-q rest =
    (silent p past (q ∷ rest) (not_ended past p q k other new-q formed-q) ∙ s.0 ∙ sym (silent q past (p ∷ rest) (not_ended past q p (sym k) other' new-p formed-p)), s.1)
  where
    other' : q.counter ≡ p.counter → ⊥
    other' e = other (sym e)

    same : found past q ≡ found past p
    same = sym (same_found past p q k)

    alike : Alike (group_at (q ∷ p ∷ past)) (group_at (p ∷ q ∷ past))
    alike =
        let new = ap (λ (g : List Packet). has g q.counter) (sym same) ∙ found_new past q new-q in
        let behind = both past q p (sym k) other' new-p formed-p ∙ ap (λ (g : List Packet). p ∷ q ∷ g) same in
        subst₂ Alike (sym (both past p q k other new-q formed-q)) (sym behind) (alike_two p q (found past p) k other (found_new past p new-p) new)

    s : Same (p ∷ past) (q ∷ rest) (q ∷ past) (p ∷ rest)
    s = same_after q p (p ∷ past) (q ∷ past) rest rest (sym k) alike (same_on rest (q ∷ p ∷ past) (p ∷ q ∷ past) alike)

-- ---- the same packets in another order still count

-- a packet put among others brings its own counter alone
module _ (x : Packet) (behind : List Packet) (i : ℕ) where
  come_put : (before : List Packet) → Come (before ++ x ∷ behind) i → Come (x ∷ (before ++ behind)) i
  come_put [] c = c
  come_put (y ∷ before) (inl c) = inr (inl c)
  come_put (y ∷ before) (inr c) = ⊎_elim inl (λ c. inr (inr c)) (come_put before c)

come_reordered : {ps qs : List Packet} → Reordered ps qs → (i : ℕ) → Come qs i → Come ps i
come_reordered none i c = c
come_reordered (first {x = x} before behind r) i c = ⊎_elim inl (λ c. inr (come_reordered r i c)) (come_put x behind i before c)

module _ (key : Key) (past : List Packet) where
  count_swap : (x y : Packet) (zs : List Packet) → AllCount key past (x ∷ y ∷ zs) → AllCount key past (y ∷ x ∷ zs)
  count_swap x y zs all =
      let rest = all.4 in
      (rest.0, rest.1, rest.2, ⊎_elim (λ e. all.3 (inl (sym e))) rest.3, (all.0, all.1, all.2, λ c. all.3 (inr c), rest.4))

  count_put : (x : Packet) (before behind : List Packet) → AllCount key past (x ∷ (before ++ behind)) → AllCount key past (before ++ x ∷ behind)
  count_put x [] behind all = all
  count_put x (y ∷ before) behind all =
      let s = count_swap x y (before ++ behind) all in
      (s.0, s.1, s.2, λ c. s.3 (come_put x behind y.counter before c), count_put x before behind s.4)

  count_keep : (x : Packet) {xs ys : List Packet} → Reordered xs ys → AllCount key past ys → AllCount key past (x ∷ xs) → AllCount key past (x ∷ ys)
  count_keep x r ys all = (all.0, all.1, all.2, λ c. all.3 (come_reordered r x.counter c), ys)

  count_reordered : {ps qs : List Packet} → Reordered ps qs → AllCount key past ps → AllCount key past qs
  count_reordered none all = all
  count_reordered (first {x = x} before behind r) all = count_put x before behind (count_keep x r (count_reordered r all.4) all)

  -- after the first of them the others count
  count_next : (p : Packet) (ps : List Packet) → AllCount key past (p ∷ ps) → AllCount key (p ∷ past) ps
  count_next p [] all = tt
  count_next p (q ∷ ps) all =
      let rest = all.4 in
      let k = all.1 ∙ sym rest.1 in
      (rest.0, rest.1, still_new past p q k (λ e. all.3 (inl (sym e))) rest.2, rest.3, count_next p ps (all.0, all.1, all.2, λ c. all.3 (inr c), rest.4))

-- ---- any order

-- the first of packets may come anywhere among the others
same_put : (key : Key) (past : List Packet) (x : Packet) (before behind : List Packet) → AllCount key past (x ∷ (before ++ behind))
    → Same past (x ∷ (before ++ behind)) past (before ++ x ∷ behind)
same_put key past x [] behind all = (refl, alike_self (group_at (onto past (x ∷ behind))))
same_put key past x (y ∷ before) behind all =
    let zs = before ++ behind in
    let rest = all.4 in
    let swapped = count_swap key past x y zs all in
    same_then past (x ∷ y ∷ zs) (y ∷ x ∷ zs) (y ∷ (before ++ x ∷ behind))
    (same_swap past x y (all.1 ∙ sym rest.1) (λ e. all.3 (inl (sym e))) all.0 rest.0 all.2 rest.2 zs)
    (same_next y past (x ∷ zs) (before ++ x ∷ behind) (same_put key (y ∷ past) x before behind (count_next key past y (x ∷ zs) swapped)))

pub any_order : (key : Key) (past ps qs : List Packet) → AllCount key past ps → Reordered ps qs → Same past ps past qs
any_order key past ps qs all none = (refl, alike_self (group_at (onto past [])))
any_order key past ps qs all (first {x = x} {xs = xs} before behind r) =
    let zs = before ++ behind in
    same_then past (x ∷ xs) (x ∷ zs) (before ++ x ∷ behind)
    (same_next x past xs zs (any_order key (x ∷ past) xs zs (count_next key past x xs all) r))
    (same_put key past x before behind (count_keep key past x r (count_reordered key past r all.4) all))
