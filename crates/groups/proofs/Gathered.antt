-- Groups of packets, looked at without a step: they have one key, a copy adds nothing to them, and their observations are few.
use Rattle.std.proofs.Common.{◌≡◌, ℕ, zero, suc, ◌+◌, ◌*◌, ◌<◌, ◌≤◌, Bool, true, false, cond, ◌&&◌, eqb, List, [], ◌∷◌, sym, refl, ap, ◌∙◌, subst, ap₂, arith, eqb-true}
use mathlib.Core.Bool.{false≢true}
use Rattle.packets.specs.Packet.{Formed, AllFormed}
use Rattle.packets.specs.declared.packet.Key.{Key}
use Rattle.packets.specs.declared.packet.Packet.{Packet}
use Rattle.groups.specs.InWords.{has, has_all, belongs, group_at, observations_in}
use Rattle.groups.proofs.Words.{latest, belongs_iff}
use Rattle.groups.proofs.Weighed.{weighed, one_more, one_power}

-- ---- a group has one key

abbrev pub Kept : Key → List Packet → Type 0
Kept key [] = Unit {0}
Kept key (p ∷ g) = (p.key ≡ key) × Formed p × Kept key g

abbrev pub OneKey : List Packet → Type 0
OneKey [] = Unit {0}
OneKey (p ∷ g) = Kept p.key (p ∷ g)

-- a packet belongs to a group of its key that is not whole
pub belonging : (g : List Packet) (p : Packet) → OneKey g → belongs g p ≡ true → Kept p.key g × (has_all g p.key.n ≡ false)
belonging [] p one b = absurd (false≢true b)
belonging (q ∷ g) p one b =
    let tests = (belongs_iff q g p).0 b in
    subst (λ (k : Key). Kept k (q ∷ g) × (has_all (q ∷ g) k.n ≡ false)) tests.1 (one, tests.0)

pub group_one : (past : List Packet) → AllFormed past → OneKey (group_at past)
unfolding group_at
group_one [] all = tt
group_one (p ∷ past) all =
    latest OneKey p past (λ b. (refl, all.0, (belonging (group_at past) p (group_one past all.1) b).0)) (λ b. (refl, all.0, tt))

pub group_kept : (p : Packet) (past : List Packet) → AllFormed (p ∷ past) → Kept p.key (group_at (p ∷ past))
group_kept p past all = latest (λ (g : List Packet). OneKey g → Kept p.key g) p past (λ b k. k) (λ b k. k) (group_one (p ∷ past) all)

-- ---- a copy adds nothing

module _ (p : Packet) (g : List Packet) (come : has g p.counter ≡ true) where
  pub copy_has : has (p ∷ g) ≡ has g
  unfolding has
  copy_has = λ k i. by i (eqb p.counter i) refl k
    where
      by : (i : ℕ) (t : Bool) → eqb p.counter i ≡ t → cond t true (has g i) ≡ has g i
      by i true e = sym come ∙ ap (has g) (eqb-true _ _ e)
      by i false e = refl

  pub copy_sum : observations_in (p ∷ g) ≡ observations_in g
  unfolding observations_in
  copy_sum = rw come

  pub copy_all : (n : ℕ) → has_all (p ∷ g) n ≡ has_all g n
  unfolding has_all
  copy_all zero = refl
  copy_all (suc n) = ap₂ (λ (t u : Bool). t && u) (ap (λ (f : ℕ → Bool). f n) copy_has) (copy_all n)

-- ---- the observations are few

module _ {key : Key} (m : ℕ) (low : (p : Packet) → p.key ≡ key → Formed p → p.counter < m) where
  pub few : (g : List Packet) → Kept key g → observations_in g ≤ 15 * weighed 1 m (has g)
  unfolding has observations_in
  few [] kept = omega arith
  few (p ∷ g) kept = by (has g p.counter) refl (few g kept.2)
    where
      by : (t : Bool) → has g p.counter ≡ t → observations_in g ≤ 15 * weighed 1 m (has g)
          → cond t (observations_in g) (observations_in g + p.observations) ≤ 15 * weighed 1 m (has (p ∷ g))
      by true e h = omega (arith, ap (weighed 1 m) (copy_has p g e))
      by false e h = omega (arith, one_more 1 m p.counter (has g) (low p kept.0 kept.1) e, one_power p.counter, kept.1.few)

pub below : {key : Key} (p : Packet) → p.key ≡ key → Formed p → p.counter < key.n
below p same formed = subst (λ (k : Key). p.counter < k.n) same formed.below
