-- What is open is a summary of the latest group: a step comes to the summary of the group that has its packet.
use Rattle.std.proofs.Common.{◌≡◌, ℕ, ◌+◌, ◌%◌, ◌^◌, ◌<◌, ◌≤◌, Bool, true, false, cond, not, ◌&&◌, List, [], ◌∷◌, sym, refl, ap, ◌∙◌, subst, ap₂, true≢false, mod-eq_of_lt, arith, eq-eqb, ne_eqb, Option, Some, None}
use mathlib.Core.Bool.{false≢true}
use lib.Bits.{bit_or, or_lt}
use Rattle.refusals.specs.Refusals.{refused, given, Answer, reply}
use Rattle.packets.specs.Packet.{same_key, Formed, AllFormed}
use Rattle.packets.specs.declared.packet.Key.{Key}
use Rattle.packets.specs.declared.packet.Packet.{Packet}
use Rattle.packets.proofs.Keys.{same_key_lem}
use Rattle.groups.specs.Group.{bit_of, all_come, open_with, whole_with, goes_on, begun, added, stepping, left_of, ended_of, left_open}
use Rattle.groups.specs.InWords.{has, has_all, whole, belongs, gathered, group_at, observations_in}
use Rattle.groups.specs.declared.grouping.Part.{Part}
use Rattle.std.specs.Prelude.{Some, None}
use Rattle.groups.specs.declared.grouping.Stepped.{Stepped}
use Rattle.groups.proofs.Answers.{at_idle, at_other, at_copy, at_new}
use Rattle.groups.proofs.Shifts.{bit_small}
use Rattle.groups.proofs.Weighed.{weighed, none_weighed, one_more, bit_weighed, at_most, all_full, full_all, or_new}
use Rattle.groups.proofs.Words.{sum_new, all_iff, belongs_iff}
use Rattle.groups.proofs.Gathered.{Kept, OneKey, belonging, group_one, copy_has, copy_sum, copy_all, few, below}

abbrev pub part_of : Key → List Packet → Part
part_of key g = record { key = key; come = weighed 2 key.n (has g); total = observations_in g }

abbrev pub summary : List Packet → Option Part
summary [] = None
summary (p ∷ g) = cond (whole (p ∷ g)) None (Some (part_of p.key (p ∷ g)))

-- what a step to this group leaves and ends
abbrev pub settled : List Packet → Stepped
settled g = record { group = summary g; ended = cond (whole g) (Some (observations_in g)) None }

-- ---- the bits of a group

-- all have come exactly where the bits say so
come_all : (g : List Packet) (n : ℕ) → all_come (weighed 2 n (has g)) n ≡ has_all g n
come_all g n = by (has_all g n) refl
  where
    by : (t : Bool) → has_all g n ≡ t → all_come (weighed 2 n (has g)) n ≡ t
    by true e = eq-eqb _ _ (all_full n (has g) ((all_iff g n).0 e))
    by false e = ne_eqb _ _ (λ full. true≢false (sym ((all_iff g n).1 (full_all n (has g) full)) ∙ e))

own_bit : (counter : ℕ) → counter ≤ 15 → bit_of counter ≡ 2 ^ counter
own_bit counter low = let same : counter % 16 ≡ counter = omega arith in ap (λ (i : ℕ). 2 ^ i) same

-- a new counter's bit is added
comes : (n : ℕ) (p : Packet) (g : List Packet) → p.counter ≤ 15 → p.counter < n → has g p.counter ≡ false
    → bit_or (weighed 2 n (has g)) (bit_of p.counter) ≡ weighed 2 n (has (p ∷ g))
unfolding has
comes n p g low h new =
    let bits = weighed 2 n (has g) in
    ap (bit_or bits) (own_bit p.counter low) ∙ or_new bits p.counter (bit_weighed n p.counter (has g) h ∙ new)
    ∙ sym (one_more 2 n p.counter (has g) h new)

-- all of them are a u16's
small : (key : Key) (g : List Packet) → Kept key g → weighed 2 key.n (has g) < 65536
unfolding has
small key [] kept = omega (arith, none_weighed 2 key.n)
small key (p ∷ g) kept = by (has g p.counter) refl (small key g kept.2)
  where
    by : (t : Bool) → has g p.counter ≡ t → weighed 2 key.n (has g) < 65536 → weighed 2 key.n (has (p ∷ g)) < 65536
    by true e h = rw (copy_has p g e) h
    by false e h =
        subst (λ (w : ℕ). w < 65536) (comes key.n p g kept.1.nibble (below p kept.0 kept.1) e)
        (or_lt 16 (weighed 2 key.n (has g)) (bit_of p.counter) h (bit_small p.counter))

-- ---- a step to a group, by its numbers

settles : (p : Packet) (g : List Packet) {come total : ℕ} → come ≡ weighed 2 p.key.n (has (p ∷ g)) → total ≡ observations_in (p ∷ g)
    → goes_on p.key come total ≡ settled (p ∷ g)
unfolding goes_on
settles p g c t = ap₂ (goes_on p.key) c t ∙ rw (come_all (p ∷ g) p.key.n) (by (whole (p ∷ g)) (part_of p.key (p ∷ g)))
  where
    by : (t : Bool) (part : Part)
        → cond t (whole_with part.total) (open_with part.key part.come part.total) ≡ record { group = cond t None (Some part); ended = cond t (Some part.total) None }
    by true part = refl
    by false part = refl

-- ---- a copy leaves what was open and ends nothing

-- a group that p belongs to is open
stands : (p : Packet) (g : List Packet) → belongs g p ≡ true → Some (part_of p.key g) ≡ summary g
stands p [] b = absurd (false≢true b)
stands p (q ∷ g) b =
    let tests = (belongs_iff q g p).0 b in
    rw tests.0 (ap (λ (k : Key). Some (part_of k (q ∷ g))) (sym tests.1))

copy_part : (p : Packet) (g : List Packet) → has g p.counter ≡ true → (key : Key) → part_of key g ≡ part_of key (p ∷ g)
copy_part p g e key =
    ap₂ (λ (f : ℕ → Bool) (sum : ℕ). record { key = key; come = weighed 2 key.n f; total = sum }) (sym (copy_has p g e)) (sym (copy_sum p g e))

copied : (p : Packet) (g : List Packet) → OneKey g → belongs g p ≡ true → has g p.counter ≡ true → record { group = summary g; ended = None } ≡ settled (p ∷ g)
copied p g one b e =
    ap (λ (group : Option Part). record { group = group; ended = None }) (sym (stands p g b) ∙ ap Some (copy_part p g e p.key))
    ∙ rw (copy_all p g e p.key.n ∙ (belonging g p one b).1)

-- ---- a packet opens a group, or is added to one

module _ (p : Packet) (formed : Formed p) where
  begins : begun p ≡ settled (p ∷ [])
  unfolding has observations_in
  begins =
      settles p []
      (ap (λ (w : ℕ). bit_or w (bit_of p.counter)) (sym (none_weighed 2 p.key.n)) ∙ comes p.key.n p [] formed.nibble formed.below refl)
      (omega arith)

  adds : (g : List Packet) → Kept p.key g → has g p.counter ≡ false → added (part_of p.key g) p ≡ settled (p ∷ g)
  adds g kept new = settles p g come sum
    where
      come : bit_or (weighed 2 p.key.n (has g)) (bit_of p.counter) % 65536 ≡ weighed 2 p.key.n (has (p ∷ g))
      come =
          ap (λ (w : ℕ). w % 65536) (comes p.key.n p g formed.nibble formed.below new)
          ∙ mod-eq_of_lt (small p.key (p ∷ g) (refl, formed, kept))

      sum : (observations_in g + p.observations) % 65536 ≡ observations_in (p ∷ g)
      sum = omega (arith, sum_new p g new, few 16 (λ q same f. omega (arith, f.nibble)) g kept, at_most 16 (has g), formed.few)

  -- p begins a group where it belongs to none
  opens : (g : List Packet) → belongs g p ≡ false → given (begun p) ≡ reply (stepping (summary g) p)
  opens [] b = at_idle p refl
  opens (q ∷ g) b = by (whole (q ∷ g)) refl b
    where
      by : (w : Bool) → whole (q ∷ g) ≡ w → (not w && same_key q.key p.key) ≡ false → given (begun p) ≡ reply (stepping (summary (q ∷ g)) p)
      by true e b = at_idle p (ap (λ (t : Bool). cond t None (Some (part_of q.key (q ∷ g)))) (sym e))
      by false e b = at_other p (part_of q.key (q ∷ g)) (ap (λ (t : Bool). cond t None (Some (part_of q.key (q ∷ g)))) (sym e)) b

  -- where it belongs to one, its bit tells whether its counter has come
  module _ (g : List Packet) (b : belongs g p ≡ true) where
    refuses : has g p.counter ≡ true → refused 47 ≡ reply (stepping (summary g) p)
    refuses e =
        at_copy p (part_of p.key g) (stands p g b) (same_key_lem p.key p.key refl) (bit_weighed p.key.n p.counter (has g) formed.below ∙ e)

    takes : has g p.counter ≡ false → given (added (part_of p.key g) p) ≡ reply (stepping (summary g) p)
    takes e =
        at_new p (part_of p.key g) (stands p g b) (same_key_lem p.key p.key refl) (bit_weighed p.key.n p.counter (has g) formed.below ∙ e)

  -- 47 for a copy, else the group with p
  pub replied : (g : List Packet) → OneKey g
      → reply (stepping (summary g) p) ≡ cond (belongs g p && has g p.counter) (refused 47) (given (settled (gathered g p)))
  replied g one = by (belongs g p) refl
    where
      came : belongs g p ≡ true → (t : Bool) → has g p.counter ≡ t → reply (stepping (summary g) p) ≡ cond t (refused 47) (given (settled (p ∷ g)))
      came b true e = sym (refuses g b e)
      came b false e = sym (takes g b e) ∙ ap given (adds g (belonging g p one b).0 e)

      by : (t : Bool) → belongs g p ≡ t
          → reply (stepping (summary g) p) ≡ cond (t && has g p.counter) (refused 47) (given (settled (cond t (p ∷ g) (p ∷ []))))
      by true b = came b (has g p.counter) refl
      by false b = sym (opens g b) ∙ ap given begins

-- ---- packet by packet

abbrev after : Option Part → Answer Stepped → Stepped
after group a = record { group = left_of group a; ended = ended_of a }

-- a step leaves the summary of the group with p, copy or not, and ends it where it is whole
pub steps_to : (p : Packet) (g : List Packet) → Formed p → OneKey g → after (summary g) (reply (stepping (summary g) p)) ≡ settled (gathered g p)
steps_to p g formed one = ap (after (summary g)) (replied p formed g one) ∙ by (belongs g p) refl
  where
    came : belongs g p ≡ true → (t : Bool) → has g p.counter ≡ t → after (summary g) (cond t (refused 47) (given (settled (p ∷ g)))) ≡ settled (p ∷ g)
    came b true e = copied p g one b e
    came b false e = refl

    by : (t : Bool) → belongs g p ≡ t
        → after (summary g) (cond (t && has g p.counter) (refused 47) (given (settled (cond t (p ∷ g) (p ∷ []))))) ≡ settled (cond t (p ∷ g) (p ∷ []))
    by true e = came e (has g p.counter) refl
    by false e = refl

-- what packets leave open is the summary of the group of the latest
pub left_open_lem : (past : List Packet) → AllFormed past → left_open past ≡ summary (group_at past)
unfolding left_open group_at
left_open_lem [] all = refl
left_open_lem (p ∷ past) all =
    ap (λ (group : Option Part). left_of group (reply (stepping group p))) (left_open_lem past all.1)
    ∙ ap (λ (s : Stepped). s.group) (steps_to p (group_at past) all.0 (group_one past all.1))
