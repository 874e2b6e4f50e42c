-- A step ends an epoch exactly when document 02 says that one ends, and answers 47 exactly at a copy.
use Rattle.std.proofs.Common.{◌≡◌, ℕ, ◌≤◌, Bool, true, false, cond, ◌↔◌, List, ◌∷◌, sym, refl, ap, ◌∙◌, true≢false, arith, Option}
use mathlib.Core.Bool.{false≢true}
use Rattle.refusals.specs.Refusals.{refused, given, reply}
use Rattle.refusals.proofs.Distinct.{never_both}
use Rattle.packets.specs.Packet.{AllFormed}
use Rattle.packets.specs.declared.packet.Packet.{Packet}
use Rattle.groups.specs.Group.{stepping, ended_of, left_open}
use Rattle.groups.specs.InWords.{has, whole, gathered, group_at, is_copy, observations_in, EpochEnds}
use Rattle.groups.specs.declared.grouping.Part.{Part}
use Rattle.std.specs.Prelude.{Some, None}
use Rattle.groups.specs.declared.grouping.Stepped.{Stepped}
use Rattle.groups.proofs.StepCases.{not_whole}
use Rattle.groups.proofs.Weighed.{at_most}
use Rattle.groups.proofs.Gathered.{group_one, group_kept, few, below}
use Rattle.groups.proofs.Summaries.{settled, replied, steps_to, left_open_lem}

same_whole : {t u : ℕ} → Some t ≡ Some u → t ≡ u
same_whole e = cc

ended_at : (p : Packet) (past : List Packet) → AllFormed (p ∷ past)
    → ended_of (reply (stepping (left_open past) p)) ≡ cond (whole (group_at (p ∷ past))) (Some (observations_in (group_at (p ∷ past)))) None
unfolding group_at
ended_at p past all =
    ap (λ (group : Option Part). ended_of (reply (stepping group p))) (left_open_lem past all.1)
    ∙ ap (λ (s : Stepped). s.ended) (steps_to p (group_at past) all.0 (group_one past all.1))

-- a step comes to a whole epoch exactly when the packets end one
pub whole_epoch : (p : Packet) (past : List Packet) (t : ℕ) → AllFormed (p ∷ past)
    → (ended_of (reply (stepping (left_open past) p)) ≡ Some t) ↔ EpochEnds p past t
whole_epoch p past t all = rw (ended_at p past all) (by (whole (group_at (p ∷ past))) refl)
  where
    by : (b : Bool) → whole (group_at (p ∷ past)) ≡ b → (cond b (Some (observations_in (group_at (p ∷ past)))) None ≡ Some t) ↔ EpochEnds p past t
    by true e = (λ w. record { all_come = e; sum = same_whole w }, λ ends. ap Some ends.sum)
    by false e = (λ w. absurd (not_whole w), λ ends. absurd (true≢false (sym ends.all_come ∙ e)))

-- 47 is answered exactly at a copy
pub copy_refused : (p : Packet) (past : List Packet) → AllFormed (p ∷ past)
    → (reply (stepping (left_open past) p) ≡ refused 47) ↔ (is_copy past p ≡ true)
copy_refused p past all = rw (left_open_lem past all.1, replied p all.0 (group_at past) (group_one past all.1)) (by (is_copy past p))
  where
    by : (b : Bool) → (cond b (refused 47) (given (settled (gathered (group_at past) p))) ≡ refused 47) ↔ (b ≡ true)
    by true = (λ e. refl, λ e. refl)
    by false = (λ e. absurd (never_both refl e), λ e. absurd (false≢true e))

-- the observations of an epoch are at most 225
pub total_small : {p : Packet} {past : List Packet} {t : ℕ} → AllFormed (p ∷ past) → p.key.n ≤ 15 → EpochEnds p past t → t ≤ 225
total_small {p} {past} all h ends =
    let g = group_at (p ∷ past) in
    omega (arith, ends.sum, few p.key.n below g (group_kept p past all), at_most p.key.n (has g))
