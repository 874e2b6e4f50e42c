-- What a step can come to, and that nothing is open once an epoch ended.
use Rattle.std.proofs.Common.{◌≡◌, ℕ, ◌+◌, ◌%◌, ◌<◌, Bool, true, false, cond, refl, arith, Option, Some, None}
use lib.Bits.{bit_or}
use Rattle.packets.specs.Packet.{same_key}
use Rattle.packets.specs.declared.packet.Packet.{Packet}
use Rattle.groups.specs.Group.{bit_of, all_come, open_with, whole_with, goes_on, begun, added, stepped}
use Rattle.groups.specs.declared.grouping.Part.{Part}
use Rattle.std.specs.Prelude.{Some, None}
use Rattle.groups.specs.declared.grouping.Stepped.{Stepped}
use Rattle.groups.proofs.Shifts.{bit_small}

pub not_whole : {t : ℕ} → None ≡ Some t → ⊥
not_whole e = let z : ◌≡◌ {A = ℕ} 0 1 = cc in omega arith

-- a step ends a group or leaves one of p's key open; its total is a u16's where the packet's own observations are, and what has come always
module _ (P : Stepped → Type 0) (p : Packet)
    (on-whole : (total : ℕ) → (p.observations < 65536 → total < 65536) → P (whole_with total))
    (on-opened : (come total : ℕ) → come < 65536 → (p.observations < 65536 → total < 65536) → P (open_with p.key come total)) where
  going : (come total : ℕ) → come < 65536 → (p.observations < 65536 → total < 65536) → P (goes_on p.key come total)
  unfolding goes_on
  going come total c h = by (all_come come p.key.n)
    where
      by : (t : Bool) → P (cond t (whole_with total) (open_with p.key come total))
      by true = on-whole total h
      by false = on-opened come total c h

  beginning : P (begun p)
  beginning = going (bit_of p.counter) p.observations (bit_small p.counter) (λ h. h)

  pub step_cases : (group : Option Part) → P (stepped group p)
  unfolding stepped
  step_cases None = beginning
  step_cases (Some part) = by (same_key part.key p.key)
    where
      by : (t : Bool) → P (cond t (added part p) (begun p))
      by true = going (bit_or part.come (bit_of p.counter) % 65536) ((part.total + p.observations) % 65536) (omega arith) (λ h. omega arith)
      by false = beginning

pub whole_rests : (p : Packet) (group : Option Part) (t : ℕ) → (stepped group p).ended ≡ Some t → (stepped group p).group ≡ None
whole_rests p =
    step_cases (λ (s : Stepped). (t : ℕ) → s.ended ≡ Some t → s.group ≡ None) p (λ total h t e. refl) (λ come total c h t e. absurd (not_whole e))
