-- What a step can come to, and that nothing is open once an epoch ended.
use Rattle.std.proofs.Common.{◌≡◌, ℕ, ◌+◌, ◌%◌, ◌<◌, Bool, true, false, cond, eqb, refl, arith, Option, Some, None}
use Rattle.runs.specs.Run.{dropped, open_with, whole_with, goes_on, fits, summed, continued, stepped}
use Rattle.packets.specs.declared.packet.Packet.{Packet}
use Rattle.runs.specs.declared.running.Part.{Part}
use Rattle.runs.specs.declared.running.Stepped.{Stepped}

pub not_whole : {t : ℕ} → ◌≡◌ {A = Option ℕ} None (Some t) → ⊥
not_whole e = let z : ◌≡◌ {A = ℕ} 0 1 = cc in omega arith

-- a step drops the run, ends it or leaves it open; its total is a u16's where the packet's own observations are
module _ (P : Stepped → Type 0) (p : Packet) (on-dropped : P dropped)
    (on-whole : (total : ℕ) → (p.observations < 65536 → total < 65536) → P (whole_with p total))
    (on-opened : (total : ℕ) → (p.observations < 65536 → total < 65536) → P (open_with p total)) where
  going : (total : ℕ) → (p.observations < 65536 → total < 65536) → P (goes_on p total)
  unfolding goes_on
  going total h = by (eqb ((p.counter + 1) % 256) p.key.n)
    where
      by : (t : Bool) → P (cond t (whole_with p total) (open_with p total))
      by true = on-whole total h
      by false = on-opened total h

  continuing : (run : Option Part) → P (continued run p)
  unfolding continued
  continuing None = on-dropped
  continuing (Some part) = by (fits part p)
    where
      by : (t : Bool) → P (cond t (goes_on p (summed part p)) dropped)
      by true = going (summed part p) (λ h. omega arith)
      by false = on-dropped

  pub step_cases : (run : Option Part) → P (stepped run p)
  unfolding stepped
  step_cases run = by (eqb p.counter 0)
    where
      by : (t : Bool) → P (cond t (goes_on p p.observations) (continued run p))
      by true = going p.observations (λ h. h)
      by false = continuing run

pub whole_rests : (p : Packet) (run : Option Part) (t : ℕ) → (stepped run p).ended ≡ Some t → (stepped run p).run ≡ None
whole_rests p = step_cases (λ (s : Stepped). (t : ℕ) → s.ended ≡ Some t → s.run ≡ None) p (λ t e. refl) (λ total h t e. refl) (λ total h t e. absurd (not_whole e))
