-- Which frames are packets: what a frame is by itself, and its tests. Later crates take packets as they are given and never unfold what is
-- defined here, so a new edition or a wider key changes this crate alone.
use Rattle.std.specs.Prelude.{ℕ, ◌/◌, ◌%◌, ◌≤◌, ◌<◌, Bool, ◌&&◌, not, List, [], ◌∷◌, ◌++◌, eqb, ltb}
use Rattle.refusals.specs.Refusals.{Answer, Tests, ordered}
use Rattle.observation.specs.Edition.{is_obs}
use Rattle.observation.specs.Obs.{reading_obs, obs_in}
use Rattle.observation.specs.declared.obs.Obs.{Obs}
use Rattle.packets.specs.declared.packet.Key.{Key}
use Rattle.packets.specs.declared.packet.Packet.{Packet}

-- packets of one epoch have the same tow, wn and n
unfoldable pub same_key : Key → Key → Bool
same_key a b = eqb a.tow b.tow && eqb a.wn b.wn && eqb a.n b.n

-- the upper four bits of n_obs are n, the lower four the counter
abbrev pub packet_of : Obs → Packet
packet_of o = record { key = record { tow = o.tow; wn = o.wn; n = o.n_obs / 16 }; counter = o.n_obs % 16; observations = o.count }

unfoldable pub packet_in : List ℕ → Packet
packet_in s = packet_of (obs_in s)

-- 46, 22: the type is an observation's, and the length one of the type's
unfoldable pub shape : ℕ → List ℕ → Tests
shape kind s = (is_obs kind, 46) ∷ (reading_obs s).tests

-- 44, 45: n is not 0, and the counter is below n
unfoldable pub numbering : Packet → Tests
numbering p = (not (eqb p.key.n 0), 44) ∷ (ltb p.counter p.key.n, 45) ∷ []

-- a frame by itself
abbrev pub recognised : ℕ → List ℕ → Answer Packet
recognised kind s = ordered (shape kind s ++ numbering (packet_in s)) (packet_in s)

-- the same in two steps
abbrev pub read_packet : ℕ → List ℕ → Answer Packet
read_packet kind s = ordered (shape kind s) (packet_in s)

abbrev pub numbered : Packet → Answer Packet
numbered p = ordered (numbering p) p

-- what holds of every packet that is recognised. Not that n is at most 15, for which the payload must be of bytes
pub record Formed (p : Packet) : Type 0 where
  pub below : p.counter < p.key.n
  pub nibble : p.counter ≤ 15
  pub few : p.observations ≤ 15

abbrev pub AllFormed : List Packet → Type 0
AllFormed [] = Unit {0}
AllFormed (p ∷ ps) = Formed p × AllFormed ps
