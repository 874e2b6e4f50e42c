-- An epoch in document 01's words, over the packets of one sender.
use Rattle.std.specs.Prelude.{◌≡◌, ℕ, zero, suc, ◌+◌, true, List, [], ◌∷◌, ◌++◌, map, replicate}
use Rattle.packets.specs.Packet.{same_key}
use Rattle.packets.specs.declared.packet.Key.{Key}
use Rattle.packets.specs.declared.packet.Packet.{Packet}

-- a run of packets, the latest first: of one key, with counters 0 up to j, and their observations together
pub data RunTo (key : Key) : ℕ → List Packet → ℕ → Type 0 where
  begins : {p : Packet} {past : List Packet} → same_key key p.key ≡ true → p.counter ≡ 0 → RunTo key 0 (p ∷ past) p.observations
  follows : {p : Packet} {past : List Packet} {j total : ℕ} → RunTo key j past total → same_key key p.key ≡ true → p.counter ≡ suc j
      → RunTo key (suc j) (p ∷ past) (total + p.observations)

-- the latest packet is the last of an epoch: a run of n packets that follow one another, with counters 0 to n - 1
pub record EpochEnds (p : Packet) (past : List Packet) (total : ℕ) : Type 0 where
  pub last : suc p.counter ≡ p.key.n
  pub run : RunTo p.key p.counter (p ∷ past) total

-- the same, packet by packet: n of them stand next to one another at the front of the history, with counters n - 1 down to 0, all of one key
unfoldable pub countdown : ℕ → List ℕ
countdown zero = []
countdown (suc n) = n ∷ countdown n

unfoldable pub observations_in : List Packet → ℕ
observations_in [] = 0
observations_in (p ∷ ps) = observations_in ps + p.observations

pub record InWords (p : Packet) (past : List Packet) (total : ℕ) : Type 0 where
  pub packets : List Packet
  pub earlier : List Packet
  pub front : p ∷ past ≡ packets ++ earlier
  pub counters : map (λ (q : Packet). q.counter) packets ≡ countdown p.key.n
  pub keys : map (λ (q : Packet). q.key) packets ≡ replicate p.key.n p.key
  pub sum : observations_in packets ≡ total
