-- An epoch in document 02's words (P7), over the well-formed packets of one sender, the latest first: they are cut into groups, and a group whose
-- counters are all of 0 to n - 1 is an epoch. Nothing here looks at a step.
use Rattle.std.specs.Prelude.{◌≡◌, ℕ, zero, suc, ◌+◌, ◌<◌, Bool, true, false, cond, not, ◌&&◌, ◌⊎◌, List, [], ◌∷◌, ◌++◌, ◌==◌, ◌≢◌}
use Rattle.packets.specs.Packet.{same_key}
use Rattle.packets.specs.declared.packet.Key.{Key}
use Rattle.packets.specs.declared.packet.Packet.{Packet}

-- a counter has come in a group
unfoldable pub has : List Packet → ℕ → Bool
has [] i = false
has (p ∷ g) i = cond (p.counter == i) true (has g i)

-- all of 0 to n - 1 have
unfoldable pub has_all : List Packet → ℕ → Bool
unfolding has
has_all g zero = true
has_all g (suc n) = has g n && has_all g n

-- a group has one key, that of its latest packet too
abbrev pub whole : List Packet → Bool
whole [] = false
whole (p ∷ g) = has_all (p ∷ g) p.key.n

-- a packet belongs to an open group: one that is not whole, of the packet's key
abbrev pub belongs : List Packet → Packet → Bool
belongs [] p = false
belongs (q ∷ g) p = not (whole (q ∷ g)) && same_key q.key p.key

-- a new group begins at the first packet, after a whole group, and where the key differs
abbrev pub gathered : List Packet → Packet → List Packet
gathered g p = cond (belongs g p) (p ∷ g) (p ∷ [])

-- the group in which the latest packet stands
unfoldable pub group_at : List Packet → List Packet
unfolding has_all
group_at [] = []
group_at (p ∷ past) = gathered (group_at past) p

-- a packet whose counter has come already in its group is a copy
abbrev pub is_copy : List Packet → Packet → Bool
is_copy past p = belongs (group_at past) p && has (group_at past) p.counter

-- the observations of a group: a counter that has come already does not count
unfoldable pub observations_in : List Packet → ℕ
unfolding has
observations_in [] = 0
observations_in (p ∷ g) = cond (has g p.counter) (observations_in g) (observations_in g + p.observations)

-- the latest packet ends an epoch: with it all counters of its group have come
pub record EpochEnds (p : Packet) (past : List Packet) (total : ℕ) : Type 0 where
  pub all_come : whole (group_at (p ∷ past)) ≡ true
  pub sum : observations_in (group_at (p ∷ past)) ≡ total

-- ---- the same without a test: which packets stand at the front of the history

abbrev pub AllOf : Key → List Packet → Type 0
AllOf key [] = Unit {0}
AllOf key (p ∷ ps) = (p.key ≡ key) × AllOf key ps

-- a packet of this counter is among them
abbrev pub Come : List Packet → ℕ → Type 0
Come [] i = ⊥
Come (p ∷ ps) i = (p.counter ≡ i) ⊎ Come ps i

-- a group of this key begins after these packets: they are none, the latest has another key, or it ended an epoch
abbrev pub Begins : Key → List Packet → Type 0
Begins key [] = Unit {0}
Begins key (q ∷ past) = (q.key ≢ key) ⊎ ((t : ℕ) × EpochEnds q past t)

-- p and the packets right before it are a group of its key; all of 0 to n - 1 have come, and p brought the last of them
pub record InWords (p : Packet) (past : List Packet) (total : ℕ) : Type 0 where
  pub before : List Packet
  pub earlier : List Packet
  pub front : past ≡ before ++ earlier
  pub begins : Begins p.key earlier
  pub keys : AllOf p.key before
  pub all_come : (i : ℕ) → i < p.key.n → Come (p ∷ before) i
  pub last : Come before p.counter → ⊥
  pub sum : observations_in (p ∷ before) ≡ total
