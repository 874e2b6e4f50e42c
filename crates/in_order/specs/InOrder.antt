-- Packets that come in counter order, without copies, end the same epochs by document 01's words (`runs`) and by document 02's (`groups`).
use Rattle.std.specs.Prelude.{ℕ, ◌≤◌, ◌<◌, ◌≡◌, true, List, [], ◌∷◌, ◌↔◌}
use Rattle.packets.specs.Packet.{AllFormed}
use Rattle.packets.specs.declared.packet.Packet.{Packet}
use Rattle.runs.specs.InWords as runs
use Rattle.groups.specs.InWords as groups
use Rattle.groups.specs.InWords.{belongs, group_at}

-- in counter order, without copies, the latest first: a packet that belongs to the open group has a higher counter than the one before it
abbrev pub Ascending : List Packet → Type 0
Ascending [] = Unit {0}
Ascending (p ∷ []) = Unit {0}
Ascending (p ∷ q ∷ past) = (belongs (group_at (q ∷ past)) p ≡ true → q.counter < p.counter) × Ascending (q ∷ past)

pub record InOrder : Type 0 where
  -- document 01's words: n packets next to one another, with counters 0 to n - 1, all of one key
  pub as_before : (p : Packet) (past : List Packet) (total : ℕ) → 1 ≤ p.key.n → runs.EpochEnds p past total ↔ runs.InWords p past total
  pub same_epochs : (p : Packet) (past : List Packet) (total : ℕ) → AllFormed (p ∷ past) → Ascending (p ∷ past)
      → runs.EpochEnds p past total ↔ groups.EpochEnds p past total
