-- Packets of one group in another order.
use Rattle.std.specs.Prelude.{◌≡◌, false, List, [], ◌∷◌, ◌++◌}
use Rattle.packets.specs.Packet.{Formed}
use Rattle.packets.specs.declared.packet.Key.{Key}
use Rattle.packets.specs.declared.packet.Packet.{Packet}
use Rattle.groups.specs.InWords.{is_copy, Come}

-- the same things in another order: the first stands somewhere among the others, and so do the rest
pub data Reordered {A : Type 0} : List A → List A → Type 0 where
  none : Reordered [] []
  first : {x : A} {xs : List A} (before behind : List A) → Reordered xs (before ++ behind) → Reordered (x ∷ xs) (before ++ x ∷ behind)

-- packets of one key that all count after those of the past: no counter twice, and none that has come already
abbrev pub AllCount : Key → List Packet → List Packet → Type 0
AllCount key past [] = Unit {0}
AllCount key past (p ∷ ps) = Formed p × (p.key ≡ key) × (is_copy past p ≡ false) × (Come ps p.counter → ⊥) × AllCount key past ps
