-- Frames of one sender's group in another order: "the order in which the packets of one group arrive changes nothing about its report".
use Rattle.std.specs.Prelude.{ℕ, ◌≡◌, true, List, [], ◌∷◌, ◌++◌}
use Rattle.refusals.specs.Refusals.{given}
use Rattle.frames.specs.Frame.{Content}
use Rattle.packets.specs.declared.packet.Key.{Key}
use Rattle.packets.specs.declared.packet.Packet.{Packet}
use Rattle.groups.specs.AnyOrder.{Reordered, AllCount}
use Rattle.epochs.specs.Search.{names}
use Rattle.epochs.specs.Collator.{made}
use Rattle.epochs.specs.Epoch.{own_packet, history_of, after, reports}

-- frames of one sender, and their packets in order
abbrev pub PacketsOf : ℕ → List Content → List Packet → Type 0
PacketsOf sender [] [] = Unit {0}
PacketsOf sender [] (p ∷ ps) = ⊥
PacketsOf sender (x ∷ xs) [] = ⊥
PacketsOf sender (x ∷ xs) (p ∷ ps) = (x.sender ≡ sender) × (own_packet x ≡ given p) × PacketsOf sender xs ps

-- the frames ys, fed after xs, are of one group of the sender: one key, no counter twice, and none that has come already
pub record OneGroup (sender : ℕ) (xs ys : List Content) : Type 0 where
  pub key : Key
  pub packets : List Packet
  pub theirs : PacketsOf sender ys packets
  pub count : AllCount key (history_of sender xs) packets

-- in any other order they come to the same reports and to the same end
pub record SameAsOrdered (roster : List ℕ) (xs ys zs : List Content) : Type 0 where
  pub same_reports : reports (made roster).collator (xs ++ ys) ≡ reports (made roster).collator (xs ++ zs)
  pub same_state : after (made roster).collator (xs ++ ys) ≡ after (made roster).collator (xs ++ zs)

abbrev pub InAnyOrder : List ℕ → Type 0
InAnyOrder roster = (sender : ℕ) → names roster sender ≡ true → (xs ys zs : List Content) → OneGroup sender xs ys → Reordered ys zs → SameAsOrdered roster xs ys zs
