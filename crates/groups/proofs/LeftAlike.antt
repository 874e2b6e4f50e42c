-- Packets whose latest groups are alike leave the same open.
use Rattle.std.proofs.Common.{◌≡◌, ℕ, cond, List, [], ◌∷◌, sym, refl, ◌∙◌, Some, None}
use Rattle.packets.specs.Packet.{AllFormed}
use Rattle.packets.specs.declared.packet.Packet.{Packet}
use Rattle.groups.specs.Group.{left_open}
use Rattle.groups.specs.InWords.{has, whole, group_at, observations_in}
use Rattle.groups.proofs.AnyOrder.{SameHead, Alike, same_whole}
use Rattle.groups.proofs.Summaries.{summary, left_open_lem}
use Rattle.groups.proofs.Weighed.{weighed}

same_summary : {g h : List Packet} → Alike g h → summary g ≡ summary h
same_summary {g} {h} a = by g h a.same_head (same_whole a) a.same_has a.same_sum
  where
    by : (g h : List Packet) → SameHead g h → whole g ≡ whole h → ((i : ℕ) → has g i ≡ has h i) → observations_in g ≡ observations_in h → summary g ≡ summary h
    by [] [] k w e s = refl
    by [] (q ∷ h) k w e s = absurd k
    by (p ∷ g) [] k w e s = absurd k
    by (p ∷ g) (q ∷ h) k w e s = λ i. cond (w i) None (Some (record { key = k i; come = weighed 2 (k i).n (λ j. e j i); total = s i }))

pub alike_open : (a b : List Packet) → AllFormed a → AllFormed b → Alike (group_at a) (group_at b) → left_open a ≡ left_open b
alike_open a b one other alike = left_open_lem a one ∙ same_summary alike ∙ sym (left_open_lem b other)
