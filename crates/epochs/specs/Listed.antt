-- Whom a roster lists.
use Rattle.std.specs.Prelude.{ℕ, List, take}
use Rattle.epochs.specs.declared.seating.Roster.{Roster}

abbrev pub listed : Roster → List ℕ
listed r = take r.count r.senders
