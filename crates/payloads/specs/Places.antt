-- A type's place among the messages, as the one list of them has it: how many stand before it, and past the last for a type without a reading.
use Rattle.std.specs.Prelude.{ℕ, suc, cond, List, [], ◌∷◌, map, eqb, ltb, Option, Some, None}
use Rattle.payloads.specs.Payloads.{Entry, table}

-- how many there are
abbrev pub message_count : ℕ
message_count = 24

abbrev pub kinds : List ℕ
kinds = map (λ (e : Entry). e.kind) table

unfoldable pub place_in : List ℕ → ℕ → ℕ
place_in [] kind = 0
place_in (k ∷ ks) kind = cond (eqb kind k) 0 (suc (place_in ks kind))

abbrev pub place_for : ℕ → ℕ
place_for kind = place_in kinds kind

-- the same where there is one, and none past the last
abbrev pub placed_for : ℕ → Option ℕ
placed_for kind = cond (ltb (place_for kind) message_count) (Some (place_for kind)) None
