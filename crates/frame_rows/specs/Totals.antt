-- What `sbp_totals` answers and the row that it stores.
use Rattle.std.specs.Prelude.{ℕ, List, [], ◌∷◌, length}
use Rattle.refusals.specs.Refusals.{Answer, leaves, zero_or, room_for, Call, reply}
use Rattle.wire.specs.Value.{u64}
use Rattle.layouts.specs.Field.{Field, any, Row, size}
use Rattle.frames.specs.Reading.{closed_steps, counts_of}
use Rattle.frames.specs.declared.cursor.Counts.{Counts}
use Rattle.lent_rows.specs.Lent.{at_front}

-- frame bytes, junk, bad, short
abbrev pub totals_fields : List Field
totals_fields = any u64 ∷ any u64 ∷ any u64 ∷ any u64 ∷ []

-- 32 bytes
abbrev pub totals_size : ℕ
totals_size = size totals_fields

abbrev pub totals_row : Counts → Row totals_fields
totals_row c = (c.framed, (c.junk, (c.bad, (c.short, tt))))

-- 32
abbrev pub totalling : List ℕ → ℕ → Call Counts
totalling s room = record { tests = room_for totals_size room; value = counts_of (closed_steps s) }

unfoldable pub totals_for : List ℕ → ℕ → Answer Counts
totals_for s room = reply (totalling s room)

abbrev pub totals_answer : List ℕ → ℕ → ℕ
totals_answer s room = zero_or (totals_for s room)

abbrev pub totals_stored : List ℕ → List ℕ → List ℕ
totals_stored s buf = leaves (λ c. at_front totals_fields (totals_row c)) (totals_for s (length buf)) buf
