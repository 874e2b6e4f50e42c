-- What only private contracts cite: what stands before the payload.
use Rattle.std.specs.Prelude.{ℕ, List, [], ◌∷◌}
use Rattle.wire.specs.Value.{u8, u16}
use Rattle.layouts.specs.Field.{Field, any, Row, row_stored}

-- preamble, type, sender, payload length
abbrev pub head : List Field
head = any u8 ∷ any u16 ∷ any u16 ∷ any u8 ∷ []

abbrev pub head_row : ℕ → ℕ → ℕ → Row head
head_row kind sender n = (0x55, (kind, (sender, (n, tt))))

-- the buffer with that at its start
abbrev pub headed : ℕ → ℕ → ℕ → List ℕ → List ℕ
headed kind sender n buf = row_stored head (head_row kind sender n) buf 0
