-- Rows of fields in lent bytes. What a call hands back and leaves is read off its answer (refusals' `as_number`, `leaves`).
use Rattle.std.specs.Prelude.{ℕ, zero, suc, ◌+◌, ◌*◌, List}
use Rattle.layouts.specs.Field.{Field, Row, size, encode, row_stored}
use Rattle.frame_writer.specs.Writer.{starting_with}

-- a buffer with a row's bytes at its start, the bytes after as they were
abbrev pub at_front : (fs : List Field) → Row fs → List ℕ → List ℕ
at_front fs v buf = starting_with (encode fs v) (size fs) buf

-- s with the first n of some rows stored one after the other from an offset on
unfoldable pub first_rows_stored : (fs : List Field) → (ℕ → Row fs) → ℕ → List ℕ → ℕ → List ℕ
first_rows_stored fs row zero s at = s
first_rows_stored fs row (suc n) s at = row_stored fs (row n) (first_rows_stored fs row n s at) (at + n * size fs)
