-- What a reader leaves of the row that it is lent: the numbers that it gives at the start, those after as they were; a refusal leaves all of it.
use Rattle.std.specs.Prelude.{ℕ, ◌≡◌, List, ◌++◌, length, drop}
use Rattle.refusals.specs.Refusals.{refused, given, Answer}
use Rattle.row_reader.specs.ReadRow.{read_row, row_after, read_one, row_after_one}

abbrev pub Stored : Answer (List ℕ) → List ℕ → List ℕ → Type 0
Stored a row after = ((ns : List ℕ) → a ≡ given ns → after ≡ ns ++ drop (length ns) row) × ((n : ℕ) → a ≡ refused n → after ≡ row)

pub record RowsStored : Type 0 where
  pub read : (kind : ℕ) (s row : List ℕ) → Stored (read_row kind s (length row)) row (row_after kind s row)
  pub one : (kind : ℕ) (s : List ℕ) (i : ℕ) (row : List ℕ) → Stored (read_one kind s i (length row)) row (row_after_one kind s i row)
