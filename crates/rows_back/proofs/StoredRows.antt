-- A lent row after a reader: by its answer.
use mathlib.Core.Path.{ap}
use mathlib.Core.List.{List}
use Prim.Native.Nat.{ℕ}
use lib.ListN.{length}
use Rattle.refusals.specs.Refusals.{Answer, leaves}
use Rattle.row_reader.specs.ReadRow.{beginning, read_row, read_one}
use Rattle.rows_back.specs.RowsStored.{Stored, RowsStored}

by_answer : (a : Answer (List ℕ)) (row : List ℕ) → Stored a row (leaves beginning a row)
by_answer a row = let left : Answer (List ℕ) → List ℕ = λ a. leaves beginning a row in (λ ns e. ap left e, λ n e. ap left e)

pub rows_stored : RowsStored
rows_stored = record {
  read = λ kind s row. by_answer (read_row kind s (length row)) row;
  one = λ kind s i row. by_answer (read_one kind s i (length row)) row;
}
