-- A payload's fields as a row of numbers of 64 bits in a lent buffer, over the type's layout; and one observation's.
use Rattle.std.specs.Prelude.{ℕ, List, ◌++◌, length}
use Rattle.refusals.specs.Refusals.{Answer, leaves, room_for, Call, reply}
use Rattle.layouts.specs.Field.{decode}
use Rattle.layouts.specs.Layout.{decode_body}
use Rattle.formats.specs.Wide.{wide_row, wide_body, number_count}
use Rattle.frame_writer.specs.Writer.{starting_with}
use Rattle.observation.specs.Edition.{first, start_of}
use Rattle.observation.specs.Obs.{one_of_frame}
use Rattle.payloads.specs.Payloads.{layout_for, reading_any}

-- a row that begins with these numbers, the numbers after as they were
abbrev pub beginning : List ℕ → List ℕ → List ℕ
beginning ns row = starting_with ns (length ns) row

-- ---- a payload of any type: 21, 22, 23, then 32

-- one number for each field in order; of observations, how many; of a text, how long it and its padding are
abbrev pub numbers_for : ℕ → List ℕ → List ℕ
numbers_for kind s = wide_body (layout_for kind) (decode_body (layout_for kind) s)

abbrev pub reading_row : ℕ → List ℕ → ℕ → Call (List ℕ)
reading_row kind s room = record { tests = (reading_any kind s).tests ++ room_for (number_count (layout_for kind)) room; value = numbers_for kind s }

unfoldable pub read_row : ℕ → List ℕ → ℕ → Answer (List ℕ)
read_row kind s room = reply (reading_row kind s room)

abbrev pub row_after : ℕ → List ℕ → List ℕ → List ℕ
row_after kind s row = leaves beginning (read_row kind s (length row)) row

-- ---- one observation: 21, 22, 25, then 32

abbrev pub observation_numbers : List ℕ → ℕ → List ℕ
observation_numbers s i = wide_row first.row.fields (decode first.row.fields s (start_of first i))

abbrev pub reading_one : ℕ → List ℕ → ℕ → ℕ → Call (List ℕ)
reading_one kind s i room = record { tests = (one_of_frame kind s i).tests ++ room_for (length first.row.fields) room; value = observation_numbers s i }

unfoldable pub read_one : ℕ → List ℕ → ℕ → ℕ → Answer (List ℕ)
read_one kind s i room = reply (reading_one kind s i room)

abbrev pub row_after_one : ℕ → List ℕ → ℕ → List ℕ → List ℕ
row_after_one kind s i row = leaves beginning (read_one kind s i (length row)) row
