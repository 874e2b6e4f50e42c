-- An index in 208 bytes: the position reached, how many entries are held, and the 24 counts. Any bytes stand for some index.
-- A call that is lent them answers 32 where they are too few, and then as `index` does.
use Rattle.std.specs.Prelude.{ℕ, ◌+◌, ◌*◌, List, [], ◌∷◌, ◌++◌, length, get_or}
use Rattle.refusals.specs.Refusals.{Answer, leaves, room_for, Call, reply}
use Rattle.wire.specs.Number.{number_at}
use Rattle.wire.specs.Value.{u64}
use Rattle.wire.specs.Tabulated.{tabulated}
use Rattle.layouts.specs.Field.{Field, any, Row, size, row_stored}
use Rattle.lent_rows.specs.Lent.{first_rows_stored}
use Rattle.payloads.specs.Places.{message_count}
use Rattle.index.specs.Index.{empty, extended, written, entries_from, extending, Hit, at, nowhere, asking, counting}
use Rattle.index.specs.declared.entry.Entry.{Entry}
use Rattle.index.specs.declared.index.Index.{Index}

-- ---- where the parts stand

abbrev pub head_fields : List Field
head_fields = any u64 ∷ any u64 ∷ []

abbrev pub count_fields : List Field
count_fields = any u64 ∷ []

abbrev pub counts_at : ℕ
counts_at = size head_fields

abbrev pub index_size : ℕ
index_size = counts_at + message_count * size count_fields

-- ---- what the bytes stand for, and an index stored

abbrev pub count_at : List ℕ → ℕ → ℕ
count_at s i = number_at 8 s (counts_at + i * size count_fields)

abbrev pub index_from_bytes : List ℕ → Index
index_from_bytes s = record { reached = number_at 8 s 0; held = number_at 8 s 8; counts = tabulated (count_at s) message_count }

abbrev pub head_row : Index → Row head_fields
head_row x = (x.reached, (x.held, tt))

abbrev pub count_row : List ℕ → ℕ → Row count_fields
count_row counts i = (get_or counts i 0, tt)

abbrev pub counts_stored : List ℕ → List ℕ → List ℕ
counts_stored counts s = first_rows_stored count_fields (count_row counts) message_count s counts_at

abbrev pub index_stored : Index → List ℕ → List ℕ
index_stored x s = counts_stored x.counts (row_stored head_fields (head_row x) s 0)

-- 32 comes before what a call answers by itself
abbrev pub in_bytes : {A : Type 0} → List ℕ → Call A → Call A
in_bytes bytes c = record { tests = room_for index_size (length bytes) ++ c.tests; value = c.value }

-- ---- making: an empty index

unfoldable pub make_in : List ℕ → Answer Index
make_in bytes = reply (in_bytes bytes (record { tests = []; value = empty }))

-- what is left in the bytes
abbrev pub kept_in : Answer Index → List ℕ → List ℕ
kept_in a bytes = leaves index_stored a bytes

-- ---- extending: 32, 52, 51

unfoldable pub extend_in_bytes : List ℕ → List ℕ → ℕ → Answer Index
unfolding extended
extend_in_bytes bytes s most = reply (in_bytes bytes (extending (index_from_bytes bytes) s most))

abbrev pub list_after : List ℕ → List ℕ → List Entry → List Entry
list_after bytes s list = leaves (λ new. written (index_from_bytes bytes).held (entries_from s (index_from_bytes bytes).reached)) (extend_in_bytes bytes s (length list)) list

-- ---- asking for a frame: 32, 51; 0 with the entry's place, or 1 for none

unfoldable pub first_in_bytes : List ℕ → List Entry → ℕ → ℕ → ℕ → Answer Hit
first_in_bytes bytes list kind sender offset = reply (in_bytes bytes (asking (index_from_bytes bytes) list kind sender offset))

abbrev pub hit_number : Hit → ℕ
hit_number (at i e) = 0
hit_number nowhere = 1

abbrev pub place_or : Hit → ℕ → ℕ
place_or (at i e) place = i
place_or nowhere place = place

-- ---- asking for a count: 32, 21

unfoldable pub count_in_bytes : List ℕ → ℕ → Answer ℕ
count_in_bytes bytes kind = reply (in_bytes bytes (counting (index_from_bytes bytes) kind))

abbrev pub count_or : Answer ℕ → ℕ → ℕ
count_or a count = leaves (λ n old. n) a count
