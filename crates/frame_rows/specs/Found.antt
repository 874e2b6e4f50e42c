-- What `sbp_next` answers and the row that it stores.
use Rattle.std.specs.Prelude.{ℕ, Bool, List, [], ◌∷◌, length}
use Rattle.refusals.specs.Refusals.{Answer, leaves, as_number, room_for, Call, reply}
use Rattle.wire.specs.Value.{u8, u16, u64}
use Rattle.layouts.specs.Field.{Field, any, Row, size}
use Rattle.frames.specs.Cursors.{next_of}
use Rattle.frames.specs.declared.cursor.Cursor.{Cursor}
use Rattle.frames.specs.declared.cursor.Next as Next
use Rattle.lent_rows.specs.Lent.{at_front}
use Rattle.frame_rows.specs.declared.reading.FoundRow.{FoundRow}
use Rattle.frame_rows.specs.declared.reading.Found.{Found}
use Rattle.frame_rows.specs.declared.reading.Found.TheVariants.{Frame, End, Needs}

-- at, next, needed, junk, bad, short, kind, sender, length
abbrev pub found_fields : List Field
found_fields = any u64 ∷ any u64 ∷ any u64 ∷ any u64 ∷ any u64 ∷ any u64 ∷ any u16 ∷ any u16 ∷ any u8 ∷ []

-- 53 bytes
abbrev pub found_size : ℕ
found_size = size found_fields

abbrev pub found_values : FoundRow → Row found_fields
found_values f = (f.at, (f.next, (f.needed, (f.junk, (f.bad, (f.short, (f.kind, (f.sender, (f.length, tt)))))))))

-- a reading that begins at a position, having passed over nothing
abbrev pub start_at : ℕ → Bool → Cursor
start_at at opened = record { at = at; opened = opened; framed = 0; junk = 0; bad = 0; short = 0 }

-- no frame: the reading stands at the cursor, and needs so many bytes from there
abbrev pub nothing_at : Cursor → ℕ → FoundRow
nothing_at c needed =
    record { at = c.at; next = c.at; needed = needed; junk = c.junk; bad = c.bad; short = c.short; kind = 0; sender = 0; length = 0 }

abbrev pub found_in : Next.Next → FoundRow
found_in (Next.TheVariants.Frame f c) =
    record { at = f.at; next = c.at; needed = 0; junk = c.junk; bad = c.bad; short = c.short; kind = f.kind; sender = f.sender; length = f.length }
found_in (Next.TheVariants.End c) = nothing_at c 0
found_in (Next.TheVariants.Needs n c) = nothing_at c n

-- 0 a frame, 1 the end, 2 more bytes are needed
abbrev pub number_in : Next.Next → ℕ
number_in (Next.TheVariants.Frame f c) = 0
number_in (Next.TheVariants.End c) = 1
number_in (Next.TheVariants.Needs n c) = 2

-- the same of what `next_row` gives
abbrev pub found_number : Found → ℕ
found_number Frame = 0
found_number End = 1
found_number Needs = 2

-- 32
abbrev pub finding : List ℕ → ℕ → Bool → ℕ → Call Next.Next
finding s at opened room = record { tests = room_for found_size room; value = next_of s (start_at at opened) }

unfoldable pub next_from : List ℕ → ℕ → Bool → ℕ → Answer Next.Next
next_from s at opened room = reply (finding s at opened room)

abbrev pub next_answer : List ℕ → ℕ → Bool → ℕ → ℕ
next_answer s at opened room = as_number number_in (next_from s at opened room)

abbrev pub next_stored : List ℕ → ℕ → Bool → List ℕ → List ℕ
next_stored s at opened buf = leaves (λ x. at_front found_fields (found_values (found_in x))) (next_from s at opened (length buf)) buf
