-- A frame written from a row of numbers of 64 bits, one for each field: every message without a tail, over its type's layout.
use Rattle.std.specs.Prelude.{ℕ, ◌+◌, Bool, true, false, ◌&&◌, List, [], ◌∷◌, eqb, length}
use Rattle.refusals.specs.Refusals.{Answer, leaves, Call, reply}
use Rattle.layouts.specs.Layout.{Layout, run, then, bytes, text, rows, Body, allowed_body, body_size, encode_body}
use Rattle.formats.specs.Wide.{narrow_row, fits_row, number_count}
use Rattle.formats.specs.Digits.{front_of}
use Rattle.senders.specs.declared.Writer.{Writer}
use Rattle.frame_writer.specs.Writer.{writing_frame, starting_with, framed_by}
use Rattle.payloads.specs.Payloads.{Entry, table, entry_for, layout_for}

-- fields and nothing after them
abbrev pub alone : Layout → Bool
alone (run fs) = true
alone (then fs l) = false
alone (bytes most) = false
alone (text most) = false
alone (rows fs most) = false

-- the value of these numbers, with nothing after the fields
abbrev pub body_of : (l : Layout) → List ℕ → Body l
body_of (run fs) ns = narrow_row fs ns 0
body_of (then fs l) ns = (narrow_row fs ns 0, body_of l [])
body_of (bytes most) ns = []
body_of (text most) ns = ([], [])
body_of (rows fs most) ns = []

-- 21 for a type that has no reading or has a tail, 22 for another number of fields, 23 for a number that its field cannot hold or that is outside
-- its range, then 31 and 32 as every frame
abbrev pub writing_by : Entry → List ℕ → ℕ → Call ℕ
writing_by e ns room =
    let l = e.layout in
    record {
      tests =
          (e.known && alone l, 21) ∷
          (eqb (length ns) (number_count l), 22) ∷
          (fits_row (front_of l) ns 0 && allowed_body l (body_of l ns), 23) ∷
          writing_frame (body_size l (body_of l ns)) room;
      value = body_size l (body_of l ns) + 8;
    }

abbrev pub writing_row : ℕ → List ℕ → ℕ → Call ℕ
writing_row kind = writing_by (entry_for table kind)

unfoldable pub write_row : ℕ → List ℕ → ℕ → Answer ℕ
write_row kind ns room = reply (writing_row kind ns room)

-- the buffer after it: the frame and the bytes after it as they were, or all as it was
unfoldable pub row_written : ℕ → Writer → List ℕ → List ℕ → List ℕ
row_written kind w ns buf =
    leaves (starting_with (framed_by kind w (encode_body (layout_for kind) (body_of (layout_for kind) ns)))) (write_row kind ns (length buf)) buf
