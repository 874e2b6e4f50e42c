-- What only private contracts cite: a value stored into a buffer part after part, as code stores it. Where it has room that is
-- its bytes stored (`body_sets`, proofs/Layouts.antt).
use Rattle.std.specs.Prelude.{ℕ, ◌+◌, List, [], ◌∷◌, length}
use Rattle.wire.specs.Number.{bytes_stored}
use Rattle.layouts.specs.Field.{Field, Row, size, row_stored}
use Rattle.layouts.specs.Layout.{Layout, run, then, bytes, text, rows, Body}

abbrev pub rows_stored : (fs : List Field) → List (Row fs) → List ℕ → ℕ → List ℕ
rows_stored fs [] s at = s
rows_stored fs (v ∷ vs) s at = rows_stored fs vs (row_stored fs v s at) (at + size fs)

-- s with a value stored at an offset, part after part
abbrev pub body_stored : (l : Layout) → Body l → List ℕ → ℕ → List ℕ
body_stored (run fs) v s at = row_stored fs v s at
body_stored (then fs l) v s at = body_stored l v.1 (row_stored fs v.0 s at) (at + size fs)
body_stored (bytes most) v s at = bytes_stored v s at
body_stored (text most) v s at = bytes_stored v.1 (bytes_stored v.0 s at) (at + length v.0)
body_stored (rows fs most) v s at = rows_stored fs v s at
