-- What only contracts of the crate's own functions cite.
use Rattle.std.specs.Prelude.{ℕ, true}
use Rattle.index.specs.Index.{counted}
use Rattle.frames.specs.declared.cursor.Cursor.{Cursor}
use Rattle.index.specs.declared.index.Index.{Index}

-- a cursor of open reading that has counted nothing yet
abbrev pub cursor_at : ℕ → Cursor
cursor_at p = record { at = p; opened = true; framed = 0; junk = 0; bad = 0; short = 0 }

-- the index with one frame more of a type in its counts
abbrev pub tallied : Index → ℕ → Index
tallied x kind = record { reached = x.reached; held = x.held; counts = counted x.counts kind }
