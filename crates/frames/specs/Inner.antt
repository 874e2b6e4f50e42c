-- What only private contracts cite: runs of junk, which a cursor passes over at once, the same as byte by byte.
use Rattle.std.specs.Prelude.{ℕ, zero, suc, cond, List, [], ◌∷◌, ◌==◌}
use Rattle.frames.specs.Cursors.{past}
use Rattle.frames.specs.declared.cursor.Cursor.{Cursor}

-- how many bytes stand before the first 0x55, or the end
unfoldable pub junk_run : List ℕ → ℕ
junk_run [] = zero
junk_run (b ∷ t) = cond (b == 0x55) zero (suc (junk_run t))

-- past n bytes of junk
abbrev pub over_junk : Cursor → ℕ → Cursor
over_junk c n = past c n (record { framed = 0; junk = n; bad = 0; short = 0 })
