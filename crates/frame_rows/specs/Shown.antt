-- The rows of `sbp_next` and `sbp_totals`, each number where link/include/sbp.h has it.
use Rattle.std.specs.Prelude.{◌≡◌, List, ℕ}
use Rattle.wire.specs.Number.{number_at}
use Rattle.frames.specs.declared.cursor.Counts.{Counts}
use Rattle.frame_rows.specs.declared.reading.FoundRow.{FoundRow}

pub record FoundShown (row : List ℕ) (f : FoundRow) : Type 0 where
  pub at : number_at 8 row 0 ≡ f.at
  pub next : number_at 8 row 8 ≡ f.next
  pub needed : number_at 8 row 16 ≡ f.needed
  pub junk : number_at 8 row 24 ≡ f.junk
  pub bad : number_at 8 row 32 ≡ f.bad
  pub short : number_at 8 row 40 ≡ f.short
  pub kind : number_at 2 row 48 ≡ f.kind
  pub sender : number_at 2 row 50 ≡ f.sender
  pub length : number_at 1 row 52 ≡ f.length

pub record CountsShown (row : List ℕ) (c : Counts) : Type 0 where
  pub framed : number_at 8 row 0 ≡ c.framed
  pub junk : number_at 8 row 8 ≡ c.junk
  pub bad : number_at 8 row 16 ≡ c.bad
  pub short : number_at 8 row 24 ≡ c.short
