-- Calls of `sbp_next`, each from where the row before says to go on, until no frame is left: what they hand out and count.
use Rattle.std.specs.Prelude.{ℕ, ◌+◌, ◌^◌, ◌≤◌, ◌<◌, ◌≡◌, Bool, false, List, [], ◌∷◌, map, length}
use Rattle.wire.specs.Number.{number_at}
use Rattle.frames.specs.Reading.{steps, closed_steps, frames_of}
use Rattle.frame_rows.specs.Found.{next_answer, next_stored}
use Rattle.frame_rows.specs.Totals.{totals_stored}
use Rattle.frames_told.specs.Counting.{sum_over, junks_in, bads_in, shorts_in, frame_bytes_in}
use Rattle.frames_told.specs.FramesTold.{shown_frame, goes_on_at, junk_in, bad_in, short_in, AsLent}

-- such calls from a position on, each lent a buffer with room: the rows of the calls that answered 0, and that of the last, which did not
pub data RowByRow (opened : Bool) (s : List ℕ) : ℕ → List (List ℕ) → List ℕ → Type 0 where
  last : {at : ℕ} (buf : List ℕ) → 53 ≤ length buf → (next_answer s at opened (length buf) ≡ 0 → ⊥)
      → RowByRow opened s at [] (next_stored s at opened buf)
  then : {at : ℕ} {rows : List (List ℕ)} {final : List ℕ} (buf : List ℕ) → 53 ≤ length buf → next_answer s at opened (length buf) ≡ 0
      → RowByRow opened s (goes_on_at (next_stored s at opened buf)) rows final → RowByRow opened s at (next_stored s at opened buf ∷ rows) final

-- what rows add up to: the bytes of the frames shown, and the bytes passed over for each reason, with the last row's
pub record Sums (rows : List (List ℕ)) (final : List ℕ) (framed junk bad short : ℕ) : Type 0 where
  pub framed_sum : sum_over (λ (row : List ℕ). (shown_frame row).length + 8) rows ≡ framed
  pub junk_sum : sum_over junk_in rows + junk_in final ≡ junk
  pub bad_sum : sum_over bad_in rows + bad_in final ≡ bad
  pub short_sum : sum_over short_in rows + short_in final ≡ short

-- the frames of the reading from at on, and the counts of its steps
pub record RowsTold (opened : Bool) (s : List ℕ) (at : ℕ) (rows : List (List ℕ)) (final : List ℕ) : Type 0 where
  pub frames : map shown_frame rows ≡ frames_of (steps opened s at)
  pub sums : let xs = steps opened s at in Sums rows final (frame_bytes_in xs) (junks_in xs) (bads_in xs) (shorts_in xs)

pub record RowsFollow : Type 0 where
  pub told : (opened : Bool) (s : List ℕ) → AsLent s → (at : ℕ) → at < 2 ^ 64 → (rows : List (List ℕ)) (final : List ℕ)
      → RowByRow opened s at rows final → RowsTold opened s at rows final
  -- of a complete capture from the start: all frames, and the four numbers that `sbp_totals` shows
  pub complete : (s : List ℕ) → AsLent s → (rows : List (List ℕ)) (final : List ℕ) → RowByRow false s 0 rows final
      → (buf : List ℕ) → 32 ≤ length buf → let totals = totals_stored s buf in
      (map shown_frame rows ≡ frames_of (closed_steps s))
      × Sums rows final (number_at 8 totals 0) (number_at 8 totals 8) (number_at 8 totals 16) (number_at 8 totals 24)
  -- calls come to an end
  pub come : (opened : Bool) (s : List ℕ) → AsLent s → (at : ℕ) → at < 2 ^ 64 → (buf : List ℕ) → 53 ≤ length buf
      → (rows : List (List ℕ)) × (final : List ℕ) × RowByRow opened s at rows final
