-- What is written from numbers is what the typed writers write of the record that they stand for.
use Rattle.std.specs.Prelude.{◌≡◌, true, List, ℕ, length}
use Rattle.refusals.specs.Refusals.{given}
use Rattle.formats.specs.Wide.{fits_row, number_count}
use Rattle.formats.specs.Digits.{front_of}
use Rattle.senders.specs.declared.Writer.{Writer}
use Rattle.frame_writer.specs.Faithful.{write_answer, written_as}
use Rattle.observation.specs.Edition.{obs, first}
use Rattle.payloads.specs.Payloads.{Described, messages, AllOf}
use Rattle.row_writer.specs.WriteRow.{alone, body_of, write_row, row_written}
use Rattle.row_writer.specs.WriteObsRow.{observed_of, write_obs_row, obs_row_written}

-- of a message without a tail: as many numbers as it has fields, each of which its field holds, are written as its own writer writes the record
abbrev pub WritesTyped : Described → Type 0
WritesTyped m =
    let d = m.description in
    (w : Writer) (ns buf : List ℕ) → alone d.layout ≡ true → length ns ≡ number_count d.layout → fits_row (front_of d.layout) ns 0 ≡ true
    → (write_row d.kind ns (length buf) ≡ write_answer d (d.make (body_of d.layout ns)) (length buf))
    × (row_written d.kind w ns buf ≡ written_as d w (d.make (body_of d.layout ns)) buf)

pub record AllWritten : Type 0 where
  pub each : AllOf WritesTyped messages
  -- of OBS: where the numbers are written at all
  pub obs_written : (w : Writer) (hs ns buf : List ℕ) {n : ℕ} → write_obs_row first.kind hs ns (length buf) ≡ given n
      → (write_answer (obs first) (observed_of hs ns) (length buf) ≡ given n)
      × (obs_row_written first.kind w hs ns buf ≡ written_as (obs first) w (observed_of hs ns) buf)
