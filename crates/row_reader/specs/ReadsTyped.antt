-- What is read as numbers is what the typed readers read: each field of the record, as a number of 64 bits.
use Rattle.std.specs.Prelude.{ℕ, ◌≤◌, ◌≡◌, List, length}
use Rattle.refusals.specs.Refusals.{mapped}
use Rattle.layouts.specs.Description.{read_as}
use Rattle.formats.specs.Wide.{wide_row, wide_body, number_count}
use Rattle.observation.specs.Edition.{first}
use Rattle.observation.specs.Obs.{read_entry_of}
use Rattle.payloads.specs.Payloads.{Described, messages, AllOf}
use Rattle.row_reader.specs.ReadRow.{read_row, read_one}

-- with room for all of its numbers: the same refusals, and of the record its numbers
abbrev pub ReadsTyped : Described → Type 0
ReadsTyped m =
    let d = m.description in
    (s : List ℕ) (room : ℕ) → number_count d.layout ≤ room → read_row d.kind s room ≡ mapped (λ r. wide_body d.layout (d.row r)) (read_as d s)

pub record AllRead : Type 0 where
  pub each : AllOf ReadsTyped messages
  -- and of an observation, the fields of the one that the typed reader reads
  pub one : (kind : ℕ) (s : List ℕ) (i room : ℕ) → length first.row.fields ≤ room
      → read_one kind s i room ≡ mapped (λ o. wide_row first.row.fields (first.row.row o)) (read_entry_of kind s i)
