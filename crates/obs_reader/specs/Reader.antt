-- Where the reader of a payload's observations stands. What it answers there is observation's `read_entry_of`, which knows the editions; nothing
-- here does.
use Rattle.std.specs.Prelude.{ℕ, ◌+◌, List}
use Rattle.refusals.specs.Refusals.{refused, given, Answer}
use Rattle.observation.specs.Obs.{read_entry_of}
use Rattle.observation.specs.declared.entry.Observation.{Observation}
use Rattle.obs_reader.specs.declared.ObsReader.{ObsReader}

-- by how much an answer moves the reader: an observation by one, a refusal by none
abbrev pub moved_by : Answer Observation → ℕ
moved_by (given o) = 1
moved_by (refused n) = 0

-- where a reader at i stands once it is asked
unfoldable pub at_after : ℕ → List ℕ → ℕ → ℕ
at_after kind s i = i + moved_by (read_entry_of kind s i)

-- the reader once it is asked: the same frame's payload, where it then stands
abbrev pub asked : ObsReader → ObsReader
asked r = record { kind = r.kind; payload = r.payload; at = at_after r.kind r.payload.now r.at }
