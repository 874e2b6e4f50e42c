-- What only contracts of the crate's own functions cite.
use Rattle.std.specs.Prelude.{ℕ, List, []}
use Rattle.refusals.specs.Refusals.{Answer, reply}
use Rattle.index.specs.declared.index.Index.{Index}
use Rattle.lent_index.specs.Bytes.{in_bytes, index_from_bytes}

-- the index that lent bytes stand for; 32 where they are too few
abbrev pub lent : List ℕ → Answer Index
lent bytes = reply (in_bytes bytes (record { tests = []; value = index_from_bytes bytes }))
