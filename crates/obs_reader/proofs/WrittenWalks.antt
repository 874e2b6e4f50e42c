-- What was written is handed out: over the payload of a header and observations a reader gives those observations back, in order, and then
-- 25.
use Prim.Native.Nat.{ℕ, ◌≤◌}
use lib.ListN.{length}
use Rattle.layouts.specs.Layout.{HeldBody, encode_body}
use Rattle.observation.specs.Edition.{Observed, obs, Head, first}
use Rattle.observation.specs.declared.entry.Observation.{Observation}
use Rattle.observation.proofs.Editions.{first_is_obs}
use Rattle.obs_writer.proofs.ObsThrough.{held_whole}
use Rattle.obs_reader.specs.Walk.{HandsOut}
use Rattle.obs_reader.proofs.HandedOut.{read_walk}

pub written_walk : (r : Observed Head Observation) → length r.observations ≤ 15 → HeldBody (obs first).layout ((obs first).row r)
    → (more : ℕ) → HandsOut first.kind (encode_body (obs first).layout ((obs first).row r)) more r.observations
written_walk r few held more = read_walk first.kind (encode_body (obs first).layout ((obs first).row r)) first_is_obs r (held_whole r few held) more
