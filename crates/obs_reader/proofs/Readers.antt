-- The reader itself: n questions leave it its type and payload, and `standing` says where it stands.
use mathlib.Core.Path.{◌≡◌, refl}
use Prim.Native.Nat.{ℕ, zero, suc}
use Rattle.obs_reader.specs.Reader.{asked}
use Rattle.obs_reader.specs.Walk.{standing, asked_times}
use Rattle.obs_reader.specs.declared.ObsReader.{ObsReader}

pub asked_times_lem : (n : ℕ) (r : ObsReader) → asked_times n r ≡ record { kind = r.kind; payload = r.payload; at = standing n r.kind r.payload.now r.at }
unfolding asked_times standing
asked_times_lem zero r = refl
asked_times_lem (suc n) r = asked_times_lem n (asked r)
