-- `wire::store::store_bytes` meets its contract: all are copied, where all have room.
use Prim.Native.Nat.{◌-◌}
use lib.ListN.{length}
use Rattle.wire.proofs.Copies.{Copied}
use Rattle.wire.proofs.store.store_bytes.Given as goal

abbrev pub invariant-loop-i : goal.invariant-loop-i
invariant-loop-i l = Copied l.at l.initial.buf l.bytes l.buf l.i

abbrev pub decreases-loop-i : goal.decreases-loop-i
decreases-loop-i l = length l.bytes - l.i
