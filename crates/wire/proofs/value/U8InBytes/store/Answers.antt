-- `wire::value::U8InBytes::store` meets its contract.
use mathlib.Core.Path.{sym}
use Prim.Native.Nat.{◌+◌}
use native.Mathlib.Omega.{arith}
use lib.ListN.{length}
use borrow.Author.Tests.{lt-leb}
use Rattle.wire.proofs.Numbers.{set_byte, stored_nowhere}
use Rattle.wire.proofs.value.U8InBytes.store.Goals as goal

pub returns-then-at-buf : goal.returns-then-at-buf
returns-then-at-buf c = sym (set_byte c.args.self c.args.buf.now c.args.at c.ranges.self.fits)

pub returns-else-at-buf : goal.returns-else-at-buf
returns-else-at-buf c = stored_nowhere 1 c.args.self c.args.buf.now c.args.at (lt-leb (c.args.at + 1) (length c.args.buf.now) (omega arith))
