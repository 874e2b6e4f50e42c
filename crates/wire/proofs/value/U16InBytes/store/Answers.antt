-- `wire::value::U16InBytes::store` meets its contract: its two halves, where the whole has room.
use mathlib.Core.Path.{sym, ◌∙◌}
use Prim.Native.Nat.{◌+◌}
use native.Mathlib.Omega.{arith}
use lib.ListN.{length}
use borrow.Author.Tests.{leb-true}
use Rattle.wire.proofs.Numbers.{stored_halves, stored_nowhere}
use Rattle.wire.proofs.value.U16InBytes.store.Goals as goal

pub overflow_add-at : goal.overflow_add-at
overflow_add-at c =
    let a = c.args in
    omega (arith, leb-true (a.at + 2) (length a.buf.now) (sym c.room.ensures ∙ c.if-room.true))

pub returns-then-room : goal.returns-then-room
returns-then-room c =
    let a = c.args in
    stored_halves 1 1 a.self a.buf.now a.at (sym c.room.ensures ∙ c.if-room.true) c.store.ensures c.store-then-room.ensures

pub returns-else-room : goal.returns-else-room
returns-else-room c =
    let a = c.args in
    stored_nowhere 2 a.self a.buf.now a.at (sym c.room.ensures ∙ c.if-room.false)
