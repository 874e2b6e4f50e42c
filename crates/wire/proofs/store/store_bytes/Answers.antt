-- `wire::store::store_bytes` meets its contract: all are copied, where all have room.
use mathlib.Core.Path.{sym, ◌∙◌}
use Prim.Native.Nat.{◌+◌}
use native.Mathlib.Omega.{arith}
use borrow.Author.Tests.{leb-true, leb-false}
use lib.ListN.{length}
use Rattle.wire.proofs.Stored.{bytes_sets, bytes_nowhere}
use Rattle.wire.proofs.Copies.{copied_none, copied_more, copied_all, copied_length}
use Rattle.wire.proofs.store.store_bytes.Goals as goal

pub loop-i-init : goal.loop-i-init
loop-i-init c = let a = c.args in copied_none a.at a.buf.now a.bytes.now

pub overflow_add-buf : goal.overflow_add-buf
overflow_add-buf c =
    let a = c.args in
    omega (arith, leb-true (a.at + length a.bytes.now) (length a.buf.now) (sym c.room.ensures ∙ c.if-room.true))

pub bounds-buf-at : goal.bounds-buf-at
bounds-buf-at c =
    let a = c.args in
    omega (
      arith,
      leb-true (a.at + length a.bytes.now) (length a.buf.now) (sym c.room.ensures ∙ c.if-room.true),
      copied_length a.at a.buf.now a.bytes.now c.loop-i.buf c.loop-i.i c.loop-i.invariant,
    )

pub loop-i-preserved : goal.loop-i-preserved
loop-i-preserved c =
    let a = c.args in
    copied_more a.at a.buf.now a.bytes.now c.loop-i.buf c.loop-i.i c.loop-i.invariant c.loop-i-test.true

pub shape_of-buf : goal.shape_of-buf
shape_of-buf c =
    let a = c.args in
    copied_length a.at a.buf.now a.bytes.now c.loop-i.buf c.loop-i.i c.loop-i.invariant

pub returns-after-loop-i : goal.returns-after-loop-i
returns-after-loop-i c =
    let a = c.args in
    copied_all a.at a.buf.now a.bytes.now c.loop-i.buf c.loop-i.i c.loop-i.invariant c.loop-i-test.false
    ∙ sym (bytes_sets a.bytes.now a.buf.now a.at (leb-true (a.at + length a.bytes.now) (length a.buf.now) (sym c.room.ensures ∙ c.if-room.true)))

pub returns-else-room : goal.returns-else-room
returns-else-room c =
    let a = c.args in
    sym (bytes_nowhere a.bytes.now a.buf.now a.at (leb-false (a.at + length a.bytes.now) (length a.buf.now) (sym c.room.ensures ∙ c.if-room.false)))
