-- `padded::padded::store_zeros` meets its contract: a part of the buffer filled, of as many bytes.
use mathlib.Core.Path.{◌≡◌, sym, ◌∙◌}
use mathlib.Core.Bool.{true, false}
use mathlib.Core.List.{List}
use Prim.Native.Nat.{ℕ, ◌+◌, ◌≤◌, ◌<◌}
use native.Mathlib.Omega.{arith}
use borrow.Author.Tests.{leb-true, leb-false}
use lib.Dec.{leb}
use lib.ListN.{length, length-replicate}
use Rattle.std.proofs.Common.{rules}
use Rattle.padded.specs.Padded.{zeros}
use Rattle.wire.proofs.Stored.{bytes_sets, bytes_nowhere, part_written}
use Rattle.padded.proofs.padded.store_zeros.Goals as goal

-- where there is room for as many
fits : {r : _} (at n : ℕ) (buf : List ℕ) → r ≡ leb (at + n) (length buf) → r ≡ true → at + length (zeros n) ≤ length buf
fits at n buf e t = omega (arith, leb-true (at + n) (length buf) (sym e ∙ t), length-replicate {A = ℕ} n 0)

fits_not : {r : _} (at n : ℕ) (buf : List ℕ) → r ≡ leb (at + n) (length buf) → r ≡ false → length buf < at + length (zeros n)
fits_not at n buf e f = omega (arith, leb-false (at + n) (length buf) (sym e ∙ f), length-replicate {A = ℕ} n 0)

pub returns-then-room : goal.returns-then-room
returns-then-room c =
    let a = c.args in
    part_written (zeros a.n) a.buf.now c.fill.new.self a.at _ (fits a.at a.n a.buf.now c.room.ensures c.if-room.true) (search rules) (omega (arith, length-replicate {A = ℕ} a.n 0))
    ∙ sym (bytes_sets (zeros a.n) a.buf.now a.at (fits a.at a.n a.buf.now c.room.ensures c.if-room.true))

pub returns-else-room : goal.returns-else-room
returns-else-room c =
    let a = c.args in
    sym (bytes_nowhere (zeros a.n) a.buf.now a.at (fits_not a.at a.n a.buf.now c.room.ensures c.if-room.false))
