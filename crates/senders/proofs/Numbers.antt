-- The number that a frame carries, by the sender that is given or the type: it has 16 bits. What edits of the definitions change with them stands
-- here, apart from Carrying.antt, which refuses them.
use mathlib.Core.Path.{◌≡◌}
use mathlib.Core.Bool.{Bool, true, false, cond}
use Prim.Native.Nat.{ℕ, ◌≤◌, ◌<◌}
use native.Mathlib.Omega.{arith}
use lib.Dec.{lit<}
use borrow.Author.Tests.{ne_eqb, lt-ltb, le-ltb}
use Rattle.senders.specs.Senders.{obeyed_from42, carried_by, carried, writer_from, HeldSender, HeldWriter}
use Rattle.senders.specs.Carries.{NotAs42}
use Rattle.std.specs.Prelude.{Option, None, Some}
use Rattle.senders.specs.declared.Writer.{Writer}

either_small : (t : Bool) {m n : ℕ} → m < 65536 → n < 65536 → cond t m n < 65536
either_small true h k = h
either_small false h k = k

module _ (kind own : ℕ) (small : own < 65536) where
  small_by : (s : Option ℕ) → HeldSender s → carried_by kind own s < 65536
  small_by (Some n) h = h
  small_by None h = either_small (obeyed_from42 kind) (lit< tt) small

pub carried_small : (kind : ℕ) (w : Writer) → HeldWriter w → carried kind w < 65536
unfolding carried
carried_small kind w h = small_by kind w.own h.own w.sender h.sender

pub not_obeyed : (kind : ℕ) → NotAs42 kind → obeyed_from42 kind ≡ false
not_obeyed kind h = rw (ne_eqb kind 0x00a1 h.0, ne_eqb kind 0x00a2 h.1)

-- ---- as C has it

module _ (kind own n : ℕ) where
  pub linked_given : n < 65536 → carried kind (writer_from own n) ≡ n
  unfolding carried
  linked_given h = rw (lt-ltb n 65536 (omega arith))

  pub linked_none : 65536 ≤ n → carried kind (writer_from own n) ≡ carried kind (record { own = own; sender = None })
  linked_none h = rw (le-ltb n 65536 (omega arith))
