-- Who sends a frame that is written: the number that it carries (document 02, P6).
use Rattle.std.specs.Prelude.{ℕ, ◌<◌, Bool, ◌||◌, cond, eqb, ltb, Option, None, Some}
use Rattle.senders.specs.declared.Writer.{Writer}

-- SETTINGS_SAVE, by our house rule, and READ_BY_INDEX_REQ, which devices obey from 0x42 alone (003, section 6.4)
abbrev pub obeyed_from42 : ℕ → Bool
obeyed_from42 kind = eqb kind 0x00a1 || eqb kind 0x00a2

-- by its type, the writer's own number and the sender that is given, if any
abbrev pub carried_by : ℕ → ℕ → Option ℕ → ℕ
carried_by kind own (Some n) = n
carried_by kind own None = cond (obeyed_from42 kind) 0x42 own

unfoldable pub carried : ℕ → Writer → ℕ
carried kind w = carried_by kind w.own w.sender

-- a writer is made with the recorder's own number, and given no sender
abbrev pub made_with : ℕ → Writer
made_with own = record { own = own; sender = None }

-- or one for a frame
abbrev pub naming : Writer → ℕ → Writer
naming w n = record { own = w.own; sender = Some n }

-- as C has it: a sender that 16 bits do not hold means that none is given
abbrev pub sender_from : ℕ → Option ℕ
sender_from n = cond (ltb n 65536) (Some n) None

abbrev pub writer_from : ℕ → ℕ → Writer
writer_from own n = record { own = own; sender = sender_from n }

-- such as a program has
abbrev pub HeldSender : Option ℕ → Type 0
HeldSender (Some n) = n < 65536
HeldSender None = Unit {0}

pub record HeldWriter (w : Writer) : Type 0 where
  pub own : w.own < 65536
  pub sender : HeldSender w.sender
