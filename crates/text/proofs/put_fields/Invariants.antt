-- `text::put_fields` meets its contract.
use Rattle.text.proofs.LinesPut.{Left}
use Rattle.text.proofs.put_fields.Given as goal

abbrev pub invariant-loop-i : goal.invariant-loop-i
invariant-loop-i l = Left l.initial.buf l.end l.numbers l.buf l.to l.i
