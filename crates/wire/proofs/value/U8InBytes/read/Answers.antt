-- `wire::value::U8InBytes::read` meets its contract.
use mathlib.Core.Path.{sym}
use Rattle.wire.proofs.Numbers.{number_past, number_byte}
use Rattle.wire.proofs.value.U8InBytes.read.Goals as goal

pub returns-then-s-at : goal.returns-then-s-at
returns-then-s-at c = sym (number_past 1 c.args.s.now c.args.at c.if-s-at.true)

pub returns : goal.returns
returns c = number_byte c.args.s.now c.args.at c.if-s-at.false
