-- `wire::value::U32InBytes::read` meets its contract: its two halves.
use mathlib.Core.Path.{sym}
use Rattle.wire.proofs.Numbers.{number_past, number_halves}
use Rattle.wire.proofs.value.U32InBytes.read.Goals as goal

pub returns-then-s-at : goal.returns-then-s-at
returns-then-s-at c = sym (number_past 4 c.args.s.now c.args.at c.if-s-at.true)

pub returns : goal.returns
returns c =
    let a = c.args in
    number_halves 2 2 a.s.now a.at c.read.ensures c.read-2.ensures
