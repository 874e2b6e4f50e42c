-- `index::room::roomy` meets its contract.
use Rattle.std.proofs.Common.{sym, ◌∙◌, le-leb, length, ◌-◌, ◌/◌}
use Rattle.index.proofs.Plans.{roomy_enough}
use Rattle.index.proofs.room.roomy.Goals as goal

pub returns-then-s-from : goal.returns-then-s-from
returns-then-s-from c =
    let a = c.args in
    le-leb ((length a.s.now - a.from) / 8) (a.most - a.held) c.if-s-from.true
    ∙ sym (roomy_enough a.s.now a.most a.held a.from c.requires c.if-most-held.false c.if-s-from.true)
