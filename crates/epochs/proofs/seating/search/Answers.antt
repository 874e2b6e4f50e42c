-- `epochs::seating::search` meets its contract.
use Rattle.std.proofs.Common.{sym, ◌∙◌, rules}
use Rattle.epochs.proofs.Searches.{seat_none, seat_here, seat_on}
use Rattle.epochs.proofs.seating.search.Goals as goal

pub returns-then-roster-i : goal.returns-then-roster-i
returns-then-roster-i c =
    let a = c.args in
    sym (c.loop-i.invariant ∙ seat_here a.roster.now a.sender c.loop-i.i (search rules) c.if-roster-i.true)

pub loop-i-preserved : goal.loop-i-preserved
loop-i-preserved c =
    let a = c.args in
    c.loop-i.invariant ∙ seat_on a.roster.now a.sender c.loop-i.i (search rules) c.if-roster-i.false

pub returns : goal.returns
returns c =
    let a = c.args in
    sym (c.loop-i.invariant ∙ seat_none a.roster.now a.sender c.loop-i.i (search rules))
