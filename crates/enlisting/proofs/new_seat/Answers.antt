-- `enlisting::new_seat` meets its contract, in three ways.
use Rattle.std.proofs.Common.{sym, ap, ◌∙◌}
use Rattle.std.specs.Prelude.{is_some}
use Rattle.epochs.specs.Search.{names}
use Rattle.enlisting.proofs.Seating.{seat_had, seat_full, seat_free}
use Rattle.enlisting.proofs.new_seat.Goals as goal

pub returns-then-is_some : goal.returns-then-is_some
unfolding names
returns-then-is_some c =
    let r = c.args.roster in
    sym (seat_had r.senders r.count c.args.sender (ap is_some (sym c.seat_of.ensures) ∙ sym c.is_some.ensures ∙ c.if-is_some.true))

pub returns-then-roster-ge8 : goal.returns-then-roster-ge8
unfolding names
returns-then-roster-ge8 c =
    let r = c.args.roster in
    sym (seat_full r.senders r.count c.args.sender (ap is_some (sym c.seat_of.ensures) ∙ sym c.is_some.ensures ∙ c.if-is_some.false) c.if-roster-ge8.true)

pub returns : goal.returns
unfolding names
returns c =
    let r = c.args.roster in
    sym (seat_free r.senders r.count c.args.sender (ap is_some (sym c.seat_of.ensures) ∙ sym c.is_some.ensures ∙ c.if-is_some.false) c.if-roster-ge8.false)
