-- `epochs::seating::Roster::recognise` meets its contract, test by test.
use Rattle.std.proofs.Common.{◌≡◌, sym, ap, ◌∙◌, rules}
use Rattle.std.specs.Prelude.{Err}
use Rattle.refusals.specs.Refusals.{mapped}
use Rattle.refusals.specs.Numbers.{answer_of}
use Rattle.frames.specs.Frame.{Content}
use Rattle.packets.specs.Packet.{numbered}
use Rattle.packets.proofs.Recognitions.{read_recognised}
use Rattle.epochs.specs.Listed.{listed}
use Rattle.epochs.specs.Collator.{for_place}
use Rattle.epochs.proofs.Placings.{at, placed_unread, placed_43, placed_listed}
use Rattle.epochs.proofs.seating.Roster.recognise.Goals as goal
use Rattle.epochs.proofs.seating.Roster.recognise.Goals.{In-Some}

-- the frame was read, and its sender has a seat: its numbers decide
recognised_at : (c : In-Some)
    → mapped (at c.in-Some.at) (numbered c.in_ok-packet.packet)
    ≡ for_place (listed c.args.self) (record { kind = c.args.kind; sender = c.args.sender; payload = c.args.payload.now })
recognised_at c =
    let a = c.args in
    let x : Content = record { kind = a.kind; sender = a.sender; payload = a.payload.now } in
    ap (mapped (at c.in-Some.at)) (sym (read_recognised x.kind x.payload (sym c.read_packet.ensures ∙ ap answer_of c.in_ok-packet.was)))
    ∙ sym (placed_listed (listed a.self) x (sym c.seat_of.ensures ∙ c.in-Some.is))

pub returns-in_err-packet : goal.returns-in_err-packet
returns-in_err-packet c =
    let a = c.args in
    let x : Content = record { kind = a.kind; sender = a.sender; payload = a.payload.now } in
    let same : c.from_residual.result ≡ Err c.in_err-packet.field-0.0 = search rules in
    ap answer_of same ∙ sym (placed_unread (listed a.self) x (sym c.read_packet.ensures ∙ ap answer_of c.in_err-packet.was))

pub returns-in_default : goal.returns-in_default
returns-in_default c =
    let a = c.args in
    let x : Content = record { kind = a.kind; sender = a.sender; payload = a.payload.now } in
    sym (placed_43 (listed a.self) x (sym c.read_packet.ensures ∙ ap answer_of c.in_ok-packet.was) (sym c.seat_of.ensures ∙ c.in_default.is))

pub returns-in_err-formed : goal.returns-in_err-formed
returns-in_err-formed c =
    let same : c.from_residual-in_err-formed.result ≡ Err c.in_err-formed.field-0.0 = search rules in
    ap answer_of same
    ∙ ap (mapped (at c.in-Some.at)) (ap answer_of (sym c.in_err-formed.was) ∙ c.numbered.ensures)
    ∙ recognised_at (goal.at.returns-in_err-formed c).In-Some

pub returns : goal.returns
returns c = ap (mapped (at c.in-Some.at)) (ap answer_of (sym c.in_ok-formed.was) ∙ c.numbered.ensures) ∙ recognised_at (goal.at.returns c).In-Some
