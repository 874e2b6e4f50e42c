-- `frame_writer::message::write_message` meets its contract: 23, then by the plan of the message's length.
use mathlib.Core.Path.{sym, ap, ◌∙◌, ◌≡◌}
use Rattle.std.proofs.Common.{rules}
use Rattle.refusals.specs.Refusals.{refused}
use Rattle.refusals.specs.Numbers.{answer_of}
use Rattle.frame_writer.proofs.FixedLength.{left_as_it_was, put_and_sealed}
use Rattle.frame_writer.proofs.Promised.{Wrote, wrote_23}
use Rattle.frame_writer.proofs.message.write_message.Goals as goal
use Rattle.frame_writer.proofs.message.write_message.Goals.{In_err-written, After-seal, Else-allowed}

no_room : (g : _) (c : In_err-written g) → Wrote g.M.FixedMessage.description c.args.writer c.args.r c.args.buf.now (answer_of c.plan.result) c.args.buf.now
no_room g c =
    left_as_it_was g.M.FixedMessage.description g.met.M.FixedMessage.fixed c.args.writer c.args.r c.args.buf.now (sym c.allowed.ensures ∙ c.if-allowed.true)
    c.LENGTH.ensures c.plan.ensures (ap answer_of c.in_err-written.was)

stored : (g : _) (c : After-seal g) → Wrote g.M.FixedMessage.description c.args.writer c.args.r c.args.buf.now (answer_of c.plan.result) c.seal.new.buf
stored g c =
    put_and_sealed g.M.FixedMessage.description g.met.M.FixedMessage.fixed c.args.writer c.args.r c.args.buf.now (sym c.allowed.ensures ∙ c.if-allowed.true)
    c.LENGTH.ensures c.plan.ensures (ap answer_of c.in_ok-written.was) c.KIND.ensures c.LENGTH-then-allowed.ensures c.put.ensures c.seal.ensures

out_of_range : (g : _) (c : Else-allowed g) → Wrote g.M.FixedMessage.description c.args.writer c.args.r c.args.buf.now (refused 23) c.args.buf.now
out_of_range g c = wrote_23 g.M.FixedMessage.description c.args.writer c.args.r c.args.buf.now (sym c.allowed.ensures ∙ c.if-allowed.false)

pub returns-in_err-written-clause-result_value : goal.returns-in_err-written-clause-result_value
returns-in_err-written-clause-result_value g c =
    let same : c.from_residual.result ≡ c.plan.result = search rules in
    ap answer_of same ∙ (no_room g (goal.at.returns-in_err-written-clause-result_value g c).In_err-written).0

pub returns-in_err-written-clause-buf_after : goal.returns-in_err-written-clause-buf_after
returns-in_err-written-clause-buf_after g c = (no_room g (goal.at.returns-in_err-written-clause-buf_after g c).In_err-written).1

pub returns-then-allowed-clause-result_value : goal.returns-then-allowed-clause-result_value
returns-then-allowed-clause-result_value g c =
    sym (ap answer_of c.in_ok-written.was) ∙ (stored g (goal.at.returns-then-allowed-clause-result_value g c).After-seal).0

pub returns-then-allowed-clause-buf_after : goal.returns-then-allowed-clause-buf_after
returns-then-allowed-clause-buf_after g c = (stored g (goal.at.returns-then-allowed-clause-buf_after g c).After-seal).1

pub returns-clause-result_value : goal.returns-clause-result_value
returns-clause-result_value g c = (out_of_range g (goal.at.returns-clause-result_value g c).Else-allowed).0

pub returns-clause-buf_after : goal.returns-clause-buf_after
returns-clause-buf_after g c = (out_of_range g (goal.at.returns-clause-buf_after g c).Else-allowed).1
