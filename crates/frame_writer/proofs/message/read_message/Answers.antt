-- `frame_writer::message::read_message` meets its contract.
use mathlib.Core.Path.{sym, ◌∙◌, subst}
use Rattle.layouts.specs.Layout.{LengthOf}
use Rattle.layouts.proofs.Descriptions.{gives_22, gives_23, gives}
use Rattle.frame_writer.proofs.message.read_message.Goals as goal

pub returns-then-s-LENGTH : goal.returns-then-s-LENGTH
returns-then-s-LENGTH g c =
    let fixed = g.met.M.FixedMessage.fixed in
    gives_22 g.M.FixedMessage.description c.args.s.now (λ l. c.if-s-LENGTH.true (fixed.only_length _ l ∙ sym c.LENGTH.ensures))

pub returns-then-allowed : goal.returns-then-allowed
returns-then-allowed g c = let d = g.M.FixedMessage.description in
    gives d c.args.s.now c.take-r.result (subst (LengthOf d.layout) (sym (c.if-s-LENGTH.false ∙ c.LENGTH.ensures)) g.met.M.FixedMessage.fixed.length) c.take-r.ensures (sym c.allowed.ensures ∙ c.if-allowed.true)

pub returns : goal.returns
returns g c = let d = g.M.FixedMessage.description in
    gives_23 d c.args.s.now c.take-r.result (subst (LengthOf d.layout) (sym (c.if-s-LENGTH.false ∙ c.LENGTH.ensures)) g.met.M.FixedMessage.fixed.length) c.take-r.ensures (sym c.allowed.ensures ∙ c.if-allowed.false)
