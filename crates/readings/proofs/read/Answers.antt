-- `readings::read` meets its contract: 21 for a type without a reading, else by the message's own reader.
use Rattle.std.proofs.Common.{◌≡◌, ℕ, Result, Err, sym, ap, ◌∙◌, rules}
use Rattle.refusals.specs.Numbers.{answer_of}
use Rattle.refusals.specs.declared.Refusal.{Refusal}
use Rattle.payloads.specs.Payloads.{read_for}
use Rattle.payloads.specs.declared.Message.{Message}
use Rattle.payloads.proofs.TypesFound.{has_number, untyped}
use Rattle.readings.proofs.Records.{by_own_reader}
use Rattle.readings.proofs.read.Goals as goal

pub returns-in_err-message_type : goal.returns-in_err-message_type
returns-in_err-message_type c =
    let same : c.from_residual.result ≡ Err c.in_err-message_type.field-0.0 = search rules in
    ap (λ (r : Result Message Refusal). answer_of r) same ∙ untyped c.args.kind c.message_type.ensures c.in_err-message_type.was c.args.payload.now

pub returns : goal.returns
returns c =
    let s = c.args.payload.now in
    let number = has_number c.args.kind c.message_type.ensures c.in_ok-message_type.was in
    c.record_of.ensures ∙ by_own_reader _ s ∙ sym (ap (λ (k : ℕ). read_for k s) number)
