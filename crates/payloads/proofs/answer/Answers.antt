-- `payloads::answer` meets its contract: 21 for a type without a reading, else as its message.
use Rattle.std.proofs.Common.{◌≡◌, ℕ, Result, Err, ap, sym, ◌∙◌, rules}
use Rattle.refusals.specs.Refusals.{zero_or}
use Rattle.refusals.specs.Numbers.{answer_of}
use Rattle.refusals.specs.declared.Refusal.{Refusal}
use Rattle.payloads.specs.Payloads.{answer_for}
use Rattle.payloads.proofs.TypesFound.{has_number, untyped}
use Rattle.payloads.proofs.answer.Goals as goal

pub returns-in_err-message_type : goal.returns-in_err-message_type
returns-in_err-message_type c =
    let same : c.from_residual.result ≡ Err c.in_err-message_type.field-0.0 = search rules in
    ap (λ (r : Result (Unit {0}) Refusal). zero_or (answer_of r)) same
    ∙ ap zero_or (untyped c.args.kind c.message_type.ensures c.in_err-message_type.was c.args.payload.now)

pub returns : goal.returns
returns c =
    let number = has_number c.args.kind c.message_type.ensures c.in_ok-message_type.was in
    c.accept.ensures ∙ sym (ap (λ (k : ℕ). answer_for k c.args.payload.now) number)
