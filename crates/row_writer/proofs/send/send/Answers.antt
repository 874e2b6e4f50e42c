-- `row_writer::send::send` meets its contract: the frame's writer is asked where the payload is taken.
use Rattle.std.proofs.Common.{ℕ, Result, sym, ap, ◌∙◌}
use Rattle.refusals.specs.Refusals.{zero_or}
use Rattle.refusals.specs.Numbers.{answer_of}
use Rattle.refusals.specs.declared.Refusal.{Refusal}
use Rattle.payloads.proofs.TypesFound.{some_number}
use Rattle.row_writer.proofs.Sends.{sent_on, sent_not}
use Rattle.row_writer.proofs.send.send.Goals as goal

abbrev told : Result (Unit {0}) Refusal → ℕ
told r = zero_or (answer_of r)

pub returns-in-Ok : goal.returns-in-Ok
returns-in-Ok c =
    let a = c.args in
    let both = sent_on a.kind a.writer a.out.now a.payload.now (sym (ap told c.in-Ok.is) ∙ c.answer.ensures) c.write_frame.ensures.result_value c.write_frame.ensures.buf_after in
    record { result_value = both.0; out_after = both.1 }

pub returns-in-Err : goal.returns-in-Err
returns-in-Err c =
    let a = c.args in
    let both = sent_not a.kind a.writer a.out.now a.payload.now (sym (ap told c.in-Err.is) ∙ c.answer.ensures) (some_number _) in
    record { result_value = both.0; out_after = both.1 }
