-- `sbplist::put_output` meets its contract.
use Rattle.std.proofs.Common.{sym}
use Rattle.sbplist.proofs.Outputs.{puts_listing, puts_refusal}
use Rattle.sbplist.proofs.put_output.Goals as goal

pub returns-in-Ok : goal.returns-in-Ok
returns-in-Ok c =
    let a = c.args in
    let put = puts_listing a.capture.now a.text.now (sym c.in-Ok.ensures.result_value) c.in-Ok.ensures.buf_after in
    record { value = put.0; text_after = put.1.0; upper_bound = put.1.1 }

pub returns : goal.returns
returns c =
    let a = c.args in
    let refused = sym c.in_default.ensures.result_value in
    let put = puts_refusal a.capture.now a.text.now (λ i. (c.type_inv.capture i).fits) c.list.new.buf c.requires refused c.copy_from_slice.ensures.after in
    record { value = put.0; text_after = put.1.0; upper_bound = put.1.1 }
