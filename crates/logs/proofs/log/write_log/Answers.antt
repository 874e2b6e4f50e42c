-- `logs::log::write_log` meets its contract.
use mathlib.Core.Path.{◌≡◌, sym, ap, ◌∙◌}
use mathlib.Core.Bool.{true, false}
use Prim.Native.Nat.{◌+◌}
use lib.Dec.{leb}
use lib.ListN.{length}
use Rattle.std.proofs.Common.{rules}
use Rattle.padded.specs.Padded.{no_zero}
use Rattle.refusals.specs.Refusals.{refused}
use Rattle.refusals.specs.Numbers.{answer_of}
use Rattle.frame_writer.proofs.WrittenPlan.{known}
use Rattle.logs.proofs.Logs.{Wrote, wrote_23, wrote_31, wrote, wrote_nothing}
use Rattle.logs.proofs.log.write_log.Goals as goal
use Rattle.logs.proofs.log.write_log.Goals.{Then-not-no_zero, Then-not-room, In_err-written, After-seal}

with_zero : (c : Then-not-no_zero) → Wrote c.args.level c.args.text.now c.args.padding c.args.writer c.args.buf.now (refused 23) c.args.buf.now
with_zero c =
    let a = c.args in
    let zero : no_zero a.text.now ≡ false = search rules in
    wrote_23 a.level a.text.now a.padding a.writer a.buf.now zero

too_long : (c : Then-not-room) → Wrote c.args.level c.args.text.now c.args.padding c.args.writer c.args.buf.now (refused 31) c.args.buf.now
too_long c =
    let a = c.args in
    let clean : no_zero a.text.now ≡ true = search rules in
    let many : leb (length a.text.now + a.padding) 254 ≡ false = search rules in
    wrote_31 a.level a.text.now a.padding a.writer a.buf.now clean many

no_room : (c : In_err-written) → Wrote c.args.level c.args.text.now c.args.padding c.args.writer c.args.buf.now (answer_of c.plan.result) c.args.buf.now
no_room c =
    let a = c.args in
    let clean : no_zero a.text.now ≡ true = search rules in
    let few : leb (length a.text.now + a.padding) 254 ≡ true = search rules in
    wrote_nothing a.level a.text.now a.padding a.writer a.buf.now clean few c.plan.ensures (known c.plan.ensures c.in_err-written.was)

stored : (c : After-seal) → Wrote c.args.level c.args.text.now c.args.padding c.args.writer c.args.buf.now (answer_of c.plan.result) c.seal.new.buf
stored c =
    let a = c.args in
    let clean : no_zero a.text.now ≡ true = search rules in
    let few : leb (length a.text.now + a.padding) 254 ≡ true = search rules in
    wrote a.level a.text.now a.padding a.writer a.buf.now clean few c.plan.ensures (known c.plan.ensures c.in_ok-written.was) c.put_log.ensures c.seal.ensures

pub returns-then-not-no_zero-clause-result_value : goal.returns-then-not-no_zero-clause-result_value
returns-then-not-no_zero-clause-result_value c = (with_zero (goal.at.returns-then-not-no_zero-clause-result_value c).Then-not-no_zero).0

pub returns-then-not-no_zero-clause-buf_after : goal.returns-then-not-no_zero-clause-buf_after
returns-then-not-no_zero-clause-buf_after c = (with_zero (goal.at.returns-then-not-no_zero-clause-buf_after c).Then-not-no_zero).1

pub returns-then-not-room-clause-result_value : goal.returns-then-not-room-clause-result_value
returns-then-not-room-clause-result_value c = (too_long (goal.at.returns-then-not-room-clause-result_value c).Then-not-room).0

pub returns-then-not-room-clause-buf_after : goal.returns-then-not-room-clause-buf_after
returns-then-not-room-clause-buf_after c = (too_long (goal.at.returns-then-not-room-clause-buf_after c).Then-not-room).1

pub returns-in_err-written-clause-result_value : goal.returns-in_err-written-clause-result_value
returns-in_err-written-clause-result_value c =
    let same : c.from_residual.result ≡ c.plan.result = search rules in
    ap answer_of same ∙ (no_room (goal.at.returns-in_err-written-clause-result_value c).In_err-written).0

pub returns-in_err-written-clause-buf_after : goal.returns-in_err-written-clause-buf_after
returns-in_err-written-clause-buf_after c = (no_room (goal.at.returns-in_err-written-clause-buf_after c).In_err-written).1

pub returns-clause-result_value : goal.returns-clause-result_value
returns-clause-result_value c = sym (ap answer_of c.in_ok-written.was) ∙ (stored (goal.at.returns-clause-result_value c).After-seal).0

pub returns-clause-buf_after : goal.returns-clause-buf_after
returns-clause-buf_after c = (stored (goal.at.returns-clause-buf_after c).After-seal).1
