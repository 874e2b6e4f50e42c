-- `frame_writer::write::write_frame` meets its contract: where the plan says that the frame fits, the payload is stored and sealed.
use mathlib.Core.Path.{sym}
use Rattle.layouts.specs.Layout.{bytes}
use Rattle.frame_writer.proofs.WrittenPlan.{known}
use Rattle.frame_writer.proofs.WrittenFrames.{writes_body, framed_unfit}
use Rattle.frame_writer.proofs.write.write_frame.Goals as goal

pub returns-in_err-written-clause-buf_after : goal.returns-in_err-written-clause-buf_after
returns-in_err-written-clause-buf_after c =
    let a = c.args in
    sym (framed_unfit a.kind a.writer a.payload.now a.buf.now (known c.plan.ensures c.in_err-written.was))

pub returns-clause-buf_after : goal.returns-clause-buf_after
returns-clause-buf_after c = let a = c.args in
    writes_body a.kind a.writer (bytes 255) a.payload.now a.buf.now (known c.plan.ensures c.in_ok-written.was) c.store_bytes.ensures c.seal.ensures
