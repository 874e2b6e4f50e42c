-- `frame_writer::write::seal` meets its contract: the head and the CRC, where the plan says that the frame fits.
use mathlib.Core.Path.{sym}
use Prim.Native.Nat.{◌+◌, ◌≤◌}
use native.Mathlib.Omega.{arith}
use lib.ListN.{length}
use Rattle.frame_writer.proofs.WrittenPlan.{known, fits}
use Rattle.frame_writer.proofs.WrittenFrames.{seals, sealed_unfit}
use Rattle.frame_writer.proofs.write.seal.Goals as goal
use Rattle.frame_writer.proofs.write.seal.Goals.{In-Ok}

room : (c : In-Ok) → (c.args.n ≤ 255) × (c.args.n + 8 ≤ length c.args.buf.now)
room c =
    let a = c.args in
    fits a.n (length a.buf.now) (known c.plan.ensures c.in-Ok.is)

pub overflow_cast-n : goal.overflow_cast-n
overflow_cast-n c = omega (arith, room (goal.at.overflow_cast-n c).In-Ok)

pub overflow_add-end : goal.overflow_add-end
overflow_add-end c = omega (arith, room (goal.at.overflow_add-end c).In-Ok)

pub slice_bounds-crc-end : goal.slice_bounds-crc-end
slice_bounds-crc-end c = omega (arith, room (goal.at.slice_bounds-crc-end c).In-Ok, c.put_head.auto)

pub returns-in-Ok : goal.returns-in-Ok
returns-in-Ok c =
    let a = c.args in
    seals a.kind a.writer a.n a.buf.now
    (known c.plan.ensures c.in-Ok.is)
    c.sender_number.ensures
    c.put_head.ensures
    c.crc-sum.ensures
    c.store.ensures

pub returns-in_default : goal.returns-in_default
returns-in_default c =
    let a = c.args in
    sym (sealed_unfit a.kind a.writer a.n a.buf.now (known c.plan.ensures c.in_default.is))
