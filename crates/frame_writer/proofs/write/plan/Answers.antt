-- `frame_writer::write::plan` meets its contract, test by test.
use mathlib.Core.Path.{sym}
use Rattle.frame_writer.proofs.WrittenPlan.{planned_31, planned_32, planned_given}
use Rattle.frame_writer.proofs.write.plan.Goals as goal

pub returns-then-n-gt255 : goal.returns-then-n-gt255
returns-then-n-gt255 c = sym (planned_31 c.args.n c.args.room c.if-n-gt255.true)

pub returns-then-room-n : goal.returns-then-room-n
returns-then-room-n c = sym (planned_32 c.args.n c.args.room c.if-n-gt255.false c.if-room-n.true)

pub returns : goal.returns
returns c = sym (planned_given c.args.n c.args.room c.if-n-gt255.false c.if-room-n.false)
