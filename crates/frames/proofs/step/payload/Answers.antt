-- `frames::step::payload` meets its contract: both ends are brought inside the capture.
use Rattle.std.proofs.Common.{◌+◌}
use Rattle.frames.specs.Step.{payload_in}
use Rattle.frames.proofs.Frames.{part}
use Rattle.frames.proofs.step.payload.Goals as goal

pub returns : goal.returns
unfolding payload_in
returns c =
    let a = c.args in
    part a.s.now (a.frame.at + 6) a.frame.length c.onward-start.ensures c.onward-end.ensures
