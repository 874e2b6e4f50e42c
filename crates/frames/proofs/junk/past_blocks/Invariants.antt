-- `frames::junk::past_blocks` meets its contract. The loop's invariant: the run reaches to where it stands.
use Rattle.std.proofs.Common.{◌-◌, ◌≤◌, length}
use Rattle.frames.specs.Inner.{junk_run}
use Rattle.frames.proofs.junk.past_blocks.Given as goal

abbrev pub invariant-loop-to : goal.invariant-loop-to
invariant-loop-to l = l.to ≤ junk_run l.s

abbrev pub decreases-loop-to : goal.decreases-loop-to
decreases-loop-to l = length l.s - l.to
