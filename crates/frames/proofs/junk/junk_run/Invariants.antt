-- `frames::junk::junk_run` meets its contract. The loop's invariant: the run reaches to where it stands.
use Rattle.std.proofs.Common.{◌≤◌}
use Rattle.frames.specs.Inner.{junk_run}
use Rattle.frames.proofs.junk.junk_run.Given as goal

abbrev pub invariant-loop-i : goal.invariant-loop-i
invariant-loop-i l = l.i ≤ junk_run l.s
