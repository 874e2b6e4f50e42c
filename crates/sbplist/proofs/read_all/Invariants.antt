-- `sbplist::read_all`: no more came than buf has.
use Rattle.std.proofs.Common.{◌≤◌, length}
use Rattle.sbplist.proofs.read_all.Given as goal

abbrev pub invariant-loop : goal.invariant-loop
invariant-loop l = l.n ≤ length l.buf
