-- `groups::grouping::all_come` meets its contract.
use Rattle.std.proofs.Common.{◌+◌, eqb, ap, arith}
use Rattle.groups.proofs.Shifts.{one_bit, too_many}
use Rattle.groups.proofs.grouping.all_come.Goals as goal

pub returns-then-n-gt16 : goal.returns-then-n-gt16
returns-then-n-gt16 c = too_many c.args.come c.args.n c.ranges.come.fits c.if-n-gt16.true

pub returns : goal.returns
returns c = ap (eqb (c.args.come + 1)) (one_bit 32 c.args.n (omega arith))
