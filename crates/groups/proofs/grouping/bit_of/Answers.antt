-- `groups::grouping::bit_of` meets its contract: the shift is a mask of four ones.
use Rattle.std.proofs.Common.{◌%◌, arith}
use lib.Bits.{and_mask}
use Rattle.groups.proofs.Shifts.{one_bit}
use Rattle.groups.proofs.grouping.bit_of.Goals as goal

pub returns : goal.returns
returns c = rw (and_mask c.args.counter 4) (one_bit 16 (c.args.counter % 16) (omega arith))
