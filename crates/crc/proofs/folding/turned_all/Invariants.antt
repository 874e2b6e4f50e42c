-- `crc::folding::turned_all` meets its contract: each turn of the loop takes the next word.
use Rattle.crc.specs.Inner.{joined}
use Rattle.crc.proofs.Loops.{Going}
use Rattle.crc.proofs.folding.turned_all.Given as goal

abbrev pub invariant-loop-i : goal.invariant-loop-i
invariant-loop-i l = Going (joined l.initial.four) l.s l.from (joined l.four) l.i
