-- `padded::padded::trimmed` meets its contract.
use Rattle.padded.proofs.Texts.{none_trimmed, trimmed_more}
use Rattle.padded.proofs.padded.trimmed.Goals as goal

pub loop-i-init : goal.loop-i-init
loop-i-init c = none_trimmed c.args.s.now

pub loop-i-preserved : goal.loop-i-preserved
loop-i-preserved c =
    trimmed_more c.args.s.now c.loop-i.i c.loop-i.invariant c.loop-i-test.true c.if-s-i-ne0.false
