-- `text::line_length` meets its contract.
use Rattle.std.proofs.Common.{arith}
use Rattle.text.proofs.LinesPut.{summing_begun, summing_more}
use Rattle.text.proofs.line_length.Goals as goal

pub loop-n-init : goal.loop-n-init
loop-n-init c = summing_begun c.args.numbers

pub loop-n-preserved : goal.loop-n-preserved
loop-n-preserved c =
    summing_more c.args.numbers c.loop-n.invariant (omega (arith, c.loop-n-test.true)) c.digit_count.ensures.0 c.digit_count.ensures.1
