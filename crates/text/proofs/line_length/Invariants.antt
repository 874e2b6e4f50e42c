-- `text::line_length` meets its contract.
use Rattle.text.proofs.LinesPut.{Summing}
use Rattle.text.proofs.line_length.Given as goal

abbrev pub invariant-loop-n : goal.invariant-loop-n
invariant-loop-n l = Summing l.fn.numbers l.length l.n-index
