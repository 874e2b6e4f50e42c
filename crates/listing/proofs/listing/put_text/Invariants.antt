-- `listing::listing::put_text` meets its contract.
use lib.ListN.{length}
use Rattle.frames.proofs.CursorLoops.{Walking, left}
use Rattle.listing.proofs.Texts.{Putting}
use Rattle.listing.proofs.listing.put_text.Given as goal

abbrev pub invariant-loop-frame : goal.invariant-loop-frame
invariant-loop-frame l = Walking l.s (Putting l.s l.initial.buf l.collator l.buf l.at) l.cursor

abbrev pub decreases-loop-frame : goal.decreases-loop-frame
decreases-loop-frame l = length (left l.s l.cursor)
