-- `frames::cursor::Cursor::next` meets its contract: the answer that the numbers tell.
use Rattle.frames.proofs.InNumbers.{tells_frame, tells_end, tells_needs}
use Rattle.frames.proofs.cursor.Cursor.next.Goals as goal

pub returns-in-0 : goal.returns-in-0
returns-in-0 c = tells_frame c.search-r.result _ c.search-r.ensures c.in-0.is

pub returns-in-1 : goal.returns-in-1
returns-in-1 c = tells_end c.search-r.result _ c.search-r.ensures c.in-1.is

pub returns-in_default : goal.returns-in_default
returns-in_default c = tells_needs c.search-r.result _ c.search-r.ensures c.in_default.in_default-own.rest
