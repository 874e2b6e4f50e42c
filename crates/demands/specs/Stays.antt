-- Document 02, P4: "Operators watch a capture grow and have asked whether a frame on the screen can later disappear." In open reading it cannot.
-- Whatever calls of `next` have handed out of a capture, calls on a longer one that begins with it hand out first, in the same order, at the same
-- places, with the same payload bytes; and going on with the cursor that was handed back gives the same as starting over.
use Rattle.std.specs.Prelude.{true}
use seplogic.Ra.Ura.{Ura}
use base.Logic.{SProp}
use prog.Memory.{Memory}
use prog.Routine.{Routine}
use types.Logic.{Logic}
use contract.Monad.{Fun}
use Rattle.stays.specs.Stays.{Stays}
use Rattle.stays.specs.Watching.{Call, CallsStay}
use Rattle.frames.specs.contracts as frames
use Rattle.exports.specs.contracts as exports
use Rattle.demands.specs.RowsStay.{RowsStay, RowCall, RowCallsStay}
use Rattle.demands.specs.Swallowed.{Swallowed}

-- at every model of the logic, as every contract is stated
module _ {M : Type 1} {𝓤 : Ura M} (𝓛 : Logic 𝓤) (mem : Memory → SProp 𝓤) (run : Routine → Fun 𝓤) where
  pub record HandedOutStays : Type 2 where
    -- "in open reading the frames, junk and bad steps of a capture are a leading part of those of every longer capture that begins with it"; and so
    -- what a call, and all calls from the start on, have handed out
    pub stays : Stays
    -- of calls while a capture grows, by what the contract of `next` itself ensures
    pub next_calls : CallsStay 𝓤 (λ (k : Call). (frames.cursor.Cursor.next.clauses 𝓛 mem run k.lives (k.cursor, (k.capture, tt))).ensures tt k.answer (k.cursor, (k.capture, tt)))
    -- of what C and Rust link
    pub rows : RowsStay
    pub sbp_next_calls : RowCallsStay 𝓤 (λ (k : RowCall). (exports.sbp_next.clauses 𝓛 mem run k.lives (k.capture, (k.at, (true, (k.found, tt))))).ensures tt k.number (k.capture, (k.at, (true, (k.left, tt)))))
    -- "Closed reading doesn't have this"
    pub not_closed : Swallowed
