-- A run of packets in counter order, step by step.
use Rattle.std.specs.Prelude.{ℕ, ◌+◌, ◌%◌, Bool, cond, ◌&&◌, List, [], ◌∷◌, ◌==◌, Option, Some, None}
use Rattle.packets.specs.Packet.{same_key}
use Rattle.packets.specs.declared.packet.Packet.{Packet}
use Rattle.runs.specs.declared.running.Part.{Part}
use Rattle.runs.specs.declared.running.Stepped.{Stepped}

-- nothing is open, and nothing ended
abbrev pub dropped : Stepped
dropped = record { run = None; ended = None }

-- the run that ends with this packet, open for the next
abbrev pub open_with : Packet → ℕ → Stepped
open_with p total = record { run = Some (record { key = p.key; next = (p.counter + 1) % 256; total = total }); ended = None }

-- and whole
abbrev pub whole_with : Packet → ℕ → Stepped
whole_with p total = record { run = None; ended = Some total }

-- it is whole where its counter is the last
unfoldable pub goes_on : Packet → ℕ → Stepped
goes_on p total = cond ((p.counter + 1) % 256 == p.key.n) (whole_with p total) (open_with p total)

-- a packet fits an open run: of the same key, with the counter that comes next
abbrev pub fits : Part → Packet → Bool
fits part p = same_key part.key p.key && part.next == p.counter

-- the observations of an open run and one more packet. The sum wraps, so that no state traps
abbrev pub summed : Part → Packet → ℕ
summed part p = (part.total + p.observations) % 65536

-- a packet that fits goes on; any other leaves nothing open
unfoldable pub continued : Option Part → Packet → Stepped
unfolding goes_on
continued None p = dropped
continued (Some part) p = cond (fits part p) (goes_on p (summed part p)) dropped

-- counter 0 begins a run, whatever was open
unfoldable pub stepped : Option Part → Packet → Stepped
unfolding goes_on continued
stepped run p = cond (p.counter == 0) (goes_on p p.observations) (continued run p)

-- what packets leave open, the latest first
unfoldable pub run_of : List Packet → Option Part
unfolding stepped
run_of [] = None
run_of (p ∷ past) = (stepped (run_of past) p).run
