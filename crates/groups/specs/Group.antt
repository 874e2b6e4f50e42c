-- A group of packets, step by step: what is open keeps which counters have come, a bit for each.
use Rattle.std.specs.Prelude.{ℕ, ◌+◌, ◌%◌, ◌^◌, Bool, false, cond, not, ◌&&◌, List, [], ◌∷◌, ◌==◌, bit_or, Option, Some, None}
use Rattle.refusals.specs.Refusals.{refused, given, Answer, Call, reply}
use Rattle.wire.specs.Number.{flag_at}
use Rattle.packets.specs.Packet.{same_key}
use Rattle.packets.specs.declared.packet.Key.{Key}
use Rattle.packets.specs.declared.packet.Packet.{Packet}
use Rattle.groups.specs.declared.grouping.Part.{Part}
use Rattle.groups.specs.declared.grouping.Stepped.{Stepped}

-- bit i stands for counter i
abbrev pub bit_of : ℕ → ℕ
bit_of counter = 2 ^ (counter % 16)

-- the bits of 0 to n - 1, and no other
abbrev pub all_come : ℕ → ℕ → Bool
all_come come n = come + 1 == 2 ^ n

abbrev pub open_with : Key → ℕ → ℕ → Stepped
open_with key come total = record { group = Some (record { key = key; come = come; total = total }); ended = None }

abbrev pub whole_with : ℕ → Stepped
whole_with total = record { group = None; ended = Some total }

-- whole where all have come
unfoldable pub goes_on : Key → ℕ → ℕ → Stepped
goes_on key come total = cond (all_come come key.n) (whole_with total) (open_with key come total)

-- a packet opens a group of its own
abbrev pub begun : Packet → Stepped
begun p = goes_on p.key (bit_of p.counter) p.observations

-- or is added. The sum wraps, so that no state traps, and what has come stays within its 16 bits, whatever the state
abbrev pub added : Part → Packet → Stepped
added part p = goes_on p.key (bit_or part.come (bit_of p.counter) % 65536) ((part.total + p.observations) % 65536)

-- "one with another key drops the open epoch and opens its own, as any does at an idle place"
unfoldable pub stepped : Option Part → Packet → Stepped
unfolding goes_on
stepped None p = begun p
stepped (Some part) p = cond (same_key part.key p.key) (added part p) (begun p)

-- "one whose counter has come already", with the open key
abbrev pub has_come : Option Part → Packet → Bool
has_come None p = false
has_come (Some part) p = same_key part.key p.key && flag_at part.come p.counter

-- 47
abbrev pub stepping : Option Part → Packet → Call Stepped
stepping group p = record { tests = (not (has_come group p), 47) ∷ []; value = stepped group p }

-- ---- what a step leaves and ends; a refusal leaves what was open and ends nothing

abbrev pub left_of : Option Part → Answer Stepped → Option Part
left_of group (refused n) = group
left_of group (given s) = s.group

abbrev pub ended_of : Answer Stepped → Option ℕ
ended_of (refused n) = None
ended_of (given s) = s.ended

-- what packets leave open, the latest first
unfoldable pub left_open : List Packet → Option Part
unfolding stepped
left_open [] = None
left_open (p ∷ past) = left_of (left_open past) (reply (stepping (left_open past) p))
