-- The collator step by step: a frame's own place takes its packet. What a packet is stands in `packets` and what a step does in `groups`; nothing
-- here looks inside either.
use Rattle.std.specs.Prelude.{ℕ, ◌&&◌, not, List, [], ◌∷◌, ◌++◌, leb, length, get_or, set, take, replicate, Option, Some, None, Result, Ok, Err}
use Rattle.refusals.specs.Refusals.{refused, given, Answer, Call, reply}
use Rattle.refusals.specs.Numbers.{number_of}
use Rattle.refusals.specs.declared.Refusal.{Refusal}
use Rattle.frames.specs.Frame.{Content}
use Rattle.packets.specs.Packet.{packet_in, shape, numbering}
use Rattle.packets.specs.declared.packet.Packet.{Packet}
use Rattle.groups.specs.declared.grouping.Stepped.{Stepped}
use Rattle.groups.specs.Group.{stepping}
use Rattle.epochs.specs.Search.{seat_of, names, repeats}
use Rattle.epochs.specs.declared.collating.Place.{Place}
use Rattle.epochs.specs.declared.collating.Collator.{Collator}
use Rattle.epochs.specs.declared.collating.Report.{Report}
use Rattle.epochs.specs.Happened.{Happened}
use Rattle.epochs.specs.Happened as H
use Rattle.epochs.specs.Fed.{Fed, Made}

-- ---- a frame, by the roster and the frame alone

abbrev pub seat_number : Option ℕ → ℕ
seat_number None = 0
seat_number (Some i) = i

-- what passes its tests is a packet for its sender's place
abbrev pub own_place : List ℕ → Content → ℕ × Packet
own_place roster x = (seat_number (seat_of roster x.sender 0), packet_in x.payload)

-- 46, 22, 43, 44, 45
abbrev pub placing : List ℕ → Content → Call (ℕ × Packet)
placing roster x =
    record { tests = shape x.kind x.payload ++ (names roster x.sender, 43) ∷ numbering (packet_in x.payload); value = own_place roster x }

unfoldable pub for_place : List ℕ → Content → Answer (ℕ × Packet)
for_place roster x = reply (placing roster x)

-- ---- the collator

abbrev pub idle : Place
idle = record { group = None }

-- an epoch of the sender that ends with this packet
abbrev pub report_of : ℕ → Packet → ℕ → Report
report_of sender p total = record { sender = sender; wn = p.key.wn; tow = p.key.tow; n = p.key.n; observations = total }

-- what a step comes to: nothing yet, or an epoch
abbrev pub outcome : ℕ → Packet → Option ℕ → Happened
outcome sender p None = H.Taken
outcome sender p (Some total) = H.Epoch (report_of sender p total)

-- what the code says of it
abbrev pub happened_of : Result (Option Report) Refusal → Happened
happened_of (Ok None) = H.Taken
happened_of (Ok (Some e)) = H.Epoch e
happened_of (Err e) = H.Refused (number_of e)

-- and a packet, by its place's answer
abbrev pub came_to : ℕ → Packet → Answer Stepped → Happened
came_to sender p (refused n) = H.Refused n
came_to sender p (given s) = outcome sender p s.ended

-- what feeding moves: the place at a seat, and what came of it
pub record Move : Type 0 where
  pub seat : ℕ
  pub place : Place
  pub happened : Happened

abbrev pub move_to : ℕ → ℕ → Packet → Stepped → Move
move_to sender i p s = record { seat = i; place = record { group = s.group }; happened = outcome sender p s.ended }

-- the senders that a collator lists
abbrev pub roster_of : Collator → List ℕ
roster_of c = take c.count c.roster

-- "Feeding: 46, 22, 43, 44, 45." (document 01), and then 47 by the packet's own place (document 02)
abbrev pub feeding : Collator → Content → Call Move
feeding c x =
    let own = own_place (roster_of c) x in
    let step = stepping (get_or c.places own.0 idle).group own.1 in
    record { tests = (placing (roster_of c) x).tests ++ step.tests; value = move_to x.sender own.0 own.1 step.value }

-- no other place moves, and a refusal leaves the state as it was
abbrev pub moved : Collator → Answer Move → Fed
moved c (refused n) = record { collator = c; happened = H.Refused n }
moved c (given m) =
    record { collator = record { places = set c.places m.seat m.place; roster = c.roster; count = c.count }; happened = m.happened }

unfoldable pub fed_frame : Collator → Content → Fed
fed_frame c x = moved c (reply (feeding c x))

-- ---- made from a roster

abbrev pub fresh : List ℕ → Collator
fresh roster = record { places = replicate 8 idle; roster = take 8 (roster ++ replicate 8 0); count = length roster }

-- "Roster: 41, 42.": not empty and not longer than 8, no sender twice
abbrev pub rostering : List ℕ → Call Collator
rostering roster = record { tests = (leb 1 (length roster) && leb (length roster) 8, 41) ∷ (not (repeats roster), 42) ∷ []; value = fresh roster }

-- a refusal's collator lists nobody
abbrev pub as_made : Answer Collator → Made
as_made (given c) = record { collator = c; number = 0 }
as_made (refused n) = record { collator = fresh []; number = n }

unfoldable pub made : List ℕ → Made
made roster = as_made (reply (rostering roster))
