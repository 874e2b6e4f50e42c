-- What `make` and `feed` answer and leave in the bytes that they are lent, step by step.
use Rattle.std.specs.Prelude.{ℕ, Bool, false, true, List, [], ◌∷◌, ◌++◌, length}
use Rattle.refusals.specs.Refusals.{Answer, leaves, as_number, zero_or, room_for, Call, reply}
use Rattle.wire.specs.Value.{u8, u16, u32}
use Rattle.layouts.specs.Field.{Field, any, Row, size}
use Rattle.frames.specs.Frame.{Content}
use Rattle.packets.specs.declared.packet.Packet.{Packet}
use Rattle.groups.specs.Group.{stepping}
use Rattle.groups.specs.declared.grouping.Stepped.{Stepped}
use Rattle.epochs.specs.Collator.{Move, feeding, fresh, rostering}
use Rattle.epochs.specs.declared.collating.Collator.{Collator}
use Rattle.epochs.specs.declared.collating.Report.{Report}
use Rattle.epochs.specs.Happened.{Happened}
use Rattle.epochs.specs.Happened as H
use Rattle.lent_rows.specs.Lent.{at_front}
use Rattle.places.specs.State.{state_size, place_in, place_stored, state_in, collator_stored}

-- ---- made

-- 41, 42, then 32
abbrev pub making : List ℕ → ℕ → Call Collator
making roster room = record { tests = (rostering roster).tests ++ room_for state_size room; value = fresh roster }

unfoldable pub made_in : List ℕ → ℕ → Answer Collator
made_in roster room = reply (making roster room)

abbrev pub made_answer : List ℕ → ℕ → ℕ
made_answer roster room = zero_or (made_in roster room)

abbrev pub made_stored : List ℕ → List ℕ → List ℕ
made_stored roster s = leaves collator_stored (made_in roster (length s)) s

-- ---- what happened, as a number and as the bytes of a report

-- sender, wn, tow, n, observations
abbrev pub report_fields : List Field
report_fields = any u16 ∷ any u16 ∷ any u32 ∷ any u8 ∷ any u16 ∷ []

-- 11 bytes
abbrev pub report_size : ℕ
report_size = size report_fields

abbrev pub report_row : Report → Row report_fields
report_row e = (e.sender, (e.wn, (e.tow, (e.n, (e.observations, tt)))))

-- 0 taken, 1 an epoch
abbrev pub happened_number : Happened → ℕ
happened_number (H.Refused n) = n
happened_number H.Taken = 0
happened_number (H.Epoch e) = 1

-- the same number of what `feed` gives: whether there is an epoch
abbrev pub epoch_number : Bool → ℕ
epoch_number false = 0
epoch_number true = 1

-- only an epoch is reported
abbrev pub happened_stored : Happened → List ℕ → List ℕ
happened_stored (H.Refused n) buf = buf
happened_stored H.Taken buf = buf
happened_stored (H.Epoch e) buf = at_front report_fields (report_row e) buf

-- ---- fed

-- 32 where the state or the report has no room, then what the collator refuses
abbrev pub feeding_in : List ℕ → ℕ → Content → Call Move
feeding_in state room x =
    let call = feeding (state_in state) x in
    record { tests = room_for state_size (length state) ++ room_for report_size room ++ call.tests; value = call.value }

unfoldable pub move_in : List ℕ → ℕ → Content → Answer Move
move_in state room x = reply (feeding_in state room x)

pub record FedIn : Type 0 where
  pub state : List ℕ
  pub report : List ℕ
  pub answer : ℕ

-- the place that moves is stored, and no other byte changes
abbrev pub came_out : List ℕ → List ℕ → Answer Move → FedIn
came_out state report a =
    record {
      state = leaves (λ m s. place_stored s m.seat m.place) a state;
      report = leaves (λ m. happened_stored m.happened) a report;
      answer = as_number (λ m. happened_number m.happened) a;
    }

unfoldable pub fed_in : List ℕ → Content → List ℕ → FedIn
fed_in state x report = came_out state report (move_in state (length report) x)

-- the answer of place i to a packet, and what it leaves of the place
abbrev pub step_in : List ℕ → ℕ → Packet → Answer Stepped
step_in state i p = reply (stepping (place_in state i).group p)

abbrev pub place_left : List ℕ → ℕ → Answer Stepped → List ℕ
place_left state i a = leaves (λ y s. place_stored s i (record { group = y.group })) a state
