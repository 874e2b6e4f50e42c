-- What `grow` and `enlist` answer and leave in the bytes of a collator, whose roster takes senders as they come.
use Rattle.std.specs.Prelude.{ℕ, ◌+◌, cond, List, [], length, Option, Some, None}
use Rattle.refusals.specs.Refusals.{Answer, leaves, zero_or, room_for, Call, reply}
use Rattle.layouts.specs.Field.{row_stored}
use Rattle.observation.specs.Edition.{is_obs}
use Rattle.epochs.specs.Collator.{made}
use Rattle.epochs.specs.declared.collating.Collator.{Collator}
use Rattle.enlisting.specs.Enlisting.{new_seat}
use Rattle.places.specs.State.{state_size, seat_fields, seat_at, senders_in, seats_in, count_stored, collator_stored}

-- ---- a collator that lists nobody: 32

abbrev pub growing : ℕ → Call Collator
growing room = record { tests = room_for state_size room; value = (made []).collator }

unfoldable pub growing_in : ℕ → Answer Collator
growing_in room = reply (growing room)

abbrev pub growing_answer : ℕ → ℕ
growing_answer room = zero_or (growing_in room)

abbrev pub growing_stored : List ℕ → List ℕ
growing_stored s = leaves collator_stored (growing_in (length s)) s

-- ---- a sender is enlisted

-- a sender in a seat, which is then the last
unfoldable pub seat_taken : List ℕ → ℕ → ℕ → List ℕ
seat_taken s i sender = count_stored (i + 1) (row_stored seat_fields (sender, tt) s (seat_at i))

abbrev pub seated_by : Option ℕ → List ℕ → ℕ → List ℕ
seated_by None s sender = s
seated_by (Some i) s sender = seat_taken s i sender

-- the seat that a sender takes, by the collator's own rule
abbrev pub new_seat_in : List ℕ → ℕ → Option ℕ
new_seat_in s sender = new_seat (seats_in s) (senders_in s) sender

abbrev pub joined_in : List ℕ → ℕ → List ℕ
joined_in s sender = seated_by (new_seat_in s sender) s sender

-- the sender of a frame of type OBS
unfoldable pub enlisted_in : List ℕ → ℕ → ℕ → List ℕ
unfolding is_obs
enlisted_in s kind sender = cond (is_obs kind) (joined_in s sender) s

-- 32
abbrev pub enlisting : List ℕ → ℕ → ℕ → Call (List ℕ)
enlisting s kind sender = record { tests = room_for state_size (length s); value = enlisted_in s kind sender }

unfoldable pub enlist_in : List ℕ → ℕ → ℕ → Answer (List ℕ)
enlist_in s kind sender = reply (enlisting s kind sender)

abbrev pub enlist_answer : List ℕ → ℕ → ℕ → ℕ
enlist_answer s kind sender = zero_or (enlist_in s kind sender)

abbrev pub enlist_stored : List ℕ → ℕ → ℕ → List ℕ
enlist_stored s kind sender = leaves (λ t was. t) (enlist_in s kind sender) s
