-- An index beside a capture (document 02, P5): a list of entries, one for each frame of open reading so far; the position that reading reached,
-- how many entries are held, and how many frames of each type that has a reading.
use Rattle.std.specs.Prelude.{ℕ, suc, ◌+◌, Bool, true, cond, ◌&&◌, List, [], ◌∷◌, ◌++◌, map, length, take, drop, replicate, ◌==◌, nat_le, slice_index, slice_set, Option, Some, None, Result}
use Rattle.refusals.specs.Refusals.{Answer, leaves, mapped, Call, reply}
use Rattle.frames.specs.Reading.{steps, frames_of, counts_of, sum_of}
use Rattle.frames.specs.Cursors.{plus}
use Rattle.payloads.specs.Payloads.{known_for}
use Rattle.payloads.specs.Places.{message_count, place_for}
use Rattle.frames.specs.declared.step.Frame.{Frame}
use Rattle.index.specs.declared.entry.Entry.{Entry}
use Rattle.index.specs.declared.index.Index.{Index}
use Rattle.index.specs.declared.asking.Found.{Found}
use Rattle.refusals.specs.declared.Refusal.{Refusal}
use Rattle.refusals.specs.Numbers.{answer_of}

-- ---- what it holds

abbrev pub entry_of : Frame → Entry
entry_of f = record { offset = f.at; kind = f.kind; sender = f.sender; length = f.length }

-- the frames of open reading from a position on, and where that reading stops: past all bytes that its steps count
abbrev pub frames_from : List ℕ → ℕ → List Frame
frames_from s p = frames_of (steps true s p)

abbrev pub stop_from : List ℕ → ℕ → ℕ
stop_from s p = p + sum_of (counts_of (steps true s p))

abbrev pub entries_from : List ℕ → ℕ → List Entry
entries_from s p = map entry_of (frames_from s p)

-- one frame more of a type, where the type has a reading; the sum wraps, so that no value of an index traps
unfoldable pub counted : List ℕ → ℕ → List ℕ
counted counts kind = let i = place_for kind in slice_set counts i (plus (slice_index counts i) 1)

unfoldable pub counted_all : List ℕ → List Frame → List ℕ
unfolding counted
counted_all counts [] = counts
counted_all counts (f ∷ fs) = counted_all (counted counts f.kind) fs

-- of no capture
abbrev pub empty : Index
empty = record { reached = 0; held = 0; counts = replicate message_count 0 }

-- ---- extending

-- the index once reading has gone on in the capture, from where it had come to
unfoldable pub extended : List ℕ → Index → Index
unfolding counted_all
extended s x =
    record {
      reached = stop_from s x.reached;
      held = x.held + length (frames_from s x.reached);
      counts = counted_all x.counts (frames_from s x.reached);
    }

-- the new entries stand after those held; all others are as they were
abbrev pub written : ℕ → List Entry → List Entry → List Entry
written at new list = take at list ++ new ++ drop (at + length new) list

-- 52 where the capture is shorter than the reached position, then 51 where the list is shorter than the frames it has to hold
abbrev pub extending : Index → List ℕ → ℕ → Call Index
extending x s most =
    record {
      tests = (nat_le x.reached (length s), 52) ∷ (nat_le (x.held + length (frames_from s x.reached)) most, 51) ∷ [];
      value = extended s x;
    }

unfoldable pub extend_in : Index → List ℕ → ℕ → Answer Index
unfolding extended
extend_in x s most = reply (extending x s most)

-- what a call leaves of the index, and in the list
abbrev pub index_after : Index → List ℕ → ℕ → Index
index_after x s most = leaves (λ new old. new) (extend_in x s most) x

abbrev pub entries_after : Index → List ℕ → List Entry → List Entry
entries_after x s list = leaves (λ new. written x.held (entries_from s x.reached)) (extend_in x s (length list)) list

-- ---- asking for a frame

-- of a type and sender, at or after an offset
abbrev pub hits : ℕ → ℕ → ℕ → Entry → Bool
hits kind sender offset e = e.kind == kind && (e.sender == sender && nat_le offset e.offset)

-- its place in the list and its entry, or that there is none
pub data Hit : Type 0 where
  at : ℕ → Entry → Hit
  nowhere : Hit

-- forward to the first hit, from the entry at place i on
unfoldable pub seek : (Entry → Bool) → ℕ → List Entry → Hit
seek hit i [] = nowhere
seek hit i (e ∷ es) = cond (hit e) (at i e) (seek hit (suc i) es)

-- 51, then among the entries held
abbrev pub asking : Index → List Entry → ℕ → ℕ → ℕ → Call Hit
asking x list kind sender offset = record { tests = (nat_le x.held (length list), 51) ∷ []; value = seek (hits kind sender offset) 0 (take x.held list) }

unfoldable pub first_in : Index → List Entry → ℕ → ℕ → ℕ → Answer Hit
unfolding seek
first_in x list kind sender offset = reply (asking x list kind sender offset)

abbrev pub hit_of : Option Found → Hit
hit_of None = nowhere
hit_of (Some f) = at f.place f.entry

abbrev pub sought_answer : Result (Option Found) Refusal → Answer Hit
sought_answer r = mapped hit_of (answer_of r)

-- ---- asking for a count: the kept total, or 21

abbrev pub counting : Index → ℕ → Call ℕ
counting x kind = record { tests = (known_for kind, 21) ∷ []; value = slice_index x.counts (place_for kind) }

unfoldable pub count_in : Index → ℕ → Answer ℕ
count_in x kind = reply (counting x kind)
