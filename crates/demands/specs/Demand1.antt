-- Demand 1: "Take in arbitrary input and always come to an end. No entry point trusts its caller: a roster, payload, index or buffer that
-- doesn't fit is refused by number, and a refusal writes nothing and moves no state." Each public function's proved contract says that it ends
-- on all inputs, and none has a `requires` (crate `determined`); that calls of `next` stop is in demand 2 (`Handed-out`). What a function hands back
-- and leaves is read off a call, by its own contract (crates `typed_calls`, `capture_calls`, `linked_calls`). Here is what calls answer and leave.
use Rattle.std.specs.Prelude.{◌≡◌, List, [], ◌↔◌, ◌⊎◌, ℕ, ◌+◌, ◌≤◌, ◌<◌, length}
use Rattle.wire.specs.Number.{bytes_stored}
use Rattle.refusals.specs.Refusals.{refused, given, Call, reply, leaves, as_number, FirstFails, AllPass}
use Rattle.frames.specs.Frame.{Content}
use Rattle.observation.specs.Obs.{read_entry_of}
use Rattle.obs_reader.specs.Reader.{asked}
use Rattle.obs_reader.specs.declared.ObsReader.{ObsReader}
use Rattle.epochs.specs.Collator.{fed_frame, fresh, made}
use Rattle.epochs.specs.Epoch.{after}
use Rattle.captures.specs.Capture.{begun, collated}
use Rattle.epochs.specs.declared.collating.Collator.{Collator}
use Rattle.epochs.specs.Happened as H
use Rattle.demands.specs.Order.{Order, LinkedOrder, IndexOrder}
use Rattle.demands.specs.ReadOff.{ReadOff}

-- "a roster, payload, index or buffer that doesn't fit is refused by number"
pub record RefusedByNumber : Type 2 where
  -- a call is refused exactly when one of its own cases holds, by the first; else it gives what was asked for
  pub in_order : (A : Type 0) (c : Call A)
      → ((n : ℕ) → (reply c ≡ refused n) ↔ FirstFails c.tests n)
      × ((y : A) → (reply c ≡ given y) ↔ (AllPass c.tests × (c.value ≡ y)))
  -- C and Rust tell a refusal by its number: what is given has one below 11 (Replies.antt: 0 to 3), and no refusal has (`order`)
  pub told_apart : (A : Type 0) (number : A → ℕ) (c : Call A) → ((x : A) → number x < 11) → (n : ℕ) → 11 ≤ n
      → (as_number number (reply c) ≡ n) ↔ FirstFails c.tests n
  -- each call's cases, number by number
  pub order : Order
  pub linked_order : LinkedOrder
  pub index_order : IndexOrder

-- "and a refusal writes nothing"
pub record WritesNothing : Type 1 where
  -- whatever is lent to a call, and whatever it would have left of it
  pub left_alone : (A B : Type 0) (put : A → B → B) (c : Call A) (lent : B) (n : ℕ) → FirstFails c.tests n → leaves put (reply c) lent ≡ lent
  -- bytes to store, a line of text among them, have no number to be refused by: where they have no room, nothing is written
  pub unfit_bytes : (bs buf : List ℕ) (at : ℕ) → length buf < at + length bs → bytes_stored bs buf at ≡ buf

-- "and moves no state"
pub record MovesNoState : Type 0 where
  pub refused_frame : (c : Collator) (x : Content) (n : ℕ) → (fed_frame c x).happened ≡ H.Refused n → (fed_frame c x).collator ≡ c
  -- an observation reader stays, with the payload that it was lent
  pub refused_reader : (r : ObsReader) (n : ℕ) → read_entry_of r.kind r.payload.now r.at ≡ refused n → asked r ≡ r
  -- a refused roster makes a collator that refuses every frame and never moves; a whole capture is not fed to it
  pub refused_roster : (roster : List ℕ) → ((made roster).number ≡ 0 → ⊥) → (xs : List Content) (x : Content)
      → (n : ℕ) × ((n ≡ 46) ⊎ (n ≡ 22) ⊎ (n ≡ 43)) × (fed_frame (after (made roster).collator xs) x ≡ record { collator = fresh []; happened = H.Refused n })
  pub refused_capture : (s roster : List ℕ) → ((made roster).number ≡ 0 → ⊥) → begun (made roster) ≡ collated s roster

pub record Demand1 : Type 2 where
  pub refused_by_number : RefusedByNumber
  pub writes_nothing : WritesNothing
  pub read_off : ReadOff
  pub moves_no_state : MovesNoState
