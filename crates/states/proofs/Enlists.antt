-- A sender enlisted in the bytes of a collator: with room for a state, and that the bytes then stand for the collator with that sender enlisted.
use mathlib.Core.Path.{◌≡◌, refl, sym, ap, ◌∙◌}
use mathlib.Core.Bool.{Bool, true, false, cond}
use mathlib.Core.List.{List, []}
use Prim.Native.Nat.{ℕ, ◌+◌, ◌≤◌, ◌<◌}
use native.Mathlib.Omega.{arith}
use lib.Dec.{ltb}
use lib.ListN.{length, set}
use borrow.Author.Tests.{le-leb, ltb-true, ltb-false}
use Rattle.layouts.specs.Field.{Row, size, decode, row_stored}
use Rattle.layouts.proofs.Fields.{length-row}
use Rattle.wire.specs.Tabulated.{tabulated}
use Rattle.observation.specs.Edition.{is_obs}
use Rattle.epochs.specs.Collator.{made}
use Rattle.std.specs.Prelude.{Option, Some, None}
use Rattle.epochs.specs.declared.collating.Collator.{Collator}
use Rattle.epochs.proofs.Making.{nobody, made_seated}
use Rattle.enlisting.specs.Enlisting.{seated_in, enlisted_to}
use Rattle.enlisting.proofs.Seating.{seat_eight}
use Rattle.places.specs.State.{count_fields, seat_fields, slot, slot_fields, state_size, seat_at, slot_at, place_of, place_in, senders_in, seat_in, seats_in, state_in, collator_stored}
use Rattle.states.specs.Enlist.{growing_in, growing_answer, growing_stored, seat_taken, seated_by, new_seat_in, joined_in, enlisted_in, enlist_in, enlist_answer, enlist_stored}
use Rattle.lent_rows.proofs.Parts.{decode_stored, decode_before, decode_after}
use Rattle.wire.proofs.Tables.{tabulated_set, tabulated_same}
use Rattle.places.proofs.States.{state_stored, length-collator}
use Rattle.states.proofs.Makes.{fresh_held}

-- ---- with room

module _ (s : List ℕ) where
  module _ {c : Collator} (e : c ≡ (made []).collator) where
    pub grows_few : c.count ≤ 8
    grows_few = omega (arith, ap (λ (c : Collator). c.count) e, ap (λ (c : Collator). c.count) (made_seated [] nobody))

    pub grows_put : {t : List ℕ} → state_size ≤ length s → t ≡ collator_stored c s → (0 ≡ growing_answer (length s)) × (t ≡ growing_stored s)
    unfolding growing_in
    grows_put h q = rw (le-leb state_size (length s) h) (refl, q ∙ ap (λ (c : Collator). collator_stored c s) e)

module _ (s : List ℕ) (kind sender : ℕ) where
  pub enlist_put : {t : List ℕ} → state_size ≤ length s → t ≡ enlisted_in s kind sender → (0 ≡ enlist_answer s kind sender) × (t ≡ enlist_stored s kind sender)
  unfolding enlist_in
  enlist_put h q = rw (le-leb state_size (length s) h) (refl, q)

-- ---- what the bytes stand for then

-- nobody is listed
pub grown_state : (s : List ℕ) → state_size ≤ length s → state_in (growing_stored s) ≡ (made []).collator
grown_state s long =
    let none = made_seated [] nobody in
    ap state_in (sym (grows_put s {c = (made []).collator} refl long refl).1 ∙ ap (λ (c : Collator). collator_stored c s) none)
    ∙ state_stored _ (fresh_held [] (omega arith) (λ i. omega arith)) s long
    ∙ sym none

pub length-grown : (s : List ℕ) → state_size ≤ length s → length (growing_stored s) ≡ length s
length-grown s long = ap length (sym (grows_put s {c = (made []).collator} refl long refl).1) ∙ length-collator (made []).collator s

module _ (s : List ℕ) (long : state_size ≤ length s) (i sender : ℕ) where
  -- the bytes with the sender in its seat, before it is counted
  abbrev seated : List ℕ
  seated = row_stored seat_fields (sender, tt) s (seat_at i)

  length-seated : length seated ≡ length s
  length-seated = length-row seat_fields (sender, tt) s (seat_at i)

  length_taken : length (seat_taken s i sender) ≡ length s
  unfolding seat_taken
  length_taken = length-row count_fields (i + 1, tt) seated 0 ∙ length-seated

  module _ (few : i < 8) where
    room : seat_at i + size seat_fields ≤ length s
    room = omega arith

    counted_room : 0 + size count_fields ≤ length seated
    counted_room = omega (arith, length-seated)

    count_taken : senders_in (seat_taken s i sender) ≡ i + 1
    unfolding seat_taken
    count_taken = ap (λ (v : Row count_fields). v.0) (decode_stored count_fields (i + 1, tt) seated 0 counted_room (record { fits = omega arith }, tt) (refl, tt))

    seat_own : sender < 65536 → seat_in (seat_taken s i sender) i ≡ sender
    unfolding seat_taken
    seat_own h =
        ap (λ (v : Row seat_fields). v.0)
        (decode_after count_fields (i + 1, tt) seated 0 counted_room seat_fields (seat_at i) (omega arith)
        ∙ decode_stored seat_fields (sender, tt) s (seat_at i) room (record { fits = h }, tt) (refl, tt))

    seat_other : (j : ℕ) → (j ≡ i → ⊥) → seat_in (seat_taken s i sender) j ≡ seat_in s j
    unfolding seat_taken
    seat_other j other =
        ap (λ (v : Row seat_fields). v.0) (decode_after count_fields (i + 1, tt) seated 0 counted_room seat_fields (seat_at j) (omega arith) ∙ by (ltb j i) refl)
      where
        by : (t : Bool) → ltb j i ≡ t → decode seat_fields seated (seat_at j) ≡ decode seat_fields s (seat_at j)
        by true e =
            let below : j < i = ltb-true j i e in
            decode_before seat_fields (sender, tt) s (seat_at i) room seat_fields (seat_at j) (omega arith)
        by false e =
            let above : i ≤ j = ltb-false j i e in
            let apart : i < j = omega arith in
            decode_after seat_fields (sender, tt) s (seat_at i) room seat_fields (seat_at j) (omega arith)

    place_same : (j : ℕ) → place_in (seat_taken s i sender) j ≡ place_in s j
    unfolding seat_taken
    place_same j =
        ap (λ (v : Row slot_fields). place_of (slot.make v))
        (decode_after count_fields (i + 1, tt) seated 0 counted_room slot_fields (slot_at j) (omega arith)
        ∙ decode_after seat_fields (sender, tt) s (seat_at i) room slot_fields (slot_at j) (omega arith))

    state_taken : sender < 65536 → state_in (seat_taken s i sender) ≡ seated_in (Some i) (state_in s) sender
    state_taken h =
        let t = seat_taken s i sender in
        let places : tabulated (place_in t) 8 ≡ tabulated (place_in s) 8 = tabulated_same (place_in t) (place_in s) 8 (λ j b. place_same j) in
        let seats : tabulated (seat_in t) 8 ≡ set (tabulated (seat_in s) 8) i sender
        = tabulated_set (seat_in s) (seat_in t) 8 i few (λ j b. seat_other j) ∙ ap (set (tabulated (seat_in s) 8) i) (seat_own h) in
        λ k. record { places = places k; roster = seats k; count = count_taken k }

module _ (s : List ℕ) (long : state_size ≤ length s) (sender : ℕ) where
  joined_state : sender < 65536 → (x : Option ℕ) → new_seat_in s sender ≡ x → state_in (seated_by x s sender) ≡ seated_in x (state_in s) sender
  joined_state h None e = refl
  joined_state h (Some i) e = state_taken s long i sender (seat_eight (seats_in s) (senders_in s) sender e) h

  length-joined : (x : Option ℕ) → length (seated_by x s sender) ≡ length s
  length-joined None = refl
  length-joined (Some i) = length_taken s long i sender

module _ (s : List ℕ) (long : state_size ≤ length s) (kind sender : ℕ) where
  stored_enlisted : enlisted_in s kind sender ≡ enlist_stored s kind sender
  stored_enlisted = (enlist_put s kind sender long refl).1

  -- the collator with that sender enlisted
  pub enlisted_state : sender < 65536 → state_in (enlist_stored s kind sender) ≡ enlisted_to (state_in s) kind sender
  unfolding enlisted_in enlisted_to
  enlisted_state h = ap state_in (sym stored_enlisted) ∙ by (is_obs kind)
    where
      seat : Option ℕ
      seat = new_seat_in s sender

      by : (t : Bool) → state_in (cond t (seated_by seat s sender) s) ≡ cond t (seated_in seat (state_in s) sender) (state_in s)
      by true = joined_state s long sender h seat refl
      by false = refl

  pub length-enlisted : length (enlist_stored s kind sender) ≡ length s
  unfolding enlisted_in
  length-enlisted = ap length (sym stored_enlisted) ∙ by (is_obs kind)
    where
      by : (t : Bool) → length (cond t (joined_in s sender) s) ≡ length s
      by true = length-joined s long sender (new_seat_in s sender)
      by false = refl
