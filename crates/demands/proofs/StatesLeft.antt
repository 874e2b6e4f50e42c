-- What the calls of a collator leave of the bytes after its own.
use mathlib.Core.Path.{◌≡◌, refl, ap, ◌∙◌}
use mathlib.Core.Bool.{Bool, true, false, cond}
use mathlib.Core.List.{List, [], ◌∷◌}
use Prim.Native.Nat.{ℕ, zero, suc, ◌+◌, ◌*◌, ◌≤◌, ◌<◌}
use native.Mathlib.Omega.{arith}
use lib.Dec.{leb}
use lib.ListN.{length, drop, set}
use lib.Seq.{sets, drop-set-lt}
use Rattle.wire.specs.Number.{bytes_of, stored_at}
use Rattle.wire.specs.Value.{width, bits_of}
use Rattle.wire.proofs.Numbers.{length-bytes_of}
use Rattle.refusals.specs.Refusals.{given, refused, Answer, leaves}
use Rattle.refusals.proofs.Ordered.{exactly_all}
use Rattle.layouts.specs.Field.{Field, Row, format_of, size, row_stored}
use Rattle.lent_rows.specs.Lent.{first_rows_stored}
use Rattle.frames.specs.Frame.{Content}
use Rattle.observation.specs.Edition.{is_obs}
use Rattle.epochs.specs.Collator.{Move, feeding}
use Rattle.std.specs.Prelude.{Option, Some, None}
use Rattle.epochs.specs.declared.collating.Collator.{Collator}
use Rattle.epochs.proofs.Feeding.{replied_moves}
use Rattle.enlisting.proofs.Seating.{seat_eight}
use Rattle.places.specs.State.{state_size, seat_at, slot_at, slot, slot_fields, seat_fields, count_fields, slot_of, seat_row, place_row, senders_in, seats_in, count_stored, collator_stored, seats_stored, state_in}
use Rattle.states.specs.Feed.{made_in, feeding_in, move_in, came_out, fed_in}
use Rattle.states.specs.Enlist.{growing_in, seat_taken, seated_by, new_seat_in, joined_in, enlisted_in, enlist_in, enlist_stored}
use Rattle.states.proofs.Feeds.{eight}
use Rattle.demands.specs.Exported.{OtherBytes}

-- ---- a store leaves what stands after it

after_sets : (m : ℕ) (vs s : List ℕ) (at : ℕ) → at + length vs ≤ m → drop m (sets s at vs) ≡ drop m s
after_sets m [] s at h = refl
after_sets m (v ∷ vs) s at h = after_sets m vs (set s at v) (suc at) (omega (arith, h)) ∙ drop-set-lt m s at v (omega (arith, h))

after_number : (m w n : ℕ) (s : List ℕ) (at : ℕ) → at + w ≤ m → drop m (stored_at w n s at) ≡ drop m s
unfolding stored_at
after_number m w n s at h = by (leb (at + w) (length s))
  where
    by : (t : Bool) → drop m (cond t (sets s at (bytes_of w n)) s) ≡ drop m s
    by true = after_sets m (bytes_of w n) s at (omega (arith, h, length-bytes_of w n))
    by false = refl

pub after_row : (m : ℕ) (fs : List Field) (v : Row fs) (s : List ℕ) (at : ℕ) → at + size fs ≤ m → drop m (row_stored fs v s at) ≡ drop m s
after_row m [] v s at h = refl
after_row m (f ∷ fs) v s at h =
    let w = width (format_of f) in
    after_row m fs v.1 (stored_at w (bits_of (format_of f) v.0) s at) (at + w) (omega (arith, h)) ∙ after_number m w (bits_of (format_of f) v.0) s at (omega (arith, h))

pub after_rows : (m : ℕ) (fs : List Field) (row : ℕ → Row fs) (k : ℕ) (s : List ℕ) (at : ℕ) → at + k * size fs ≤ m → drop m (first_rows_stored fs row k s at) ≡ drop m s
unfolding first_rows_stored
after_rows m fs row zero s at h = refl
after_rows m fs row (suc k) s at h =
    after_row m fs (row k) (first_rows_stored fs row k s at) (at + k * size fs) (omega (arith, h)) ∙ after_rows m fs row k s at (omega (arith, h))

-- ---- a collator's own bytes

after_count : (n : ℕ) (s : List ℕ) → drop state_size (count_stored n s) ≡ drop state_size s
after_count n s = after_row state_size count_fields (n, tt) s 0 (omega arith)

after_collator : (c : Collator) (s : List ℕ) → drop state_size (collator_stored c s) ≡ drop state_size s
after_collator c s =
    after_rows state_size slot_fields (place_row c.places) 8 (seats_stored c.roster (count_stored c.count s)) 17 (omega arith)
    ∙ after_rows state_size seat_fields (seat_row c.roster) 8 (count_stored c.count s) 1 (omega arith)
    ∙ after_count c.count s

after_stored : (a : Answer Collator) (s : List ℕ) → drop state_size (leaves collator_stored a s) ≡ drop state_size s
after_stored (given c) s = after_collator c s
after_stored (refused n) s = refl

-- a seat that is taken is one of eight
module _ (s : List ℕ) (sender : ℕ) where
  after_seat : (seat : Option ℕ) → new_seat_in s sender ≡ seat → drop state_size (seated_by seat s sender) ≡ drop state_size s
  unfolding seat_taken
  after_seat None e = refl
  after_seat (Some i) e =
      after_count (i + 1) (row_stored seat_fields (sender, tt) s (seat_at i))
      ∙ after_row state_size seat_fields (sender, tt) s (seat_at i) (omega (arith, seat_eight (seats_in s) (senders_in s) sender e))

  after_enlisted : (kind : ℕ) → drop state_size (enlisted_in s kind sender) ≡ drop state_size s
  unfolding enlisted_in
  after_enlisted kind = by (is_obs kind)
    where
      by : (t : Bool) → drop state_size (cond t (joined_in s sender) s) ≡ drop state_size s
      by true = after_seat (new_seat_in s sender) refl
      by false = refl

module _ (s : List ℕ) (x : Content) (report : List ℕ) where
  -- a place that moves is one of eight
  seat_below : {m : Move} → move_in s (length report) x ≡ given m → m.seat < 8
  unfolding move_in
  seat_below {m} e =
      let call = feeding (state_in s) x in
      let all = (exactly_all call.value (feeding_in s (length report) x).tests m).0 e in
      let w = replied_moves (state_in s) x ((exactly_all call.value call.tests m).1 (all.0.1.1, all.1)) in
      omega (arith, eight s x w.2, ap (λ (m : Move). m.seat) w.3)

  after_fed : drop state_size (fed_in s x report).state ≡ drop state_size s
  unfolding fed_in
  after_fed = by (move_in s (length report) x) refl
    where
      by : (a : Answer Move) → move_in s (length report) x ≡ a → drop state_size (came_out s report a).state ≡ drop state_size s
      by (refused n) e = refl
      by (given m) e = after_row state_size slot_fields (slot.row (slot_of m.place)) s (slot_at m.seat) (omega (arith, seat_below e))

after_answer : (s : List ℕ) (kind sender : ℕ) → drop state_size (enlist_stored s kind sender) ≡ drop state_size s
unfolding enlist_in
after_answer s kind sender = by (leb state_size (length s))
  where
    by : (t : Bool) → drop state_size (leaves (λ (t was : List ℕ). t) (cond t (given (enlisted_in s kind sender)) (refused 32)) s) ≡ drop state_size s
    by true = after_enlisted s sender kind
    by false = refl

pub other_bytes : OtherBytes
other_bytes = record {
  collator = λ roster s. after_stored (made_in roster (length s)) s;
  growing_collator = λ s. after_stored (growing_in (length s)) s;
  enlist = after_answer;
  feed = after_fed;
}
