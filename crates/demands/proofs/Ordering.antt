-- The tests of each call are document 01's cases, in its order.
use Prim.Native.Nat.{ℕ, zero, suc, ◌+◌, ◌-◌, ◌*◌, ◌/◌, ◌%◌, ◌^◌, ◌≤◌, ◌<◌}
use mathlib.Core.Path.{◌≡◌, refl, sym, ap, ◌∙◌}
use mathlib.Core.Bool.{Bool, true, false, true≢false, false≢true, ◌&&◌, not, cond, and-eq-true_iff}
use mathlib.Core.List.{List, [], ◌∷◌, ◌++◌}
use mathlib.Core.Logic.{◌↔◌, ◌⊎◌, inl, inr}
use native.Mathlib.Omega.{arith}
use lib.Dec.{leb, ltb, eqb}
use lib.ListN.{length, get_or}
use borrow.Author.Tests.{leb-false, ltb-false, eqb-true, eqb-false, lt-leb, le-ltb, eq-eqb, ne_eqb}
use Rattle.refusals.specs.Refusals.{Tests, room_for}
use Rattle.layouts.specs.Layout.{Layout, LengthOf, lengths}
use Rattle.layouts.proofs.Layouts.{lengths_true, lengths_false}
use Rattle.frames.specs.Frame.{Content}
use Rattle.observation.specs.Edition.{obs, fitting, first, is_obs}
use Rattle.payloads.specs.Checks.{document}
use Rattle.payloads.specs.Inner.{check_in, tests_found}
use Rattle.payloads.specs.declared.check.Check.{Check}
use Rattle.payloads.specs.declared.check.Check.TheVariants as C
use Rattle.payloads.proofs.Agreed.{agreed, tests_agree}
use Rattle.wire.specs.Number.{flag_at}
use Rattle.packets.specs.Packet.{same_key, packet_in, shape, numbering}
use Rattle.packets.specs.declared.packet.Key.{Key}
use Rattle.packets.specs.declared.packet.Packet.{Packet}
use Rattle.packets.proofs.Keys.{equal_key, same_key_lem}
use Rattle.groups.specs.Group.{has_come}
use Rattle.groups.specs.declared.grouping.Part.{Part}
use Rattle.std.specs.Prelude.{Option, Some, None}
use Rattle.epochs.specs.Search.{seat_of, names, repeats}
use Rattle.obs_writer.specs.ObsWriter.{writing_obs}
use Rattle.observation.specs.Obs.{one_observation}
use Rattle.payloads.specs.Payloads.{table, known_for}
use Rattle.indexed.specs.Growing.{counted_kinds}
use Rattle.indexed.specs.Asking.{Among}
use Rattle.indexed.proofs.Tallies.{among_known, known_among}
use Rattle.places.specs.State.{state_size, state_in}
use Rattle.epochs.specs.Collator.{seat_number, placing, idle, feeding, rostering, roster_of}
use Rattle.epochs.specs.declared.collating.Place.{Place}
use Rattle.epochs.specs.declared.collating.Collator.{Collator}
use Rattle.epochs.proofs.Searches.{names_at, seat_listed, seat_named, seat_below}
use Rattle.demands.specs.Order.{Cases, InOrder, Not, ObsLength, NamesTwice, Unlisted, index_cases, frame_cases, HasCome, feed_cases, roster_cases, buffer_cases, room_cases, column_of, column_tests, Order, LinkedOrder, IndexOrder}

-- ---- a test fails exactly in its case

over : (a b : ℕ) → (leb a b ≡ false) ↔ (b < a)
over a b = (leb-false a b, lt-leb a b)

from : (a b : ℕ) → (ltb a b ≡ false) ↔ (b ≤ a)
from a b = (ltb-false a b, le-ltb a b)

other : (a b : ℕ) → (eqb a b ≡ false) ↔ Not (a ≡ b)
other a b = (eqb-false a b, ne_eqb a b)

itself : (t : Bool) → (t ≡ false) ↔ (t ≡ false)
itself t = (λ p. p, λ p. p)

fails_not : (t : Bool) → (not t ≡ false) ↔ (t ≡ true)
fails_not true = (λ p. refl, λ p. refl)
fails_not false = (λ p. absurd (true≢false p), λ p. absurd (false≢true p))

equal : (a b : ℕ) → (not (eqb a b) ≡ false) ↔ (a ≡ b)
equal a b = (λ p. eqb-true a b ((fails_not (eqb a b)).0 p), λ p. (fails_not (eqb a b)).1 (eq-eqb a b p))

-- a bit that is set
bit_set : (n k : ℕ) → flag_at n k ≡ true → n / 2 ^ k % 2 ≡ 1
unfolding flag_at
bit_set n k e = eqb-true _ _ e

set_bit : (n k : ℕ) → n / 2 ^ k % 2 ≡ 1 → flag_at n k ≡ true
unfolding flag_at
set_bit n k e = eq-eqb _ _ e

-- of two tests at once
both_fail : {P Q : Type 0} (a b : Bool) → (a ≡ true → P) → (P → a ≡ true) → (b ≡ true → Q) → (Q → b ≡ true) → ((a && b) ≡ false) ↔ Not (P × Q)
both_fail true true p p' q q' = (λ e. absurd (true≢false e), λ n. absurd (n (p refl, q refl)))
both_fail true false p p' q q' = (λ e x. false≢true (q' x.1), λ n. refl)
both_fail false b p p' q q' = (λ e x. false≢true (p' x.0), λ n. refl)

-- ---- lengths

long : (l : Layout) (n : ℕ) → (lengths l n ≡ false) ↔ Not (LengthOf l n)
long l n = (λ e h. true≢false (sym (lengths_true l n h) ∙ e), lengths_false l n)

obs_long : (n : ℕ) → (fitting first n ≡ false) ↔ Not (ObsLength n)
obs_long n = (
  λ e h. true≢false (sym (lengths_true (obs first).layout n (omega (arith, h.1, h.2))) ∙ e),
  λ none. lengths_false (obs first).layout n (λ h. none ((n - 7) / 16, omega (arith, h), omega (arith, h))),
)

obs_kind : (kind : ℕ) → (is_obs kind ≡ false) ↔ Not (kind ≡ 0x0049)
unfolding is_obs
obs_kind kind = other kind 0x0049

-- ---- rosters

unlisted : (roster : List ℕ) (sender : ℕ) → (names roster sender ≡ false) ↔ Unlisted roster sender
unlisted roster sender = (
  λ e i h q. true≢false (sym (ap (names roster) (sym q) ∙ names_at' i h) ∙ e),
  λ none. by (names roster sender) refl none,
)
  where
    names_at' : (i : ℕ) → i < length roster → names roster (get_or roster i 0) ≡ true
    names_at' i h = names_at roster i h

    by : (t : Bool) → names roster sender ≡ t → Unlisted roster sender → t ≡ false
    by false e none = refl
    by true e none =
        let seat = seat_listed roster sender e in
        absurd (none seat.0 (omega (arith, (seat_below roster sender 0 seat.1).1)) (seat_named roster sender seat.1))

twice : (roster : List ℕ) → (repeats roster ≡ true) ↔ NamesTwice roster
unfolding repeats
twice [] = (λ e. absurd (false≢true e), λ t. absurd (omega (arith, t.3)))
twice (x ∷ xs) = let rest = twice xs in (by rest (names xs x) refl, back rest)
  where
    on : {t : Bool} → names xs x ≡ t → repeats (x ∷ xs) ≡ cond t true (repeats xs)
    on e = ap (λ (t : Bool). cond t true (repeats xs)) e

    by : (repeats xs ≡ true) ↔ NamesTwice xs → (t : Bool) → names xs x ≡ t → repeats (x ∷ xs) ≡ true → NamesTwice (x ∷ xs)
    by rest true e r =
        let seat = seat_listed xs x e in
        (0, suc seat.0, omega arith, omega (arith, (seat_below xs x 0 seat.1).1), sym (seat_named xs x seat.1))
    by rest false e r =
        let t = rest.0 (sym (on e) ∙ r) in
        (suc t.0, suc t.1, omega (arith, t.2), omega (arith, t.3), t.4)

    listed : (t : Bool) → repeats xs ≡ true → cond t true (repeats xs) ≡ true
    listed true r = refl
    listed false r = r

    at : (repeats xs ≡ true) ↔ NamesTwice xs → (i j : ℕ) → i < j → j < suc (length xs) → get_or (x ∷ xs) i 0 ≡ get_or (x ∷ xs) j 0 → repeats (x ∷ xs) ≡ true
    at rest i zero h k e = absurd (omega (arith, h))
    at rest zero (suc j) h k e = on (ap (names xs) e ∙ names_at xs j (omega (arith, k)))
    at rest (suc i) (suc j) h k e = on refl ∙ listed (names xs x) (rest.1 (i, j, omega (arith, h), omega (arith, k), e))

    back : (repeats xs ≡ true) ↔ NamesTwice xs → NamesTwice (x ∷ xs) → repeats (x ∷ xs) ≡ true
    back rest t = at rest t.0 t.1 t.2 t.3 t.4

-- not empty and not longer than 8
few : (n : ℕ) → ((leb 1 n && leb n 8) ≡ false) ↔ ((n ≡ 0) ⊎ (8 < n))
few n = (by (leb 1 n) (leb n 8) refl refl, back)
  where
    by : (a b : Bool) → leb 1 n ≡ a → leb n 8 ≡ b → (a && b) ≡ false → (n ≡ 0) ⊎ (8 < n)
    by true true p q e = absurd (true≢false e)
    by true false p q e = inr (leb-false n 8 q)
    by false b p q e = inl (omega (arith, leb-false 1 n p))

    second : (a : Bool) → (a && false) ≡ false
    second true = refl
    second false = refl

    back : (n ≡ 0) ⊎ (8 < n) → (leb 1 n && leb n 8) ≡ false
    back (inl z) = rw z
    back (inr h) = ap (λ (b : Bool). leb 1 n && b) (lt-leb n 8 h) ∙ second (leb 1 n)

roster_order : (roster : List ℕ) → InOrder (roster_cases roster) ((leb 1 (length roster) && leb (length roster) 8, 41) ∷ (not (repeats roster), 42) ∷ [])
roster_order roster =
    let named-twice = twice roster in
    (refl, few (length roster), (refl, (λ e. named-twice.0 ((fails_not (repeats roster)).0 e), λ t. (fails_not (repeats roster)).1 (named-twice.1 t)), tt))

-- cases and then more of them
joined : (cs ds : Cases) (ts us : Tests) → InOrder cs ts → InOrder ds us → InOrder (cs ++ ds) (ts ++ us)
joined [] ds [] us p q = q
joined [] ds (t ∷ ts) us p q = absurd p
joined (c ∷ cs) ds [] us p q = absurd p
joined (c ∷ cs) ds (t ∷ ts) us p q = (p.0, p.1, joined cs ds ts us p.2 q)

frame_order : (roster : List ℕ) (x : Content) → InOrder (frame_cases roster x) (placing roster x).tests
unfolding shape numbering packet_in
frame_order roster x =
    let p = packet_in x.payload in (
      refl,
      obs_kind x.kind,
      (
        refl,
        obs_long (length x.payload),
        (refl, unlisted roster x.sender, (refl, equal p.key.n 0, (refl, from p.counter p.key.n, tt))),
      ),
    )

-- 47 is for the place that is open with the frame's key, and has its counter's bit
come_order : (c : Collator) (x : Content)
    → (not (has_come (get_or c.places (seat_number (seat_of (roster_of c) x.sender 0)) idle).group (packet_in x.payload)) ≡ false) ↔ HasCome c x
unfolding packet_in
come_order c x = by there.group refl
  where
    there : Place
    there = get_or c.places (seat_number (seat_of (roster_of c) x.sender 0)) idle

    p : Packet
    p = packet_in x.payload

    by : (g : Option Part) → there.group ≡ g → (not (has_come g p) ≡ false) ↔ HasCome c x
    by None e = (λ f. absurd (true≢false f), λ w. let z : ◌≡◌ {A = ℕ} 0 1 = cc in absurd (omega arith))
    by (Some part) e = (
      λ f.
          let tests = (and-eq-true_iff (same_key part.key p.key) (flag_at part.come p.counter)).0 ((fails_not _).0 f) in
          let key = equal_key part.key p.key tests.0 in
          record {
            part = part;
            open_there = e;
            tow = ap (λ (k : Key). k.tow) key;
            wn = ap (λ (k : Key). k.wn) key;
            n = ap (λ (k : Key). k.n) key;
            bit = bit_set part.come p.counter tests.1;
          },
      λ w.
          let same : w.part ≡ part = cc in
          let key : w.part.key ≡ p.key = λ i. record { tow = w.tow i; wn = w.wn i; n = w.n i } in
          (fails_not _).1
          (ap (λ (part : Part). same_key part.key p.key && flag_at part.come p.counter) (sym same)
          ∙ (and-eq-true_iff (same_key w.part.key p.key) (flag_at w.part.come p.counter)).1 (same_key_lem w.part.key p.key key, set_bit w.part.come p.counter w.bit)),
    )

fed_order : (c : Collator) (x : Content) → InOrder (feed_cases c x) (feeding c x).tests
fed_order c x =
    joined (frame_cases (roster_of c) x) ((47, HasCome c x) ∷ []) (placing (roster_of c) x).tests _ (frame_order (roster_of c) x) (refl, come_order c x, tt)

index_order : (s : List ℕ) (i : ℕ) → InOrder (index_cases s i) ((fitting first (length s), 22) ∷ (ltb i ((length s - 7) / 16), 25) ∷ [])
index_order s i = (refl, obs_long (length s), (refl, from i ((length s - 7) / 16), tt))

-- an OBS of k observations has 7 + k * 16 bytes
over_size : (k : ℕ) → (leb (7 + k * 16) 255 ≡ false) ↔ (255 < 16 * k + 7)
over_size k = (λ e. omega (arith, leb-false (7 + k * 16) 255 e), λ h. lt-leb (7 + k * 16) 255 (omega (arith, h)))

over_room : (k room : ℕ) → (leb (7 + k * 16 + 8) room ≡ false) ↔ (room < 16 * k + 7 + 8)
over_room k room = (λ e. omega (arith, leb-false (7 + k * 16 + 8) room e), λ h. lt-leb (7 + k * 16 + 8) room (omega (arith, h)))

obs_buffer_order : (k room : ℕ) → InOrder ((31, 15 < k) ∷ buffer_cases (16 * k + 7) room) (writing_obs first k room).tests
obs_buffer_order k room = (refl, over k 15, (refl, over_size k, (refl, over_room k room, tt)))

by_column : (k : Option Check) (s : List ℕ) → tests_found k s ≡ column_tests k s
by_column None s = refl
by_column (Some (C.Length n)) s = refl
by_column (Some (C.Ns n at)) s = refl
by_column (Some (C.Fix n at last)) s = refl
by_column (Some C.Obs) s = refl
by_column (Some C.Log) s = refl

same_column : (cs : List (ℕ × Check)) (kind : ℕ) → check_in cs kind ≡ column_of cs kind
unfolding check_in column_of
same_column [] kind = refl
same_column (c ∷ cs) kind = ap (λ (k : Option Check). cond (eqb kind c.0) (Some c.1) k) (same_column cs kind)

pub order : Order
order = record {
  any_payload = λ kind s. tests_agree table document agreed kind s ∙ by_column (check_in document kind) s ∙ ap (λ (k : Option Check). column_tests k s) (same_column document kind);
  payload = λ R d s. (refl, long d.layout (length s), (refl, itself _, tt));
  obs_payload = λ s. (refl, obs_long (length s), tt);
  index = λ s i. index_order s i;
  frame_index = λ kind s i. (refl, obs_kind kind, index_order s i);
  record_buffer = λ R d r room. (refl, itself _, (refl, itself _, (refl, over _ 255, (refl, over _ room, tt))));
  obs_buffer = obs_buffer_order;
  bytes_buffer = λ n room. (refl, over n 255, (refl, over (n + 8) room, tt));
  roster = roster_order;
  frame = fed_order;
  frame_place = frame_order;
  phase = λ z. (refl, itself _, tt);
  capture = λ s room. (refl, over (length s) 65536, (refl, over _ room, tt));
}

room_order : (n room : ℕ) → InOrder (room_cases n room) (room_for n room)
room_order n room = (refl, over n room, tt)

pub linked_order : LinkedOrder
linked_order = record {
  next = λ s at opened room. room_order 53 room;
  totals = λ s room. room_order 32 room;
  collator = λ roster room. joined (roster_cases roster) (room_cases state_size room) (rostering roster).tests (room_for state_size room) (roster_order roster) (room_order state_size room);
  growing_collator = λ room. room_order state_size room;
  enlist = λ state kind sender. room_order state_size (length state);
  feed = λ state room x. (refl, over state_size (length state), (refl, over 11 room, fed_order (state_in state) x));
  observation = λ kind s i room. (refl, obs_kind kind, joined (index_cases s i) (room_cases 8 room) (one_observation first s i).tests (room_for 8 room) (index_order s i) (room_order 8 room));
  read = λ kind s room. refl;
  write = λ kind ns room. (refl, itself _, (refl, other _ _, (refl, itself _, (refl, over _ 255, (refl, over _ room, tt)))));
  write_obs = λ kind hs ns room.
      let counts = both_fail (eqb (length hs) 3) (eqb (length ns % 8) 0) (eqb-true (length hs) 3) (eq-eqb (length hs) 3) (eqb-true (length ns % 8) 0) (eq-eqb (length ns % 8) 0) in
      (refl, obs_kind kind, (refl, counts, (refl, itself _, obs_buffer_order (length ns / 8) room)));
}

-- a type that is not among the 24 has no reading
uncounted : (kind : ℕ) → (known_for kind ≡ false) ↔ Not (Among kind counted_kinds)
uncounted kind = (λ e a. true≢false (sym (among_known kind a) ∙ e), λ none. by (known_for kind) refl none)
  where
    by : (t : Bool) → known_for kind ≡ t → Not (Among kind counted_kinds) → t ≡ false
    by true e none = absurd (none (known_among kind e))
    by false e none = refl

pub indexes_order : IndexOrder
indexes_order = record {
  extension = λ x s most. (refl, over x.reached (length s), (refl, over _ most, tt));
  search = λ x list kind sender offset. (refl, over x.held (length list), tt);
  count = λ x kind. (refl, uncounted kind, tt);
  in_bytes = λ A bytes c cs p. (refl, over 208 (length bytes), p);
}
