-- What a frame is to a collator: what it is by itself, for its sender's place where the roster lists it, else a refusal. Nothing here looks inside
-- the tests of a packet.
use mathlib.Core.Path.{◌≡◌, refl, sym, ap, ◌∙◌}
use mathlib.Core.Bool.{false, cond}
use mathlib.Core.List.{List, ◌∷◌, ◌++◌}
use Prim.Native.Nat.{ℕ, ◌<◌}
use native.Mathlib.Omega.{arith}
use lib.ListN.{length}
use Rattle.refusals.specs.Refusals.{refused, given, Answer, Tests, ordered, mapped}
use Rattle.refusals.proofs.Distinct.{same_given, never_both}
use Rattle.frames.specs.Frame.{Content}
use Rattle.packets.specs.Packet.{packet_in, shape, numbering, read_packet}
use Rattle.packets.specs.declared.packet.Packet.{Packet}
use Rattle.refusals.proofs.Joined.{ordered_joined, and_then, ordered_mapped}
use Rattle.epochs.specs.Search.{seat_of, names}
use Rattle.epochs.specs.Collator.{seat_number, for_place}
use Rattle.epochs.specs.Epoch.{own_packet}
use Rattle.std.specs.Prelude.{Option, Some, None, is_some}
use Rattle.epochs.proofs.Searches.{seat_below, seat_at, seat_nowhere}

abbrev pub at : ℕ → Packet → ℕ × Packet
at i p = (i, p)

-- the roster counts by the sender's seat alone
pub placed_seat : (q r : List ℕ) (x : Content) → seat_of q x.sender 0 ≡ seat_of r x.sender 0 → for_place q x ≡ for_place r x
unfolding for_place names
placed_seat q r x e =
    ap (λ (s : Option ℕ). ordered (shape x.kind x.payload ++ (is_some s, 43) ∷ numbering (packet_in x.payload)) (at (seat_number s) (packet_in x.payload))) e

module _ (roster : List ℕ) (x : Content) where
  abbrev found : ℕ × Packet
  found = at (seat_number (seat_of roster x.sender 0)) (packet_in x.payload)

  abbrev numbers : Tests
  numbers = numbering (packet_in x.payload)

  -- 46 and 22, then 43, then 44 and 45
  steps : for_place roster x ≡ and_then (read_packet x.kind x.payload) (cond (names roster x.sender) (ordered numbers found) (refused 43))
  unfolding for_place
  steps = ordered_joined (packet_in x.payload) found ((names roster x.sender, 43) ∷ numbers) (shape x.kind x.payload)

  pub placed_unread : {n : ℕ} → read_packet x.kind x.payload ≡ refused n → for_place roster x ≡ refused n
  placed_unread e = steps ∙ (rw e)

  pub placed_43 : {p : Packet} → read_packet x.kind x.payload ≡ given p → seat_of roster x.sender 0 ≡ None → for_place roster x ≡ refused 43
  placed_43 e s = steps ∙ (rw (e, seat_nowhere roster x.sender s))

  -- for a listed sender it is what it is by itself, at the sender's seat
  pub placed_listed : {i : ℕ} → seat_of roster x.sender 0 ≡ Some i → for_place roster x ≡ mapped (at i) (own_packet x)
  placed_listed {i} s =
      steps
      ∙ (rw (seat_at roster x.sender s))
      ∙ sym (ordered_joined (packet_in x.payload) found numbers (shape x.kind x.payload))
      ∙ ap (λ (s : Option ℕ). ordered (shape x.kind x.payload ++ numbers) (at (seat_number s) (packet_in x.payload))) s
      ∙ ordered_mapped (at i) (packet_in x.payload) (shape x.kind x.payload ++ numbers)

  -- for another it is refused
  pub placed_unlisted : names roster x.sender ≡ false → (n : ℕ) × (for_place roster x ≡ refused n)
  placed_unlisted n = let r = by (read_packet x.kind x.payload) in (r.0, steps ∙ (rw n) ∙ r.1)
    where
      by : (a : Answer Packet) → (m : ℕ) × (and_then {B = ℕ × Packet} a (refused 43) ≡ refused m)
      by (given p) = (43, refl)
      by (refused m) = (m, refl)

  -- so what is taken has a seat, and is a packet by itself
  pub placed : {i : ℕ} {p : Packet} → for_place roster x ≡ given (i, p) → (seat_of roster x.sender 0 ≡ Some i) × (own_packet x ≡ given p)
  placed {i} {p} e = by (seat_of roster x.sender 0) refl
    where
      own : {j : ℕ} (a : Answer Packet) → mapped (at j) a ≡ given (i, p) → (Some j ≡ Some i) × (a ≡ given p)
      own (refused n) q = absurd (never_both q refl)
      own {j} (given o) q = let e = same_given {x = at j o} refl q in (ap (λ (a : ℕ × Packet). Some a.0) e, ap (λ (a : ℕ × Packet). given a.1) e)

      by : (s : Option ℕ) → seat_of roster x.sender 0 ≡ s → (seat_of roster x.sender 0 ≡ Some i) × (own_packet x ≡ given p)
      by None s = absurd (never_both e (placed_unlisted (seat_nowhere roster x.sender s)).1)
      by (Some j) s = let o = own (own_packet x) (sym (placed_listed s) ∙ e) in (s ∙ o.0, o.1)

  pub placed_below : {i : ℕ} {p : Packet} → for_place roster x ≡ given (i, p) → i < length roster
  placed_below e = omega (arith, (seat_below roster x.sender 0 (placed e).0).1)
