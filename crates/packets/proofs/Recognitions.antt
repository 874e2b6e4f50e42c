-- What a frame is recognised as, test by test, and how large the numbers of its packet are.
use mathlib.Core.Path.{◌≡◌, ap, ◌∙◌, subst}
use mathlib.Core.Bool.{false}
use mathlib.Core.List.{List, ◌++◌}
use Prim.Native.Nat.{ℕ, ◌^◌, ◌≤◌, ◌<◌}
use native.Mathlib.Omega.{arith}
use lib.ListN.{length}
use borrow.Author.Tests.{ltb-true}
use Rattle.wire.specs.Number.{Bytes}
use Rattle.refusals.specs.Refusals.{refused, given, Answer}
use Rattle.wire.proofs.Numbers.{number_lt}
use Rattle.refusals.proofs.Ordered.{exactly_all}
use Rattle.observation.specs.Edition.{first, is_obs}
use Rattle.observation.proofs.Editions.{whole}
use Rattle.packets.specs.Packet.{packet_in, shape, numbering, read_packet, numbered, recognised, Formed}
use Rattle.packets.specs.declared.packet.Packet.{Packet}
use Rattle.refusals.proofs.Joined.{ordered_joined, and_then}

-- of no observation type
pub read_46 : (kind : ℕ) (s : List ℕ) → is_obs kind ≡ false → refused 46 ≡ read_packet kind s
unfolding shape
read_46 kind s e = rw e

-- a frame that was read is recognised by its numbers
pub read_recognised : (kind : ℕ) (s : List ℕ) {p : Packet} → read_packet kind s ≡ given p → recognised kind s ≡ numbered p
read_recognised kind s {p} e =
    ordered_joined (packet_in s) (packet_in s) (numbering (packet_in s)) (shape kind s)
    ∙ ap (λ (a : Answer Packet). and_then a (numbered (packet_in s))) e
    ∙ ap numbered ((exactly_all (packet_in s) (shape kind s) p).0 e).1

-- ---- the packet of a frame that is recognised

module _ (kind : ℕ) (s : List ℕ) {p : Packet} (e : recognised kind s ≡ given p) where
  same_packet : packet_in s ≡ p
  same_packet = ((exactly_all (packet_in s) (shape kind s ++ numbering (packet_in s)) p).0 e).1

  pub formed : Formed p
  unfolding shape numbering packet_in
  formed =
      let passes = ((exactly_all (packet_in s) (shape kind s ++ numbering (packet_in s)) p).0 e).0 in
      subst Formed same_packet
      (record { below = ltb-true _ _ passes.1.1.1.0; nibble = omega arith; few = (whole first (length s) passes.1.0).1 })

  module _ (bytes : Bytes s) where
    -- its n, where the payload is of bytes
    pub n_small : p.key.n ≤ 15
    unfolding packet_in
    n_small = subst (λ (p : Packet). p.key.n ≤ 15) same_packet (omega (arith, number_lt 1 s 6 bytes))

    -- and its time
    pub time_small : (p.key.tow < 2 ^ 32) × (p.key.wn < 65536)
    unfolding packet_in
    time_small = subst (λ (p : Packet). (p.key.tow < 2 ^ 32) × (p.key.wn < 65536)) same_packet (number_lt 4 s 0 bytes, number_lt 2 s 4 bytes)
