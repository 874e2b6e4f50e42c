-- A frame (document 01): preamble 0x55, type, sender, payload length, payload, CRC over all but the preamble. Little-endian throughout.
use Rattle.std.specs.Prelude.{ℕ, ◌<◌, ◌≤◌, List, [], ◌∷◌, ◌++◌, length}
use Rattle.wire.specs.Number.{bytes_of}
use Rattle.crc.specs.Crc.{crc_from}

-- type through payload, which the CRC covers
unfoldable pub covered : ℕ → ℕ → List ℕ → List ℕ
covered kind sender payload = bytes_of 2 kind ++ bytes_of 2 sender ++ bytes_of 1 (length payload) ++ payload

unfoldable pub frame_bytes : ℕ → ℕ → List ℕ → List ℕ
unfolding covered
frame_bytes kind sender payload = 0x55 ∷ covered kind sender payload ++ bytes_of 2 (crc_from 0 (covered kind sender payload))

-- what a frame carries, to be written or to be fed to a collator; and what its fields have room for
pub record Content : Type 0 where
  pub kind : ℕ
  pub sender : ℕ
  pub payload : List ℕ

abbrev pub Sendable : Content → Type 0
Sendable m = (m.kind < 65536) × (m.sender < 65536) × (length m.payload ≤ 255)

abbrev pub AllSendable : List Content → Type 0
AllSendable [] = Unit {0}
AllSendable (m ∷ ms) = Sendable m × AllSendable ms

abbrev pub frame_of : Content → List ℕ
frame_of m = frame_bytes m.kind m.sender m.payload

-- frames one after the other
unfoldable pub stream : List Content → List ℕ
stream [] = []
stream (m ∷ ms) = frame_of m ++ stream ms
