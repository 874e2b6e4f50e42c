-- A frame whose header and payload lie apart, as a radio delivers them (document 02, P3). A header is 003's six bytes: preamble, type, sender,
-- payload length.
use Rattle.std.specs.Prelude.{◌≡◌, ℕ, List, ◌∷◌, ◌++◌, length, take, drop}
use Rattle.wire.specs.Number.{bytes_of}
use Rattle.crc.specs.Crc.{crc_from}
use Rattle.frames.specs.Frame.{frame_bytes}
use Rattle.frames.specs.Step.{payload_in}
use Rattle.frames.specs.Decides.{frame, sum}

-- its CRC: of both joined, but for the preamble
abbrev pub sum_apart : List ℕ → List ℕ → ℕ
sum_apart header payload = crc_from 0 (drop 1 header ++ payload)

abbrev pub header_of : ℕ → ℕ → ℕ → List ℕ
header_of kind sender n = 0x55 ∷ bytes_of 2 kind ++ bytes_of 2 sender ++ bytes_of 1 n

pub record SameApart : Type 0 where
  -- at every position of a capture it is the CRC by which the five lines decide
  pub found : (s : List ℕ) (p : ℕ) → sum_apart (take 6 (drop p s)) (payload_in s (frame s p)) ≡ sum s p
  -- and a frame that is written is its header, its payload and that CRC
  pub written : (kind sender : ℕ) (payload : List ℕ)
      → frame_bytes kind sender payload
      ≡ header_of kind sender (length payload) ++ payload ++ bytes_of 2 (sum_apart (header_of kind sender (length payload)) payload)
