-- Captures of frames with noise between them: bytes that begin no frame. (Noise that looks like a frame's start is for the five lines to judge.)
use Rattle.std.specs.Prelude.{ℕ, ◌≡◌, List, [], ◌∷◌, ◌++◌}
use Rattle.frames.specs.Frame.{Content, Sendable, frame_of}

pub data Piece : Type 0 where
  frame : Content → Piece
  noise : ℕ → Piece

abbrev pub Fits : Piece → Type 0
Fits (frame m) = Sendable m
Fits (noise b) = b ≡ 0x55 → ⊥

abbrev pub AllFit : List Piece → Type 0
AllFit [] = Unit {0}
AllFit (x ∷ xs) = Fits x × AllFit xs

-- the bytes, and the frames among the pieces
abbrev pub bytes_in : Piece → List ℕ → List ℕ
bytes_in (frame m) rest = frame_of m ++ rest
bytes_in (noise b) rest = b ∷ rest

abbrev pub sent_by : Piece → List Content → List Content
sent_by (frame m) rest = record { kind = m.kind; sender = m.sender; payload = m.payload } ∷ rest
sent_by (noise b) rest = rest

unfoldable pub capture_of : List Piece → List ℕ
capture_of [] = []
capture_of (x ∷ xs) = bytes_in x (capture_of xs)

unfoldable pub sent_in : List Piece → List Content
sent_in [] = []
sent_in (x ∷ xs) = sent_by x (sent_in xs)
