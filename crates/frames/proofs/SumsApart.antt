-- A frame's CRC is the same where its header and payload lie apart.
use Rattle.std.proofs.Common.{◌≡◌, ℕ, ◌+◌, min, List, [], ◌∷◌, ◌++◌, length, take, drop, refl, ap, ◌∙◌, arith, drop-drop}
use Rattle.wire.specs.Number.{bytes_of}
use Rattle.wire.proofs.Lent.{lent_from, lent_all}
use Rattle.crc.specs.Crc.{crc_from}
use Rattle.frames.specs.Frame.{covered, frame_bytes}
use Rattle.frames.specs.Step.{payload_in}
use Rattle.frames.specs.Decides.{size, sum, frame}
use Rattle.frames.specs.Apart.{sum_apart, SameApart}
use Rattle.frames.proofs.Frames.{join}

-- all but the first byte, as `frame_crc` lends it
first_dropped : (s : List ℕ) → drop (min 1 (length s)) s ≡ drop 1 s
first_dropped [] = refl
first_dropped (b ∷ t) = let one : min 1 (length (b ∷ t)) ≡ 1 = omega arith in ap (λ (n : ℕ). drop n (b ∷ t)) one

pub sums : (header payload : List ℕ) {start sum : ℕ} → start ≡ min 1 (length header) → sum ≡ crc_from 0 (lent_from start header ++ payload) → sum ≡ sum_apart header payload
sums header payload {start} e q = q ∙ ap (λ (t : List ℕ). crc_from 0 (t ++ payload)) (lent_all start header ∙ ap (λ (n : ℕ). drop n header) e ∙ first_dropped header)

header_covered : (t : List ℕ) → drop 1 (take 6 t) ≡ take 5 (drop 1 t)
header_covered [] = refl
header_covered (b ∷ t) = refl

found : (s : List ℕ) (p : ℕ) → sum_apart (take 6 (drop p s)) (payload_in s (frame s p)) ≡ sum s p
unfolding payload_in
found s p =
    let all : 5 + size s p ≡ size s p + 5 = omega arith in
    let header = header_covered (drop p s) ∙ ap (take 5) (drop-drop 1 p s) in
    ap (crc_from 0) (join 5 (size s p) s (p + 1) (p + 6) (omega arith) header refl ∙ ap (λ (n : ℕ). take n (drop (p + 1) s)) all)

pub same_apart : SameApart
unfolding covered frame_bytes bytes_of
same_apart = record { found = found; written = λ kind sender payload. refl }
