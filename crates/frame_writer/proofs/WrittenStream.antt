-- Frames written one after the other read back as just those frames, in their order, with nothing passed over.
use mathlib.Core.Path.{◌≡◌, refl, sym, ap, ap₂, ◌∙◌}
use mathlib.Core.Bool.{false}
use mathlib.Core.List.{List, [], ◌∷◌, ◌++◌, map, append_assoc}
use Prim.Native.Nat.{ℕ, ◌+◌}
use native.Mathlib.Omega.{arith}
use lib.ListN.{length, drop, length-append}
use lib.Seq.{drop_at}
use Rattle.frames.specs.Frame.{Content, Sendable, AllSendable, frame_of, stream}
use Rattle.frames.specs.Step.{payload_in, passed}
use Rattle.frames.specs.Reading.{Positioned, stops, read_from, closed_steps, frames_of, counted, added, counts_of}
use Rattle.frame_writer.specs.Writer.{as_read, found_from}
use Rattle.frames.specs.declared.step.Step.{Step}
use Rattle.frames.specs.declared.step.Step.TheVariants.{Found}
use Rattle.frames.proofs.Readings.{go_at}
use Rattle.frame_writer.proofs.WrittenFrames.{length-frame, length-frame_then}
use Rattle.frame_writer.proofs.WrittenRead.{reads_back, payload_back_at}

-- past a written frame the reading goes on after it
pub past_written : (p : ℕ) (m : Content) (rest : List ℕ) → Sendable m
    → read_from false 0 p (frame_of m ++ rest)
    ≡ record { at = p; step = Found (as_read p m) } ∷ read_from false 0 (p + (length m.payload + 8)) rest
past_written p m rest h =
    let t = frame_of m ++ rest in
    let step = reads_back m.kind m.sender m.payload rest h.0 h.1 h.2 p in
    go_at false p t (ap (stops false) step)
    ∙ ap (λ (x : Step). record { at = p; step = x } ∷ read_from false 0 (p + passed x) (drop (passed x) t)) step
    ∙ ap (λ (u : List ℕ). record { at = p; step = Found (as_read p m) } ∷ read_from false 0 (p + (length m.payload + 8)) u) (drop_at (frame_of m) rest (length m.payload + 8) (length-frame m.kind m.sender m.payload))

stream_from : (p : ℕ) (ms : List Content) → AllSendable ms → read_from false 0 p (stream ms) ≡ found_from p ms
unfolding stream found_from read_from
stream_from p [] h = refl
stream_from p (m ∷ ms) h =
    past_written p m (stream ms) h.0
    ∙ ap (λ (xs : List Positioned). record { at = p; step = Found (as_read p m) } ∷ xs) (stream_from (p + (length m.payload + 8)) ms h.1)

pub closed_stream : (ms : List Content) → AllSendable ms → closed_steps (stream ms) ≡ found_from 0 ms
closed_stream = stream_from 0

-- all of it is frames
found_counts : (p : ℕ) (ms : List Content) → counts_of (found_from p ms) ≡ record { framed = length (stream ms); junk = 0; bad = 0; short = 0 }
unfolding stream found_from counts_of
found_counts p [] = refl
found_counts p (m ∷ ms) =
    let n = length m.payload in
    let size : n + 8 + length (stream ms) ≡ length (frame_of m ++ stream ms) = omega (arith, length-frame_then m.kind m.sender m.payload (stream ms)) in
    ap (added (counted (Found (as_read p m)))) (found_counts (p + (n + 8)) ms) ∙ (λ i. record { framed = size i; junk = 0; bad = 0; short = 0 })

pub stream_counts : (ms : List Content) → AllSendable ms → counts_of (closed_steps (stream ms)) ≡ record { framed = length (stream ms); junk = 0; bad = 0; short = 0 }
stream_counts ms h = ap counts_of (closed_stream ms h) ∙ found_counts 0 ms

-- and the frames show the payloads
payloads_from : (before : List ℕ) (ms : List Content) → map (payload_in (before ++ stream ms)) (frames_of (found_from (length before) ms)) ≡ map (λ (m : Content). m.payload) ms
unfolding stream found_from frames_of
payloads_from before [] = refl
payloads_from before (m ∷ ms) =
    let next : length before + (length m.payload + 8) ≡ length (before ++ frame_of m) = rw (length-append, length-frame) in
    ap₂ (λ (x : List ℕ) (xs : List (List ℕ)). x ∷ xs) (payload_back_at m.kind m.sender m.payload (stream ms) before)
    (ap₂ (λ (s : List ℕ) (q : ℕ). map (payload_in s) (frames_of (found_from q ms))) (sym (append_assoc before (frame_of m) (stream ms))) next ∙ payloads_from (before ++ frame_of m) ms)

pub stream_payloads : (ms : List Content) → AllSendable ms → map (payload_in (stream ms)) (frames_of (closed_steps (stream ms))) ≡ map (λ (m : Content). m.payload) ms
stream_payloads ms h = ap (λ (xs : List Positioned). map (payload_in (stream ms)) (frames_of xs)) (closed_stream ms h) ∙ payloads_from [] ms
