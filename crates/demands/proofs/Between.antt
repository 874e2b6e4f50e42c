-- A capture of frames with noise between them holds these frames and no other.
use mathlib.Core.Path.{◌≡◌, refl, sym, ap, ap₂, ◌∙◌}
use mathlib.Core.Bool.{false}
use mathlib.Core.List.{List, [], ◌∷◌, ◌++◌, map, append_assoc}
use Prim.Native.Nat.{ℕ, ◌+◌}
use native.Mathlib.Omega.{arith}
use lib.ListN.{length, drop, length-append}
use borrow.Author.Tests.{ne_eqb}
use Rattle.frames.specs.Frame.{frame_of, Content}
use Rattle.frames.specs.Step.{step_of, passed}
use Rattle.frames.specs.Reading.{Positioned, stops, read_from, frames_of}
use Rattle.frames.specs.declared.step.Step.{Step}
use Rattle.frames.specs.declared.step.Step.TheVariants.{Junk}
use Rattle.frames.proofs.Readings.{go_at}
use Rattle.frame_writer.proofs.WrittenFrames.{length-frame}
use Rattle.frame_writer.proofs.WrittenRead.{payload_back_at}
use Rattle.frame_writer.proofs.WrittenStream.{past_written}
use Rattle.epochs.specs.Epoch.{content_in, contents_of}
use Rattle.demands.specs.Noise.{Piece, frame, noise, AllFit, capture_of, sent_in}

junk_step : (p b : ℕ) (t : List ℕ) → (b ≡ 0x55 → ⊥) → step_of p (b ∷ t) ≡ Junk
unfolding step_of
junk_step p b t other = rw (ne_eqb (length (b ∷ t)) 0 (omega arith), ne_eqb b 0x55 other)

-- past a byte of noise the reading goes on after it
past_noise : (p b : ℕ) (t : List ℕ) → (b ≡ 0x55 → ⊥) → read_from false 0 p (b ∷ t) ≡ record { at = p; step = Junk } ∷ read_from false 0 (p + 1) t
past_noise p b t other =
    let step = junk_step p b t other in
    go_at false p (b ∷ t) (ap (stops false) step)
    ∙ ap (λ (x : Step). record { at = p; step = x } ∷ read_from false 0 (p + passed x) (drop (passed x) (b ∷ t))) step

-- the frames from where the pieces begin
abbrev items_from : List ℕ → List ℕ → List Content
items_from before t = map (content_in (before ++ t)) (frames_of (read_from false 0 (length before) t))

on : (before part t : List ℕ) {p : ℕ} → p ≡ length (before ++ part)
    → map (content_in (before ++ (part ++ t))) (frames_of (read_from false 0 p t)) ≡ items_from (before ++ part) t
on before part t e =
    ap₂ (λ (s : List ℕ) (p : ℕ). map (content_in s) (frames_of (read_from false 0 p t))) (sym (append_assoc before part t)) e

sent_from : (before : List ℕ) (xs : List Piece) → AllFit xs → items_from before (capture_of xs) ≡ sent_in xs
unfolding capture_of sent_in read_from frames_of
sent_from before [] fit = refl
sent_from before (noise b ∷ xs) fit =
    let t = capture_of xs in
    ap (λ (ys : List Positioned). map (content_in (before ++ (b ∷ t))) (frames_of ys)) (past_noise (length before) b t fit.0)
    ∙ on before (b ∷ []) t (sym (length-append before (b ∷ [])))
    ∙ sent_from (before ++ b ∷ []) xs fit.1
sent_from before (frame m ∷ xs) fit =
    let t = capture_of xs in
    let ends : length before + (length m.payload + 8) ≡ length (before ++ frame_of m) = omega (arith, length-append before (frame_of m), length-frame m.kind m.sender m.payload) in
    ap (λ (ys : List Positioned). map (content_in (before ++ (frame_of m ++ t))) (frames_of ys)) (past_written (length before) m t fit.0)
    ∙ ap₂ (λ (payload : List ℕ) (ys : List Content). record { kind = m.kind; sender = m.sender; payload = payload } ∷ ys)
    (payload_back_at m.kind m.sender m.payload t before)
    (on before (frame_of m) t ends ∙ sent_from (before ++ frame_of m) xs fit.1)

pub sent : (xs : List Piece) → AllFit xs → contents_of (capture_of xs) ≡ sent_in xs
unfolding contents_of
sent = sent_from []
