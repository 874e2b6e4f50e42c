-- Document 01's worked examples, those marked *, as one table in its order.
use Rattle.std.specs.Prelude.{ℕ, ◌≡◌, Bool, true, false, List, [], ◌∷◌, ℤ, pos, neg_ℤ}
use Rattle.refusals.specs.Refusals.{refused, given, Answer}
use Rattle.crc.specs.Crc.{crc_from}
use Rattle.frames.specs.Step.{step_at, ends, payload_in}
use Rattle.frames.specs.Reading.{closed_steps, counts_of}
use Rattle.frames.specs.Cursors.{begun, next_of}
use Rattle.frames.specs.declared.step.Frame.{Frame}
use Rattle.frames.specs.declared.step.Step.{Step}
use Rattle.frames.specs.declared.step.Step.TheVariants.{Finished, Bad, Found}
use Rattle.frames.specs.declared.cursor.Counts.{Counts}
use Rattle.frames.specs.declared.cursor.Next as Next
use Rattle.observation.specs.Edition.{first}
use Rattle.phases.specs.Phase.{phase_of, read_phase}
use Rattle.phases.specs.declared.phase.Phase.{Phase}
use Rattle.payloads.specs.Payloads.{read_for}
use Rattle.payloads.specs.declared.Message.{Message}
use Rattle.payloads.specs.declared.Message.TheVariants as M
use Rattle.epochs.specs.Collator.{fed_frame, made}
use Rattle.frames.specs.Frame.{Content}
use Rattle.epochs.specs.Happened.{Happened}
use Rattle.epochs.specs.Happened as H

-- what an example asks, and what document 01 answers
pub data Example : Type 0 where
  -- the CRC of some bytes
  crc : List ℕ → ℕ → Example
  -- the step at a position of a capture, and where it goes on
  step : List ℕ → ℕ → Step → ℕ → Example
  -- what a frame's payload reads as
  payload : List ℕ → Frame → Answer Message → Example
  -- the first answer about a capture, in open reading or in closed
  reading : Bool → List ℕ → Next.Next → Example
  -- the counts of the whole capture, closed
  counts : List ℕ → Counts → Example
  -- what a fresh collator makes of an observation frame with this n_obs
  feeding : ℕ → Happened → Example
  -- the carrier phase of a pair, and the pair of that phase
  phase : Phase → ℤ → Example

-- an observation frame of a sender, with this n_obs and no observations
abbrev pub packet_from : ℕ → ℕ → Content
packet_from sender n_obs = record { kind = first.kind; sender = sender; payload = 0 ∷ 0 ∷ 0 ∷ 0 ∷ 0 ∷ 0 ∷ n_obs ∷ [] }

-- an example, over the definitions that the contracts cite
abbrev pub Holds : Example → Type 0
Holds (crc s n) = crc_from 0 s ≡ n
Holds (step s p x next) = (step_at s p ≡ x) × (ends s p ≡ next)
Holds (payload s f answer) = read_for f.kind (payload_in s f) ≡ answer
Holds (reading opened s next) = next_of s (begun opened) ≡ next
Holds (counts s totals) = counts_of (closed_steps s) ≡ totals
Holds (feeding n happened) = (fed_frame (made (0 ∷ [])).collator (packet_from 0 n)).happened ≡ happened
Holds (phase p z) = (phase_of p ≡ z) × (read_phase z ≡ given p)

abbrev pub AllHold : List Example → Type 0
AllHold [] = Unit {0}
AllHold (x ∷ xs) = Holds x × AllHold xs

-- ---- the captures

-- ASCII "123456789"
abbrev pub digits : List ℕ
digits = 0x31 ∷ 0x32 ∷ 0x33 ∷ 0x34 ∷ 0x35 ∷ 0x36 ∷ 0x37 ∷ 0x38 ∷ 0x39 ∷ []

-- the example frame of 003, section 4, but for its last byte
abbrev pub baseline_ending_in : ℕ → List ℕ
baseline_ending_in last =
    0x55 ∷ 0x02 ∷ 0x02 ∷ 0xcc ∷ 0x04 ∷ 0x14 ∷
    0x70 ∷ 0x3d ∷ 0xd0 ∷ 0x18 ∷ 0xcf ∷ 0xef ∷ 0xff ∷ 0xff ∷ 0xef ∷ 0xe8 ∷ 0xff ∷ 0xff ∷
    0xf0 ∷ 0x18 ∷ 0x00 ∷ 0x00 ∷ 0x00 ∷ 0x00 ∷ 0x05 ∷ 0x00 ∷
    0x43 ∷ last ∷ []

abbrev pub baseline_frame : Frame
baseline_frame = record { at = 0; kind = 0x0202; sender = 1228; length = 20 }

-- 55 and seven 00
abbrev pub blank : List ℕ
blank = 0x55 ∷ 0x00 ∷ 0x00 ∷ 0x00 ∷ 0x00 ∷ 0x00 ∷ 0x00 ∷ 0x00 ∷ []

abbrev pub blank_frame : Frame
blank_frame = record { at = 0; kind = 0; sender = 0; length = 0 }

-- 55 00 00 00 00
abbrev pub headless : List ℕ
headless = 0x55 ∷ 0x00 ∷ 0x00 ∷ 0x00 ∷ 0x00 ∷ []

abbrev pub minus : ℕ → ℤ
minus n = neg_ℤ (pos n)

-- ---- the table

abbrev pub table : List Example
table =
    crc [] 0 ∷
    crc digits 0x31C3 ∷
    step (baseline_ending_in 0x94) 0 (Found baseline_frame) 28 ∷
    payload (baseline_ending_in 0x94) baseline_frame (given (M.BaselineEcef
    (record { tow = 416300400; x = minus 4145; y = minus 5905; z = pos 6384; accuracy = 0; n_sats = 5; flags = 0 }))) ∷
    step (baseline_ending_in 0x95) 0 Bad 1 ∷
    step blank 0 (Found blank_frame) 8 ∷
    payload blank blank_frame (refused 21) ∷
    step [] 0 Finished 0 ∷
    reading false [] (Next.TheVariants.End (begun false)) ∷
    counts [] (record { framed = 0; junk = 0; bad = 0; short = 0 }) ∷
    reading true headless (Next.TheVariants.Needs 6 (begun true)) ∷
    counts headless (record { framed = 0; junk = 4; bad = 0; short = 1 }) ∷
    feeding 0x00 (H.Refused 44) ∷
    feeding 0x11 (H.Refused 45) ∷
    feeding 0x10 (H.Epoch (record { sender = 0; wn = 0; tow = 0; n = 1; observations = 0 })) ∷
    phase (record { l_i = minus 3; l_f = 128 }) (minus 640) ∷
    phase (record { l_i = minus 1; l_f = 255 }) (minus 1) ∷
    []
