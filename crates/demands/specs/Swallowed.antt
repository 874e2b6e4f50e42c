-- Document 02, P4: "Closed reading doesn't have this: a short at the end may become a frame that swallows what closed reading showed inside it."
-- One such pair of captures; docs/CLOSED.md shows it.
use Rattle.std.specs.Prelude.{ℕ, ◌≡◌, true, List, [], ◌∷◌, ◌++◌}
use Rattle.frames.specs.Reading.{closed_steps, frames_of}
use Rattle.frames.specs.Cursors.{begun, next_of}
use Rattle.stays.specs.Stays.{Leads}
use Rattle.frames.specs.declared.step.Frame.{Frame}
use Rattle.frames.specs.declared.cursor.Next as Next

-- a BASELINE_HEADING whose payload begins with 55 and seven 00, still without its CRC
abbrev pub early : List ℕ
early =
    0x55 ∷ 0x07 ∷ 0x02 ∷ 0xd2 ∷ 0x04 ∷ 0x0a ∷
    0x55 ∷ 0x00 ∷ 0x00 ∷ 0x00 ∷ 0x00 ∷ 0x00 ∷ 0x00 ∷ 0x00 ∷ 0x05 ∷ 0x01 ∷ []

-- and then with it
abbrev pub late : List ℕ
late = early ++ 0x96 ∷ 0x39 ∷ []

-- what stands inside, and what stands around it
abbrev pub inner : Frame
inner = record { at = 6; kind = 0; sender = 0; length = 0 }

abbrev pub outer : Frame
outer = record { at = 0; kind = 0x0207; sender = 1234; length = 10 }

pub record Swallowed : Type 0 where
  pub longer : Leads early late
  -- closed reading of the first shows the inner frame, of the longer one the outer alone
  pub shown : frames_of (closed_steps early) ≡ inner ∷ []
  pub gone : frames_of (closed_steps late) ≡ outer ∷ []
  -- so what it showed of the first is no leading part of what it shows then: not its frames, and not its steps
  pub frames_differ : Leads (frames_of (closed_steps early)) (frames_of (closed_steps late)) → ⊥
  pub steps_differ : Leads (closed_steps early) (closed_steps late) → ⊥
  -- open reading of the first shows nothing, and needs 18 bytes
  pub waits : next_of early (begun true) ≡ Next.TheVariants.Needs 18 (begun true)
