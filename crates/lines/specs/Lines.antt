-- The three lines of a listing, by document 01's `sbplist`.
use Rattle.std.specs.Prelude.{ℕ, List, [], ◌∷◌}
use Rattle.frames.specs.declared.step.Frame.{Frame}
use Rattle.frames.specs.declared.cursor.Counts.{Counts}
use Rattle.epochs.specs.declared.collating.Report.{Report}
use Rattle.epochs.specs.Happened.{Happened}
use Rattle.epochs.specs.Happened.{Refused, Taken, Epoch}
use Rattle.text.specs.Line.{line}

-- `F` offset type sender length payload-answer
abbrev pub frame_shown : Frame → ℕ → List ℕ
frame_shown f answer = line 0x46 (f.at ∷ f.kind ∷ f.sender ∷ f.length ∷ answer ∷ [])

-- `E` sender wn tow n observations
abbrev pub epoch_line : Report → List ℕ
epoch_line e = line 0x45 (e.sender ∷ e.wn ∷ e.tow ∷ e.n ∷ e.observations ∷ [])

-- `T` length, frame bytes, junk, bad, short
abbrev pub totals_shown : ℕ → Counts → List ℕ
totals_shown n c = line 0x54 (n ∷ c.framed ∷ c.junk ∷ c.bad ∷ c.short ∷ [])

-- what stands after a frame's line: the epoch that it ends
abbrev pub epoch_part : Happened → List ℕ
epoch_part (Refused n) = []
epoch_part Taken = []
epoch_part (Epoch e) = epoch_line e
