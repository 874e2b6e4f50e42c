-- A listing's lines in document 01's words. Nothing here looks at a collator.
use Rattle.std.specs.Prelude.{ℕ, List, [], ◌∷◌, ◌++◌}
use Rattle.frames.specs.Frame.{Content}
use Rattle.frames.specs.declared.step.Frame.{Frame}
use Rattle.epochs.specs.Epoch.{content_in, EndsEpoch}
use Rattle.epochs.specs.declared.collating.Report.{Report}
use Rattle.listing.specs.Listing.{frame_line}
use Rattle.lines.specs.Lines.{epoch_line}

-- "for each frame `F` ..; after the frame that ends an epoch, `E` ..": the lines of the frames that come after those of the past
pub data Lines (s roster : List ℕ) : List Content → List Frame → List ℕ → Type 0 where
  none : {past : List Content} → Lines s roster past [] []
  ending : {past : List Content} {f : Frame} {fs : List Frame} {e : Report} {text : List ℕ} → EndsEpoch roster past (content_in s f) e
      → Lines s roster (past ++ content_in s f ∷ []) fs text → Lines s roster past (f ∷ fs) (frame_line s f ++ (epoch_line e ++ text))
  passing : {past : List Content} {f : Frame} {fs : List Frame} {text : List ℕ} → ((e : Report) → EndsEpoch roster past (content_in s f) e → ⊥)
      → Lines s roster (past ++ content_in s f ∷ []) fs text → Lines s roster past (f ∷ fs) (frame_line s f ++ text)
