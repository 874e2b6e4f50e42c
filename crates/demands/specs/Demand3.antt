-- Demand 3: "Senders don't mix. Read two complete captures and feed each in order to a fresh collator of one roster. If for every listed
-- sender the two hold the same frames in the same order, then each sender gets the same epoch reports in the same order and the two end states
-- are equal, however frames of different senders are shuffled and whatever noise or unlisted senders stand between. The epochs are those of
-- demand 2."
use Rattle.std.specs.Prelude.{◌≡◌, true, false, List, [], ◌∷◌, ◌++◌, ℕ}
use Rattle.epochs.specs.Search.{names}
use Rattle.epochs.specs.Collator.{made}
use Rattle.epochs.specs.Epoch.{after, reports, reports_of, Epochs, SameFrames, contents_of}
use Rattle.frames.specs.Frame.{Content}
use Rattle.captures.specs.Capture.{collated}
use Rattle.epochs.specs.declared.collating.Report.{Report}
use Rattle.demands.specs.Noise.{Piece, AllFit, capture_of, sent_in}

-- what two captures come to, es and fs being their epochs by demand 2
pub record Unmixed (roster a b : List ℕ) (es fs : List Report) : Type 0 where
  -- "The epochs are those of demand 2": they are what is reported, so that no collator will do that reports other things, or nothing
  pub first_reported : es ≡ reports (made roster).collator (contents_of a)
  pub second_reported : fs ≡ reports (made roster).collator (contents_of b)
  -- "each sender gets the same epoch reports in the same order"
  pub same_reports : (sender : ℕ) → names roster sender ≡ true → reports_of sender es ≡ reports_of sender fs
  -- "and the two end states are equal", of the frames fed one by one and of `collate`
  pub same_state : after (made roster).collator (contents_of a) ≡ after (made roster).collator (contents_of b)
  pub same_collated : (collated a roster).collator ≡ (collated b roster).collator

pub record Demand3 : Type 0 where
  -- "If for every listed sender the two hold the same frames in the same order": `SameFrames`
  pub unmixed : (roster : List ℕ) → (made roster).number ≡ 0 → (a b : List ℕ) (es fs : List Report)
      → Epochs roster [] (contents_of a) es → Epochs roster [] (contents_of b) fs → SameFrames roster (contents_of a) (contents_of b) → Unmixed roster a b es fs
  -- "however frames of different senders are shuffled": where two of them change places, every sender's frames are the same
  pub shuffled : (roster : List ℕ) (xs : List Content) (x y : Content) (ys : List Content) → (x.sender ≡ y.sender → ⊥)
      → SameFrames roster (xs ++ x ∷ y ∷ ys) (xs ++ y ∷ x ∷ ys)
  -- "and whatever noise": a capture of frames with bytes between that begin no frame holds just these frames
  pub noise : (xs : List Piece) → AllFit xs → contents_of (capture_of xs) ≡ sent_in xs
  -- "or unlisted senders stand between": a frame of an unlisted sender is nobody's
  pub unlisted : (roster : List ℕ) (xs : List Content) (x : Content) (ys : List Content) → names roster x.sender ≡ false → SameFrames roster (xs ++ x ∷ ys) (xs ++ ys)
