-- The text of a listing is the lines of document 01's words, then the totals: an `E` line stands exactly after a frame that ends an epoch. The
-- lines are read off the collator's law of what each frame comes to.
use mathlib.Core.Path.{◌≡◌, refl, sym, ap, ap₂, ◌∙◌, subst}
use mathlib.Core.Bool.{false≢true}
use mathlib.Core.List.{List, [], ◌∷◌, ◌++◌, append_cancel_right, flat_map, map}
use mathlib.Core.Logic.{◌↔◌}
use Prim.Native.Nat.{ℕ}
use Rattle.frames.specs.Frame.{Content}
use Rattle.frames.specs.Reading.{closed_steps, frames_of}
use Rattle.frames.specs.declared.step.Frame.{Frame}
use Rattle.epochs.specs.Search.{names}
use Rattle.epochs.specs.Epoch.{content_in, contents_of, after, CameTo}
use Rattle.epochs.specs.Happened.{Happened}
use Rattle.epochs.specs.Happened as H
use Rattle.epochs.proofs.Feeding.{never_refused, never_taken}
use Rattle.epochs.proofs.Collations.{came_to_lem}
use Rattle.enlisting.specs.FirstEight.{obs_senders_in, roster_in}
use Rattle.enlisting.proofs.EightSenders.{first_seated, first_empty}
use Rattle.listing.specs.Listing.{frame_line, totals_line, frames_text, outcomes_in, text_of}
use Rattle.lines.specs.Lines.{epoch_part}
use Rattle.listing.specs.Words.{Lines, none, ending, passing}

module _ {s roster : List ℕ} where
  lines_in : (past : List Content) (fs : List Frame) (hs : List Happened) → CameTo roster past (map (content_in s) fs) hs → Lines s roster past fs (frames_text s fs hs)
  unfolding frames_text
  lines_in past (f ∷ fs) [] c = elim c [ ]
  lines_in past [] hs c = none
  lines_in past (f ∷ fs) (H.Refused n ∷ hs) c = passing (λ e w. never_refused ((c.0 e).1 w)) (lines_in (past ++ content_in s f ∷ []) fs hs c.1)
  lines_in past (f ∷ fs) (H.Taken ∷ hs) c = passing (λ e w. never_taken ((c.0 e).1 w)) (lines_in (past ++ content_in s f ∷ []) fs hs c.1)
  lines_in past (f ∷ fs) (H.Epoch e ∷ hs) c = ending ((c.0 e).0 refl) (lines_in (past ++ content_in s f ∷ []) fs hs c.1)

  only_lines : {past : List Content} {fs : List Frame} {text : List ℕ} → Lines s roster past fs text → (hs : List Happened) → CameTo roster past (map (content_in s) fs) hs
      → text ≡ frames_text s fs hs
  unfolding frames_text
  only_lines (ending {past = past} {f = f} {fs = fs} {e = e} {text = text} w rest) [] c = elim c [ ]
  only_lines (passing {past = past} {f = f} {fs = fs} {text = text} never rest) [] c = elim c [ ]
  only_lines none hs c = refl
  only_lines (ending {f = f} {e = e} w rest) (h ∷ hs) c = ap₂ (λ (h : Happened) (t : List ℕ). frame_line s f ++ (epoch_part h ++ t)) (sym ((c.0 e).1 w)) (only_lines rest hs c.1)
  only_lines (passing {f = f} {text = text} never rest) (h ∷ hs) c =
      ap (λ (t : List ℕ). frame_line s f ++ t) (by h refl ∙ ap (λ (t : List ℕ). epoch_part h ++ t) (only_lines rest hs c.1))
    where
      by : (k : Happened) → h ≡ k → text ≡ epoch_part k ++ text
      by (H.Refused n) q = refl
      by H.Taken q = refl
      by (H.Epoch e) q = absurd (never e ((c.0 e).0 q))

  -- where nobody is listed there are only the frames' lines
  lines_alone : {past : List Content} {fs : List Frame} {text : List ℕ} → roster ≡ [] → Lines s roster past fs text → text ≡ flat_map (frame_line s) fs
  unfolding flat_map names
  lines_alone e none = refl
  lines_alone e (ending {f = f} w rest) = absurd (false≢true (ap (λ (r : List ℕ). names r f.sender) (sym e) ∙ w.listed))
  lines_alone e (passing {f = f} never rest) = ap (λ (t : List ℕ). frame_line s f ++ t) (lines_alone e rest)

module _ (s : List ℕ) where
  abbrev frames : List Frame
  frames = frames_of (closed_steps s)

  -- what the frames of a capture came to
  came : CameTo (roster_in s) [] (map (content_in s) frames) (outcomes_in s)
  unfolding after contents_of
  came = came_to_lem (roster_in s) (first_seated (contents_of s)) [] (contents_of s)

  -- the text is these lines, and no other lines will do
  pub text_lines : (text : List ℕ) → Lines s (roster_in s) [] frames text ↔ (text_of s ≡ text ++ totals_line s)
  text_lines text = (
    λ l. ap (λ (t : List ℕ). t ++ totals_line s) (sym (only_lines l (outcomes_in s) came)),
    λ e. subst (Lines s (roster_in s) [] frames) (append_cancel_right (frames_text s frames (outcomes_in s)) text (totals_line s) e) (lines_in [] frames (outcomes_in s) came),
  )

  pub text_alone : obs_senders_in s ≡ [] → text_of s ≡ flat_map (frame_line s) frames ++ totals_line s
  text_alone e = ap (λ (t : List ℕ). t ++ totals_line s) (lines_alone ((first_empty (contents_of s)).1 e) (lines_in [] frames (outcomes_in s) came))
