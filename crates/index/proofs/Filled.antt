-- Filling comes to what extending promises: frame by frame those that are left, and where reading stops.
use Rattle.std.proofs.Common.{◌≡◌, ℕ, suc, ◌+◌, ◌^◌, ◌<◌, ◌≤◌, ◌⊎◌, inl, inr, List, [], ◌∷◌, ◌++◌, map, length, take, drop, set, sym, refl, ap, ◌∙◌, ap₂, append_assoc, append-nil, add-zero, add-suc, suc-add, add-one, arith, length-set, take-append-drop, take-suc-set, drop-set-lt}
use Rattle.frames.specs.Cursors.{next_of}
use Rattle.frames.specs.declared.step.Frame.{Frame}
use Rattle.frames.specs.declared.cursor.Cursor.{Cursor}
use Rattle.frames.specs.declared.cursor.Next as Next
use Rattle.index.specs.Index.{entry_of, frames_from, stop_from, entries_from, counted, counted_all, extended, written}
use Rattle.index.specs.Inner.{cursor_at}
use Rattle.index.specs.declared.entry.Entry.{Entry}
use Rattle.index.specs.declared.index.Index.{Index}
use Rattle.index.proofs.Onward.{told_frame, told_end, told_needs}

-- ---- lists

-- stored at a place, and the rest after it
written_on : (at : ℕ) (e : Entry) (new list : List Entry) → at < length list → written (at + 1) new (set list at e) ≡ written at (e ∷ new) list
written_on at e new list h =
    ap (λ (n : ℕ). written n new (set list at e)) (add-one at)
    ∙ ap₂ (λ (l r : List Entry). l ++ new ++ r) (take-suc-set list at e h) (drop-set-lt (suc at + length new) list at e (omega arith))
    ∙ ap (λ (l : List Entry). l ++ drop (suc at + length new) list) (append_assoc (take at list) (e ∷ []) new)
    ∙ ap (λ (n : ℕ). take at list ++ (e ∷ new) ++ drop n list) (suc-add at (length new) ∙ sym (add-suc at (length new)))

pub written_none : (at : ℕ) (list : List Entry) → written at [] list ≡ list
written_none at list = ap₂ (λ (l : List Entry) (n : ℕ). l ++ drop n list) (append-nil (take at list)) (add-zero at) ∙ take-append-drop at list

-- ---- filling, from an index and its list on

-- here it still comes to the same index and list, for which there is room
pub record Filling (s : List ℕ) (x : Index) (list : List Entry) (y : Index) (now : List Entry) : Type 0 where
  pub inside : y.reached ≤ length s
  pub room : y.held + length (frames_from s y.reached) ≤ length now
  pub long : length now ≡ length list
  pub index : extended s y ≡ extended s x
  pub entries : written y.held (entries_from s y.reached) now ≡ written x.held (entries_from s x.reached) list

-- the index with one frame more
abbrev pub onward : Index → Frame → ℕ → Index
onward y f to = record { reached = to; held = y.held + 1; counts = counted y.counts f.kind }

-- the index once fs are read on to a position
abbrev gone : Index → ℕ → List Frame → Index
gone x to fs = record { reached = to; held = x.held + length fs; counts = counted_all x.counts fs }

module _ (s : List ℕ) (small : length s < 2 ^ 64) where
  extended_gone : (x : Index) {to : ℕ} {fs : List Frame} → stop_from s x.reached ≡ to → frames_from s x.reached ≡ fs → extended s x ≡ gone x to fs
  unfolding extended
  extended_gone x stop frames = ap₂ (gone x) stop frames

  extended_onward : (y : Index) (f : Frame) (to : ℕ) → frames_from s y.reached ≡ f ∷ frames_from s to → stop_from s y.reached ≡ stop_from s to
      → extended s (onward y f to) ≡ extended s y
  unfolding counted_all
  extended_onward y f to one stop =
      extended_gone (onward y f to) refl refl
      ∙ ap (λ (n : ℕ). record { reached = stop_from s to; held = n; counts = counted_all (counted y.counts f.kind) (frames_from s to) }) (omega arith)
      ∙ sym (extended_gone y stop one)

  module _ (x : Index) (list : List Entry) where
    pub begins : x.reached ≤ length s → x.held + length (frames_from s x.reached) ≤ length list → Filling s x list x list
    begins inside room = record { inside = inside; room = room; long = refl; index = refl; entries = refl }

    module _ (y : Index) (now : List Entry) (w : Filling s x list y now) where
      module _ {f : Frame} {c : Cursor} (e : next_of s (cursor_at y.reached) ≡ Next.TheVariants.Frame f c) where
        abbrev t : (frames_from s y.reached ≡ f ∷ frames_from s c.at) × (stop_from s y.reached ≡ stop_from s c.at) × (c.at ≤ length s)
        t = told_frame s small y.reached w.inside e

        -- there is a place for the frame
        pub placed : y.held < length now
        placed = omega (arith, w.room, ap length t.0)

        -- and fewer are left
        pub fewer : length (frames_from s c.at) < length (frames_from s y.reached)
        fewer = omega (arith, ap length t.0)

        pub goes_on : Filling s x list (onward y f c.at) (set now y.held (entry_of f))
        goes_on = record {
          inside = t.2;
          room = omega (arith, w.room, ap length t.0, length-set now y.held (entry_of f));
          long = length-set now y.held (entry_of f) ∙ w.long;
          index = extended_onward y f c.at t.0 t.1 ∙ w.index;
          entries =
              written_on y.held (entry_of f) (entries_from s c.at) now placed
              ∙ ap (λ (fs : List Frame). written y.held (map entry_of fs) now) (sym t.0) ∙ w.entries;
        }

      abbrev Stopped : ℕ → Type 0
      Stopped to =
          (record { reached = to; held = y.held; counts = y.counts } ≡ extended s x) × (now ≡ written x.held (entries_from s x.reached) list)

      none_left : (to : ℕ) → (frames_from s y.reached ≡ []) × (stop_from s y.reached ≡ to) → Stopped to
      unfolding counted_all
      none_left to (none, stop) = (
        ap (λ (h : ℕ). record { reached = to; held = h; counts = y.counts }) (sym (add-zero y.held)) ∙ sym (extended_gone y stop none) ∙ w.index,
        sym (ap (λ (fs : List Frame). written y.held (map entry_of fs) now) none ∙ written_none y.held now) ∙ w.entries,
      )

      -- reading stops
      pub stops_at : {n : Next.Next} {c : Cursor} → next_of s (cursor_at y.reached) ≡ n
          → (n ≡ Next.TheVariants.End c) ⊎ ((k : ℕ) × (n ≡ Next.TheVariants.Needs k c)) → Stopped c.at
      stops_at {c = c} e (inl q) = none_left c.at (told_end s small y.reached w.inside (e ∙ q))
      stops_at {c = c} e (inr q) = none_left c.at (told_needs s small y.reached w.inside (e ∙ q.1))
