-- A look forward through the entries of some frames comes to the first frame that is asked for, or none of them is.
use mathlib.Core.Path.{◌≡◌, refl, sym, ap, ap₂, ◌∙◌, subst}
use mathlib.Core.Bool.{Bool, true, false, true≢false, ◌&&◌, cond}
use mathlib.Core.List.{List, [], ◌∷◌, ◌++◌, map}
use Prim.Native.Nat.{ℕ, suc, ◌+◌}
use native.Mathlib.Nat.{add-zero, zero-add, add-suc, suc-add}
use lib.Dec.{eqb, leb}
use lib.ListN.{take}
use borrow.Author.Tests.{eqb-true, leb-true, eq-eqb, le-leb}
use Rattle.frames.specs.declared.step.Frame.{Frame}
use Rattle.index.specs.Index.{entry_of, hits, Hit, at, nowhere, seek}
use Rattle.index.specs.declared.entry.Entry.{Entry}
use Rattle.index.specs.declared.index.Index.{Index}
use Rattle.indexed.specs.Growing.{open_frames, IndexOf}
use Rattle.indexed.specs.Asking.{Such, NoneOf, FirstOf}

module _ (kind sender offset : ℕ) where
  abbrev hit : Entry → Bool
  hit = hits kind sender offset

  abbrev Wanted : Frame → Type 0
  Wanted = Such kind sender offset

  -- ---- a frame's entry is a hit exactly when the frame is asked for

  such : (f : Frame) → hit (entry_of f) ≡ true → Wanted f
  such f = by (eqb f.kind kind) refl (eqb f.sender sender) refl (leb offset f.at) refl
    where
      by : (t : Bool) → eqb f.kind kind ≡ t → (u : Bool) → eqb f.sender sender ≡ u → (v : Bool) → leb offset f.at ≡ v
          → (t && (u && v)) ≡ true → Wanted f
      by true p true q true r e = (eqb-true f.kind kind p, eqb-true f.sender sender q, leb-true offset f.at r)
      by true p true q false r e = absurd (true≢false (sym e))
      by true p false q v r e = absurd (true≢false (sym e))
      by false p u q v r e = absurd (true≢false (sym e))

  such_hit : (f : Frame) → Wanted f → hit (entry_of f) ≡ true
  such_hit f (p, q, r) =
      ap₂ (λ (t u : Bool). t && (u && leb offset f.at)) (eq-eqb f.kind kind p) (eq-eqb f.sender sender q) ∙ le-leb offset f.at r

  not_such : (f : Frame) → hit (entry_of f) ≡ false → Wanted f → ⊥
  not_such f e w = true≢false (sym (such_hit f w) ∙ e)

  -- ---- what a look tells of the frames

  -- n stood before them
  abbrev Told : ℕ → List Frame → Hit → Type 0
  Told n fs (at i e) = (j : ℕ) × (f : Frame) × (i ≡ n + j) × FirstOf Wanted fs j f × (e ≡ entry_of f)
  Told n fs nowhere = NoneOf Wanted fs

  abbrev one_later : {fs : List Frame} {j : ℕ} {g : Frame} (f : Frame) → (Wanted f → ⊥) → FirstOf Wanted fs j g → FirstOf Wanted (f ∷ fs) (suc j) g
  one_later f miss first = record {
    before = f ∷ first.before;
    after = first.after;
    all = ap (λ (l : List Frame). f ∷ l) first.all;
    place = ap suc first.place;
    such = first.such;
    none_before = (miss, first.none_before);
  }

  -- past a frame that is not asked for
  later : (n : ℕ) (f : Frame) (fs : List Frame) → (Wanted f → ⊥) → (h : Hit) → Told (suc n) fs h → Told n (f ∷ fs) h
  later n f fs miss (at i e) (j, g, p, first, q) = (suc j, g, p ∙ suc-add n j ∙ sym (add-suc n j), one_later f miss first, q)
  later n f fs miss nowhere none = (miss, none)

  looked : (n : ℕ) (fs : List Frame) → Told n fs (seek hit n (map entry_of fs))
  unfolding seek
  looked n [] = tt
  looked n (f ∷ fs) = by (hit (entry_of f)) refl (looked (suc n) fs)
    where
      by : (t : Bool) → hit (entry_of f) ≡ t → Told (suc n) fs (seek hit (suc n) (map entry_of fs))
          → Told n (f ∷ fs) (cond t (at n (entry_of f)) (seek hit (suc n) (map entry_of fs)))
      by true e rest = (0, f, sym (add-zero n), record { before = []; after = fs; all = refl; place = refl; such = such f e; none_before = tt }, refl)
      by false e rest = later n f fs (not_such f e) (seek hit (suc n) (map entry_of fs)) rest

  -- the two exclude each other
  pub not_both : (fs : List Frame) (i : ℕ) (f : Frame) → FirstOf Wanted fs i f → NoneOf Wanted fs → ⊥
  not_both fs i f first none = among first.before (subst (NoneOf Wanted) first.all none)
    where
      among : (bs : List Frame) → NoneOf Wanted (bs ++ f ∷ first.after) → ⊥
      among [] (miss, _) = miss first.such
      among (b ∷ bs) (_, rest) = among bs rest

  -- ---- through the entries of the index of t, as last left

  module _ (t : List ℕ) (x : Index) (list es : List Entry) (of : IndexOf t x es) (left : take x.held list ≡ es) where
    told : {h : Hit} → seek hit 0 (take x.held list) ≡ h → Told 0 (open_frames t) h
    told e =
        subst (Told 0 (open_frames t)) (ap (seek hit 0) (sym (left ∙ of.entries)) ∙ e) (looked 0 (open_frames t))

    pub first_told : (i : ℕ) (e : Entry) → seek hit 0 (take x.held list) ≡ at i e → (f : Frame) × FirstOf Wanted (open_frames t) i f × (e ≡ entry_of f)
    first_told i e q =
        let (j, f, p, first, r) = told q in
        (f, subst (λ (n : ℕ). FirstOf Wanted (open_frames t) n f) (sym (p ∙ zero-add j)) first, r)

    pub none_told : seek hit 0 (take x.held list) ≡ nowhere → NoneOf Wanted (open_frames t)
    none_told q = told q
