-- Going forward to the first hit is the library's `position`.
use Rattle.std.proofs.Common.{◌≡◌, ℕ, suc, ◌+◌, ◌<◌, ◌≤◌, Bool, true, false, not, cond, ltb, Option, Some, None, List, [], ◌∷◌, length, take, get_or, sym, refl, ap, ap₂, ◌∙◌, add-zero, zero-add, arith, le-leb, lt-ltb}
use borrow.Author.Tests.{lt-leb}
use Rattle.std.specs.List.{position, position_or_len}
use Rattle.refusals.specs.Refusals.{given, refused}
use Rattle.index.specs.Index.{Hit, at, nowhere, hits, seek, first_in}
use Rattle.index.specs.declared.entry.Entry.{Entry}
use Rattle.index.specs.declared.index.Index.{Index}
use Rattle.index.proofs.Counts.{below_suc}

module _ (hit : Entry → Bool) (d : Entry) where
  abbrev first : List Entry → ℕ
  first es = position_or_len hit es

  -- from place i on
  seeks : (es : List Entry) (i : ℕ) → seek hit i es ≡ cond (ltb (first es) (length es)) (at (i + first es) (get_or es (first es) d)) nowhere
  unfolding seek
  seeks [] i = refl
  seeks (e ∷ es) i = by (seeks es (suc i)) (hit e)
    where
      by : seek hit (suc i) es ≡ cond (ltb (first es) (length es)) (at (suc i + first es) (get_or es (first es) d)) nowhere
          → (b : Bool) → cond b (at i e) (seek hit (suc i) es)
          ≡ cond (ltb (cond (not b) (1 + first es) 0) (suc (length es)))
          (at (i + cond (not b) (1 + first es) 0) (get_or (e ∷ es) (cond (not b) (1 + first es) 0) d)) nowhere
      by rest true =
          ap (λ (n : ℕ). at n e) (sym (add-zero i))
          ∙ ap (λ (t : Bool). cond t (at (i + 0) e) nowhere) (sym (lt-ltb 0 (suc (length es)) (omega arith)))
      by rest false =
          let one : suc (first es) ≡ 1 + first es = omega arith in
          let on : suc i + first es ≡ i + suc (first es) = omega arith in
          rest
          ∙ ap₂ (λ (t : Bool) (n : ℕ). cond t (at n (get_or es (first es) d)) nowhere) (below_suc (first es) (length es)) on
          ∙ ap (λ (n : ℕ). cond (ltb n (suc (length es))) (at (i + n) (get_or (e ∷ es) n d)) nowhere) one

  -- what is at a place, if any
  abbrev pub hit_at : List Entry → Option ℕ → Hit
  hit_at es None = nowhere
  hit_at es (Some n) = at n (get_or es n d)

  pub seek_position : (es : List Entry) → seek hit 0 es ≡ hit_at es (position hit es)
  seek_position es =
      seeks es 0 ∙ ap (λ (n : ℕ). cond (ltb (first es) (length es)) (at n (get_or es (first es) d)) nowhere) (zero-add (first es)) ∙ by (ltb (first es) (length es))
    where
      by : (t : Bool) → cond t (at (first es) (get_or es (first es) d)) nowhere ≡ hit_at es (cond t (Some (first es)) None)
      by true = refl
      by false = refl

module _ (x : Index) (list : List Entry) (kind sender offset : ℕ) where
  pub too_short : length list < x.held → refused 51 ≡ first_in x list kind sender offset
  unfolding first_in
  too_short h = rw (lt-leb x.held (length list) h)

  pub as_position : (d : Entry) {p : Option ℕ} → x.held ≤ length list → p ≡ position (hits kind sender offset) (take x.held list)
      → given (hit_at (hits kind sender offset) d (take x.held list) p) ≡ first_in x list kind sender offset
  unfolding first_in
  as_position d h e =
      ap (λ (o : Option ℕ). given (hit_at (hits kind sender offset) d (take x.held list) o)) e
      ∙ ap given (sym (seek_position (hits kind sender offset) d (take x.held list)))
      ∙ rw (le-leb x.held (length list) h)
