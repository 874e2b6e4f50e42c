-- The counts: one place for each type that has a reading, each place with the number of frames of its type.
use mathlib.Core.Path.{◌≡◌, refl, sym, ap, ap₂, ◌∙◌, subst}
use mathlib.Core.Bool.{Bool, true, false, true≢false, not, ◌&&◌, cond}
use mathlib.Core.List.{List, [], ◌∷◌, map}
use mathlib.Core.Logic.{◌⊎◌, inl, inr}
use Prim.Native.Nat.{ℕ, suc, ◌+◌, ◌^◌, ◌≤◌, ◌<◌}
use native.Mathlib.Nat.{add-zero, add_assoc, mod-eq_of_lt}
use native.Mathlib.Omega.{arith}
use lib.Dec.{eqb}
use lib.ListN.{length, get_or, set, replicate}
use borrow.Author.Tests.{eqb-true, eqb-false, ltb-true, lt-ltb}
use Rattle.frames.specs.Cursors.{plus}
use Rattle.frames.specs.declared.step.Frame.{Frame}
use Rattle.payloads.specs.Payloads.{known_for}
use Rattle.payloads.specs.Places.{message_count, kinds, place_in, place_for}
use Rattle.index.specs.Index.{counted, counted_all}
use Rattle.index.proofs.Counts.{known}
use Rattle.indexed.specs.Growing.{number, counted_kinds}
use Rattle.indexed.specs.Asking.{Among}

-- ---- lists of types without repeats

-- the places are those of 003's numbers
pub own_kinds : kinds ≡ counted_kinds
own_kinds = refl

absent : ℕ → List ℕ → Bool
absent kind [] = true
absent kind (k ∷ ks) = not (eqb kind k) && absent kind ks

once : List ℕ → Bool
once [] = true
once (k ∷ ks) = absent k ks && once ks

-- the two are the same at each type
same_map : (f g : ℕ → ℕ) (ks : List ℕ) → ((k : ℕ) → f k ≡ g k) → map f ks ≡ map g ks
same_map f g ks h = λ i. map (λ k. h k i) ks

-- ---- one frame more

module _ (kind : ℕ) where
  -- what it adds to a type's count
  abbrev one : ℕ → ℕ
  one k = cond (eqb kind k) 1 0

  none_more : (g : ℕ → ℕ) (ks : List ℕ) → absent kind ks ≡ true → map g ks ≡ map (λ k. g k + one k) ks
  unfolding absent
  none_more g [] e = refl
  none_more g (k ∷ ks) e = by (eqb kind k) e (none_more g ks)
    where
      by : (t : Bool) → (not t && absent kind ks) ≡ true → (absent kind ks ≡ true → map g ks ≡ map (λ k. g k + one k) ks)
          → map g (k ∷ ks) ≡ (g k + cond t 1 0) ∷ map (λ k. g k + one k) ks
      by true e rest = absurd (true≢false (sym e))
      by false e rest = ap₂ (λ (n : ℕ) (ns : List ℕ). n ∷ ns) (sym (add-zero (g k))) (rest e)

  module _ (g : ℕ → ℕ) (small : (k : ℕ) → g k + 1 < 2 ^ 64) where
    abbrev OneMore : List ℕ → ℕ → Type 0
    OneMore ks i = set (map g ks) i (plus (get_or (map g ks) i 0) 1) ≡ map (λ k. g k + one k) ks

    -- the one place of its type, where it has one
    one_more : (ks : List ℕ) → once ks ≡ true → OneMore ks (place_in ks kind)
    unfolding once place_in
    one_more [] e = refl
    one_more (k ∷ ks) e = by (eqb kind k) refl (absent k ks) refl e (one_more ks)
      where
        by : (t : Bool) → eqb kind k ≡ t → (u : Bool) → absent k ks ≡ u → (u && once ks) ≡ true → (once ks ≡ true → OneMore ks (place_in ks kind))
            → set (map g (k ∷ ks)) (cond t 0 (suc (place_in ks kind))) (plus (get_or (map g (k ∷ ks)) (cond t 0 (suc (place_in ks kind))) 0) 1)
            ≡ (g k + cond t 1 0) ∷ map (λ k. g k + one k) ks
        by t q false a e rest = absurd (true≢false (sym e))
        by true q true a e rest =
            ap₂ (λ (n : ℕ) (ns : List ℕ). n ∷ ns) (mod-eq_of_lt (small k))
            (none_more g ks (subst (λ (j : ℕ). absent j ks ≡ true) (sym (eqb-true kind k q)) a))
        by false q true a e rest = ap₂ (λ (n : ℕ) (ns : List ℕ). n ∷ ns) (sym (add-zero (g k))) (rest e)

counted_more : (g : ℕ → ℕ) (kind : ℕ) → ((k : ℕ) → g k + 1 < 2 ^ 64) → counted (map g counted_kinds) kind ≡ map (λ k. g k + one kind k) counted_kinds
unfolding counted once absent
counted_more g kind small = one_more kind g small counted_kinds refl

-- ---- all of them

one_most : (t : Bool) → cond t 1 0 ≤ 1
one_most true = omega arith
one_most false = omega arith

tallied : (g : ℕ → ℕ) (fs : List Frame) → ((k : ℕ) → g k + length fs < 2 ^ 64)
    → counted_all (map g counted_kinds) fs ≡ map (λ k. g k + number k fs) counted_kinds
unfolding counted_all number
tallied g [] small = same_map g (λ k. g k + 0) counted_kinds (λ k. sym (add-zero (g k)))
tallied g (f ∷ fs) small =
    ap (λ (counts : List ℕ). counted_all counts fs) (counted_more g f.kind (λ k. omega (arith, small k)))
    ∙ tallied (λ k. g k + one f.kind k) fs (λ k. omega (arith, small k, one_most (eqb f.kind k)))
    ∙ same_map (λ k. g k + one f.kind k + number k fs) (λ k. g k + (one f.kind k + number k fs)) counted_kinds
    (λ k. add_assoc (g k) (one f.kind k) (number k fs))

-- from nothing: of each type the number of its frames
pub tallies : (fs : List Frame) → length fs < 2 ^ 64 → counted_all (replicate message_count 0) fs ≡ map (λ (kind : ℕ). number kind fs) counted_kinds
tallies fs small = tallied (λ k. 0) fs (λ k. omega arith) ∙ same_map (λ k. 0 + number k fs) (λ k. number k fs) counted_kinds (λ k. omega arith)

-- ---- a type's place

module _ (kind : ℕ) where
  among_placed : (ks : List ℕ) → Among kind ks → place_in ks kind < length ks
  unfolding place_in
  among_placed [] a = absurd a
  among_placed (k ∷ ks) a = by (eqb kind k) refl a (among_placed ks)
    where
      by : (t : Bool) → eqb kind k ≡ t → (kind ≡ k) ⊎ Among kind ks → (Among kind ks → place_in ks kind < length ks)
          → cond t 0 (suc (place_in ks kind)) < suc (length ks)
      by true e a rest = omega arith
      by false e (inl q) rest = absurd (eqb-false kind k e q)
      by false e (inr a) rest = omega (arith, rest a)

  placed_among : (ks : List ℕ) → place_in ks kind < length ks → Among kind ks
  unfolding place_in
  placed_among [] h = absurd (omega arith)
  placed_among (k ∷ ks) h = by (eqb kind k) refl h (placed_among ks)
    where
      by : (t : Bool) → eqb kind k ≡ t → cond t 0 (suc (place_in ks kind)) < suc (length ks) → (place_in ks kind < length ks → Among kind ks)
          → (kind ≡ k) ⊎ Among kind ks
      by true e h rest = inl (eqb-true kind k e)
      by false e h rest = inr (rest (omega arith))

  placed_own : (h : ℕ → ℕ) (ks : List ℕ) → Among kind ks → get_or (map h ks) (place_in ks kind) 0 ≡ h kind
  unfolding place_in
  placed_own h [] a = absurd a
  placed_own h (k ∷ ks) a = by (eqb kind k) refl a (placed_own h ks)
    where
      by : (t : Bool) → eqb kind k ≡ t → (kind ≡ k) ⊎ Among kind ks → (Among kind ks → get_or (map h ks) (place_in ks kind) 0 ≡ h kind)
          → get_or (map h (k ∷ ks)) (cond t 0 (suc (place_in ks kind))) 0 ≡ h kind
      by true e a rest = ap h (sym (eqb-true kind k e))
      by false e (inl q) rest = absurd (eqb-false kind k e q)
      by false e (inr a) rest = rest a

  -- a type is among them exactly when it has a reading
  pub among_known : Among kind counted_kinds → known_for kind ≡ true
  among_known a = known kind ∙ lt-ltb (place_for kind) message_count (among_placed counted_kinds a)

  pub known_among : known_for kind ≡ true → Among kind counted_kinds
  known_among e = placed_among counted_kinds (ltb-true (place_for kind) message_count (sym (known kind) ∙ e))

  -- and what stands at its place is its own
  pub place_own : (h : ℕ → ℕ) → Among kind counted_kinds → get_or (map h counted_kinds) (place_for kind) 0 ≡ h kind
  place_own h a = placed_own h counted_kinds a
