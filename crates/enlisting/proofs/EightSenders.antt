-- The first eight different senders are senders of OBS frames, and all of them where there are fewer; each has its seat, so a collator takes
-- them, unless there are none.
use mathlib.Core.Path.{◌≡◌, refl, sym, ap, ◌∙◌}
use mathlib.Core.Bool.{Bool, true, false, cond, true≢false, false≢true}
use mathlib.Core.List.{List, [], ◌∷◌, ◌++◌}
use mathlib.Core.Logic.{◌↔◌, ◌⊎◌, inl, inr}
use Prim.Native.Nat.{ℕ, zero, suc, ◌≤◌, ◌<◌}
use native.Mathlib.Omega.{arith}
use lib.Dec.{eqb}
use lib.ListN.{length, take, length-take}
use lib.Seq.{take_all}
use borrow.Author.Tests.{ne_eqb, eqb-true, eqb-false}
use Rattle.frames.specs.Frame.{Content}
use Rattle.epochs.specs.Search.{names, repeats}
use Rattle.epochs.specs.Collator.{made}
use Rattle.epochs.specs.Epoch.{Seated}
use Rattle.epochs.specs.Fed.{Made}
use Rattle.epochs.proofs.Searches.{names_on, names_first, names_later, names_not, once_on}
use Rattle.epochs.proofs.Making.{made_whole}
use Rattle.enlisting.specs.FirstEight.{obs_senders, different, first_eight}
use Rattle.enlisting.proofs.Joining.{joined, by_joining, few_grown, grown_keeps}

-- ---- they are senders of OBS frames, and all of them where there is room

-- who is named behind a sender in one list, and so in another
behind : (y : ℕ) (xs ys : List ℕ) (x : ℕ) → names (y ∷ xs) x ≡ true → (names xs x ≡ true → names ys x ≡ true) → names (y ∷ ys) x ≡ true
behind y xs ys x e rest = names_on y ys x ∙ by (eqb y x) (sym (names_on y xs x) ∙ e)
  where
    by : (t : Bool) → cond t true (names xs x) ≡ true → cond t true (names ys x) ≡ true
    by true e = refl
    by false e = rest e

unnamed_more : (xs : List ℕ) (y x : ℕ) → names xs x ≡ false → (y ≡ x → ⊥) → names (xs ++ y ∷ []) x ≡ false
unnamed_more [] y x n other = names_on y [] x ∙ (rw (ne_eqb y x other) n)
unnamed_more (z ∷ xs) y x n other =
    let apart = names_not z xs x n in
    names_on z (xs ++ y ∷ []) x ∙ (rw (ne_eqb z x apart.0) (unnamed_more xs y x apart.1 other))

named_taken : (n : ℕ) (xs : List ℕ) (x : ℕ) → names (take n xs) x ≡ true → names xs x ≡ true
unfolding names
named_taken zero xs x e = absurd (false≢true e)
named_taken (suc n) [] x e = e
named_taken (suc n) (y ∷ xs) x e = behind y (take n xs) xs x e (λ e. named_taken n xs x e)

module _ (x : ℕ) where
  different_named : (xs before : List ℕ) → names (different before xs) x ≡ true → names xs x ≡ true
  unfolding different
  different_named [] before e = e
  different_named (y ∷ xs) before e = by (names before y) e (λ b e. different_named xs b e)
    where
      by : (old : Bool) → names (cond old (different before xs) (y ∷ different (before ++ y ∷ []) xs)) x ≡ true
          → ((b : List ℕ) → names (different b xs) x ≡ true → names xs x ≡ true) → names (y ∷ xs) x ≡ true
      by true e rest = names_later y xs x (rest before e)
      by false e rest = behind y (different (before ++ y ∷ []) xs) xs x e (λ e. rest (before ++ y ∷ []) e)

  named_different : (xs before : List ℕ) → names before x ≡ false → names xs x ≡ true → names (different before xs) x ≡ true
  unfolding different
  named_different [] before n e = e
  named_different (y ∷ xs) before n e = by (names before y) (eqb y x) refl refl (sym (names_on y xs x) ∙ e) (λ b n e. named_different xs b n e)
    where
      by : (old is : Bool) → names before y ≡ old → eqb y x ≡ is → cond is true (names xs x) ≡ true
          → ((b : List ℕ) → names b x ≡ false → names xs x ≡ true → names (different b xs) x ≡ true)
          → names (cond old (different before xs) (y ∷ different (before ++ y ∷ []) xs)) x ≡ true
      by true true o q e rest = absurd (true≢false (sym o ∙ ap (names before) (eqb-true y x q) ∙ n))
      by true false o q e rest = rest before n e
      by false true o q e rest = let all = y ∷ different (before ++ y ∷ []) xs in ap (names all) (sym (eqb-true y x q)) ∙ names_first y (different (before ++ y ∷ []) xs)
      by false false o q e rest = names_later y (different (before ++ y ∷ []) xs) x (rest (before ++ y ∷ []) (unnamed_more before y x n (eqb-false y x q)) e)

module _ (xs : List Content) (x : ℕ) where
  pub first_sent : names (first_eight xs) x ≡ true → names (obs_senders xs) x ≡ true
  first_sent e = different_named x (obs_senders xs) [] (named_taken 8 (different [] (obs_senders xs)) x e)

  pub first_all : length (first_eight xs) < 8 → names (obs_senders xs) x ≡ true → names (first_eight xs) x ≡ true
  unfolding names
  first_all room e =
      let all = different [] (obs_senders xs) in
      let few : length all ≤ 8 = omega (arith, length-take 8 all) in
      ap (λ (r : List ℕ). names r x) (take_all 8 all few) ∙ named_different x (obs_senders xs) [] refl e

-- ---- each has its seat

once_more : (xs : List ℕ) (x : ℕ) → repeats xs ≡ false → names xs x ≡ false → repeats (xs ++ x ∷ []) ≡ false
unfolding repeats names
once_more [] x once n = refl
once_more (y ∷ xs) x once n =
    let first = once_on y xs once in
    let apart = names_not y xs x n in
    rw (unnamed_more xs x y first.0 (λ e. apart.0 (sym e))) (once_more xs x first.1 apart.1)

once_joined : (roster : List ℕ) (x : ℕ) → repeats roster ≡ false → repeats (joined roster x) ≡ false
once_joined roster x once = by_joining roster x (λ (r : List ℕ). repeats r ≡ false) (λ n. once) (λ n h. once) (λ n h. once_more roster x once n)

module _ (xs : List Content) where
  pub first_seated : Seated (first_eight xs)
  unfolding repeats
  first_seated = record { few = few_grown [] xs; once = grown_keeps (λ (r : List ℕ). repeats r ≡ false) once_joined xs [] (omega arith) refl }

  -- so a collator takes them, unless there are none
  pub first_accepted : (first_eight xs ≡ []) ⊎ ((made (first_eight xs)).number ≡ 0)
  first_accepted = by (first_eight xs) refl
    where
      by : (r : List ℕ) → first_eight xs ≡ r → (first_eight xs ≡ []) ⊎ ((made (first_eight xs)).number ≡ 0)
      by [] e = inl e
      by (y ∷ ys) e = inr (ap (λ (m : Made). m.number) (made_whole (first_eight xs) (omega (arith, ap length e)) first_seated))

  -- none exactly where no frame is OBS
  pub first_empty : (first_eight xs ≡ []) ↔ (obs_senders xs ≡ [])
  unfolding names different
  first_empty = (by (obs_senders xs) refl, λ e. ap (λ (senders : List ℕ). take 8 (different [] senders)) e)
    where
      by : (senders : List ℕ) → obs_senders xs ≡ senders → first_eight xs ≡ [] → obs_senders xs ≡ []
      by [] q e = q
      by (y ∷ ys) q e =
          let some : y ∷ take 7 (different (y ∷ []) ys) ≡ [] = sym (ap (λ (senders : List ℕ). take 8 (different [] senders)) q) ∙ e in
          let z : ◌≡◌ {A = ℕ} 0 1 = cc in
          absurd (omega arith)
