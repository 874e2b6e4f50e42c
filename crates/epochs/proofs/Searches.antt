-- The search of a roster: a sender's seat lies in the roster, names it, and is the only one where no sender is named twice.
use mathlib.Core.Path.{◌≡◌, refl, sym, ap, ap₂, ◌∙◌}
use mathlib.Core.Bool.{Bool, true, false, cond, true≢false, false≢true}
use mathlib.Core.List.{List, [], ◌∷◌, ◌++◌, map}
use Prim.Native.Nat.{ℕ, zero, suc, ◌+◌, min, ◌≤◌, ◌<◌}
use native.Mathlib.Nat.{zero-add, min-eq_left}
use native.Mathlib.Omega.{arith}
use native.Mathlib.Numerals.{add-one}
use lib.Dec.{eqb, leb}
use lib.ListN.{length, get_or, set, take, drop, replicate, drop_of_length-le}
use lib.Seq.{drop-cons, take_all}
use borrow.Author.Tests.{eq-eqb, ne_eqb, eqb-true, eqb-false, leb-true, leb-false}
use Rattle.epochs.specs.Search.{seat_of, names, repeats}
use Rattle.std.specs.Prelude.{Option, Some, None, is_some}

-- ---- the search, from a seat on

module _ (xs : List ℕ) (sender i : ℕ) where
  pub seat_none : length xs ≤ i → seat_of (drop i xs) sender i ≡ None
  unfolding seat_of
  seat_none h = rw (drop_of_length-le xs h)

  pub seat_here : i < length xs → get_or xs i 0 ≡ sender → seat_of (drop i xs) sender i ≡ Some i
  unfolding seat_of
  seat_here h e = rw (drop-cons xs i 0 h, eq-eqb (get_or xs i 0) sender e)

  pub seat_on : i < length xs → (get_or xs i 0 ≡ sender → ⊥) → seat_of (drop i xs) sender i ≡ seat_of (drop (i + 1) xs) sender (i + 1)
  unfolding seat_of
  seat_on h e = rw (drop-cons xs i 0 h, ne_eqb (get_or xs i 0) sender e, add-one)

-- whether there is a seat does not depend on where counting begins
any_start : (xs : List ℕ) (sender i j : ℕ) → is_some (seat_of xs sender i) ≡ is_some (seat_of xs sender j)
unfolding seat_of
any_start [] sender i j = refl
any_start (x ∷ xs) sender i j = by (eqb x sender) (any_start xs sender (suc i) (suc j))
  where
    by : (t : Bool) → is_some (seat_of xs sender (suc i)) ≡ is_some (seat_of xs sender (suc j))
        → is_some (cond t (Some i) (seat_of xs sender (suc i))) ≡ is_some (cond t (Some j) (seat_of xs sender (suc j)))
    by true rest = refl
    by false rest = rest

-- ---- who is named

pub names_on : (x : ℕ) (xs : List ℕ) (sender : ℕ) → names (x ∷ xs) sender ≡ cond (eqb x sender) true (names xs sender)
unfolding names seat_of
names_on x xs sender = by (eqb x sender)
  where
    by : (t : Bool) → is_some (cond t (Some 0) (seat_of xs sender 1)) ≡ cond t true (is_some (seat_of xs sender 0))
    by true = refl
    by false = any_start xs sender 1 0

-- who is named later is named
pub later : {u : Bool} (t : Bool) → u ≡ true → cond t true u ≡ true
later true n = refl
later false n = n

neither : {u : Bool} (t : Bool) → cond t true u ≡ false → (t ≡ false) × (u ≡ false)
neither true e = absurd (true≢false e)
neither false e = (refl, e)

module _ (x : ℕ) (xs : List ℕ) where
  pub names_first : names (x ∷ xs) x ≡ true
  names_first = names_on x xs x ∙ (rw (eq-eqb x x refl))

  pub names_later : (sender : ℕ) → names xs sender ≡ true → names (x ∷ xs) sender ≡ true
  names_later sender n = names_on x xs sender ∙ later (eqb x sender) n

  pub names_not : (sender : ℕ) → names (x ∷ xs) sender ≡ false → (x ≡ sender → ⊥) × (names xs sender ≡ false)
  names_not sender n = let e = neither (eqb x sender) (sym (names_on x xs sender) ∙ n) in (eqb-false x sender e.0, e.1)

  pub once_on : repeats (x ∷ xs) ≡ false → (names xs x ≡ false) × (repeats xs ≡ false)
  unfolding repeats
  once_on e = neither (names xs x) e

pub names_at : (xs : List ℕ) (j : ℕ) → j < length xs → names xs (get_or xs j 0) ≡ true
names_at [] j h = absurd (omega arith)
names_at (x ∷ xs) zero h = names_first x xs
names_at (x ∷ xs) (suc j) h = names_later x xs (get_or xs j 0) (names_at xs j (omega arith))

module _ (xs : List ℕ) (i : ℕ) where
  pub repeats_none : length xs ≤ i → repeats (drop i xs) ≡ false
  unfolding repeats
  repeats_none h = rw (drop_of_length-le xs h)

  -- from a seat on the answer is that of its sender, looked for after it, and of the rest
  pub repeats_on : {x : Option ℕ} (t : Bool) → i < length xs → x ≡ seat_of (drop (i + 1) xs) (get_or xs i 0) (i + 1) → is_some x ≡ t
      → repeats (drop i xs) ≡ cond t true (repeats (drop (i + 1) xs))
  unfolding repeats names
  repeats_on t h e q =
      (rw (drop-cons xs i 0 h, add-one, any_start (drop (suc i) xs) (get_or xs i 0) 0 (suc i)))
      ∙ ap (λ (t : Bool). cond t true (repeats (drop (i + 1) xs))) (ap is_some (sym e) ∙ q)

-- zeros behind a roster read as what is past its end
zeros : (n i : ℕ) → ◌≡◌ {A = ℕ} (get_or (replicate n 0) i 0) 0
zeros zero i = refl
zeros (suc n) zero = refl
zeros (suc n) (suc i) = zeros n i

pub with_zeros : (xs : List ℕ) (n i : ℕ) → get_or (xs ++ replicate n 0) i 0 ≡ get_or xs i 0
with_zeros [] n i = zeros n i
with_zeros (x ∷ xs) n zero = refl
with_zeros (x ∷ xs) n (suc i) = with_zeros xs n i

-- ---- the seats that a collator keeps: the roster's, then zeros

-- of eight seats no more than eight are taken
pub take-eight : (n : ℕ) (xs : List ℕ) → length xs ≡ 8 → take (min n 8) xs ≡ take n xs
take-eight n xs size = by (leb n 8) refl
  where
    by : (t : Bool) → leb n 8 ≡ t → take (min n 8) xs ≡ take n xs
    by true e = ap (λ (k : ℕ). take k xs) (min-eq_left (leb-true n 8 e))
    by false e =
        let h = leb-false n 8 e in
        take_all (min n 8) xs (omega arith) ∙ sym (take_all n xs (omega arith))

none_listed : (n k : ℕ) → n ≤ k → ◌≡◌ {A = List ℕ} (replicate n 0) (take n (replicate k 0))
none_listed zero k h = refl
none_listed (suc n) zero h = absurd (omega arith)
none_listed (suc n) (suc k) h = ap (λ (xs : List ℕ). 0 ∷ xs) (none_listed n k (omega arith))

-- of n seats those that a roster leaves have no sender
pub seats_left : (xs : List ℕ) (n k : ℕ) → length xs ≤ n → n ≤ k → xs ++ drop (length xs) (replicate n 0) ≡ take n (xs ++ replicate k 0)
seats_left [] n k h g = none_listed n k g
seats_left (x ∷ xs) zero k h g = absurd (omega arith)
seats_left (x ∷ xs) (suc n) k h g = ap (λ (ys : List ℕ). x ∷ ys) (seats_left xs n k (omega arith) (omega arith))

-- ---- a seat that was found

pub same_seat : {i j : ℕ} → Some i ≡ Some j → i ≡ j
same_seat e = cc

-- it lies in the roster
pub seat_below : (xs : List ℕ) (sender i : ℕ) {j : ℕ} → seat_of xs sender i ≡ Some j → (i ≤ j) × (j < i + length xs)
unfolding seat_of
seat_below [] sender i e = let z : ◌≡◌ {A = ℕ} 0 1 = cc in absurd (omega arith)
seat_below (x ∷ xs) sender i {j} e = by (eqb x sender) e (λ f. seat_below xs sender (suc i) f)
  where
    by : (t : Bool) → cond t (Some i) (seat_of xs sender (suc i)) ≡ Some j → (seat_of xs sender (suc i) ≡ Some j → (suc i ≤ j) × (j < suc i + length xs)) → (i ≤ j) × (j < i + length (x ∷ xs))
    by true f rest = let g : i ≡ j = same_seat f in (omega arith, omega arith)
    by false f rest = let h = rest f in (omega arith, omega arith)

-- the roster names the sender at its seat
seat_names : (xs : List ℕ) (sender i j : ℕ) → seat_of xs sender i ≡ Some (i + j) → get_or xs j 0 ≡ sender
unfolding seat_of
seat_names [] sender i j e = let z : ◌≡◌ {A = ℕ} 0 1 = cc in absurd (omega arith)
seat_names (x ∷ xs) sender i j e = by (eqb x sender) refl j e (λ k f. seat_names xs sender (suc i) k f)
  where
    by : (t : Bool) → eqb x sender ≡ t → (j : ℕ) → cond t (Some i) (seat_of xs sender (suc i)) ≡ Some (i + j)
        → ((k : ℕ) → seat_of xs sender (suc i) ≡ Some (suc i + k) → get_or xs k 0 ≡ sender) → get_or (x ∷ xs) j 0 ≡ sender
    by true q zero f rest = eqb-true x sender q
    by true q (suc k) f rest = let z : i ≡ i + suc k = same_seat f in absurd (omega arith)
    by false q zero f rest = let h = seat_below xs sender (suc i) f in absurd (omega arith)
    by false q (suc k) f rest = let z : i + suc k ≡ suc i + k = omega arith in rest k (f ∙ ap Some z)

pub seat_named : (xs : List ℕ) (sender : ℕ) {j : ℕ} → seat_of xs sender 0 ≡ Some j → get_or xs j 0 ≡ sender
seat_named xs sender {j} e = seat_names xs sender 0 j (e ∙ ap Some (sym (zero-add j)))

-- a sender is named exactly when it has a seat
module _ (xs : List ℕ) (sender : ℕ) where
  pub seat_listed : names xs sender ≡ true → (j : ℕ) × (seat_of xs sender 0 ≡ Some j)
  unfolding names
  seat_listed n = by (seat_of xs sender 0) refl
    where
      by : (x : Option ℕ) → seat_of xs sender 0 ≡ x → (j : ℕ) × (seat_of xs sender 0 ≡ Some j)
      by None e = absurd (false≢true (ap is_some (sym e) ∙ n))
      by (Some j) e = (j, e)

  pub seat_at : {j : ℕ} → seat_of xs sender 0 ≡ Some j → names xs sender ≡ true
  unfolding names
  seat_at e = ap is_some e

  pub seat_nowhere : seat_of xs sender 0 ≡ None → names xs sender ≡ false
  unfolding names
  seat_nowhere e = ap is_some e

-- where no sender is named twice, two seats have two senders
apart : (xs : List ℕ) (i j : ℕ) → repeats xs ≡ false → i < length xs → j < length xs → get_or xs i 0 ≡ get_or xs j 0 → i ≡ j
apart [] i j once h k e = absurd (omega arith)
apart (x ∷ xs) zero zero once h k e = refl
apart (x ∷ xs) zero (suc j) once h k e = absurd (false≢true (sym (once_on x xs once).0 ∙ ap (names xs) e ∙ names_at xs j (omega arith)))
apart (x ∷ xs) (suc i) zero once h k e = absurd (false≢true (sym (once_on x xs once).0 ∙ ap (names xs) (sym e) ∙ names_at xs i (omega arith)))
apart (x ∷ xs) (suc i) (suc j) once h k e = ap suc (apart xs i j (once_on x xs once).1 (omega arith) (omega arith) e)

-- and each seat is found
pub seat_own : (xs : List ℕ) (j : ℕ) → repeats xs ≡ false → j < length xs → seat_of xs (get_or xs j 0) 0 ≡ Some j
seat_own xs j once h =
    let found = seat_listed xs (get_or xs j 0) (names_at xs j h) in
    let within = seat_below xs (get_or xs j 0) 0 found.1 in
    found.1 ∙ ap Some (apart xs found.0 j once (omega arith) h (seat_named xs (get_or xs j 0) found.1))

-- ---- a value for each sender of a roster

module _ {A : Type 0} {f g : ℕ → A} (sender : ℕ) (others : (y : ℕ) → (y ≡ sender → ⊥) → f y ≡ g y) where
  -- they differ at a sender that is not named
  pub map-others : (xs : List ℕ) → names xs sender ≡ false → map f xs ≡ map g xs
  map-others [] e = refl
  map-others (x ∷ xs) e = let n = names_not x xs sender e in ap₂ ◌∷◌ (others x n.0) (map-others xs n.1)

  -- they differ at one seat, where no sender is named twice
  pub map-seat : (xs : List ℕ) (j : ℕ) → repeats xs ≡ false → j < length xs → get_or xs j 0 ≡ sender → set (map f xs) j (g sender) ≡ map g xs
  map-seat [] j once h e = absurd (omega arith)
  map-seat (x ∷ xs) zero once h e = ap₂ ◌∷◌ (ap g (sym e)) (map-others xs (ap (names xs) (sym e) ∙ (once_on x xs once).0))
  map-seat (x ∷ xs) (suc k) once h e =
      let below : k < length xs = omega arith in
      let other : x ≡ sender → ⊥ = λ s. false≢true (sym (once_on x xs once).0 ∙ ap (names xs) (s ∙ sym e) ∙ names_at xs k below) in
      ap₂ ◌∷◌ (others x other) (map-seat xs k (once_on x xs once).1 below e)

pub map_at : {A : Type 0} (f : ℕ → A) (xs : List ℕ) (j : ℕ) (d : A) → j < length xs → get_or (map f xs) j d ≡ f (get_or xs j 0)
map_at f [] j d h = absurd (omega arith)
map_at f (x ∷ xs) zero d h = refl
map_at f (x ∷ xs) (suc j) d h = map_at f xs j d (omega arith)

-- they agree at every sender that is named
pub map-listed : {A : Type 0} {f g : ℕ → A} (xs : List ℕ) → ((s : ℕ) → names xs s ≡ true → f s ≡ g s) → map f xs ≡ map g xs
map-listed [] e = refl
map-listed (x ∷ xs) e = ap₂ ◌∷◌ (e x (names_first x xs)) (map-listed xs (λ s n. e s (names_later x xs s n)))
