-- A collator that enlists senders as their frames come comes to the same as the collator of the first eight: a frame is recognised for the same
-- place by both, since its own sender has its seat by then, and no later sender moves it.
use mathlib.Core.Path.{◌≡◌, refl, sym, ap, ◌∙◌}
use mathlib.Core.Bool.{Bool, true, false, cond}
use mathlib.Core.List.{List, [], ◌∷◌, ◌++◌}
use mathlib.Core.Logic.{◌⊎◌, inl, inr}
use Prim.Native.Nat.{ℕ, suc, ◌+◌, ◌-◌, ◌≤◌}
use native.Mathlib.Omega.{arith}
use lib.Dec.{eqb}
use lib.ListN.{length, take, replicate}
use lib.Seq.{take-append-add, take_at}
use Rattle.frames.specs.Frame.{Content}
use Rattle.observation.specs.Edition.{is_obs}
use Rattle.packets.proofs.Recognitions.{read_46}
use Rattle.epochs.specs.Search.{seat_of, names}
use Rattle.epochs.specs.Collator.{for_place, idle, fed_frame}
use Rattle.epochs.specs.Epoch.{after, outcomes}
use Rattle.std.specs.Prelude.{Some}
use Rattle.epochs.specs.declared.collating.Place.{Place}
use Rattle.epochs.specs.declared.collating.Collator.{Collator}
use Rattle.epochs.specs.Happened.{Happened}
use Rattle.epochs.specs.Fed.{Fed}
use Rattle.epochs.proofs.Searches.{names_first, names_later, seat_listed}
use Rattle.epochs.proofs.Placings.{placed_seat, placed_unread}
use Rattle.epochs.proofs.Making.{nobody, made_seated}
use Rattle.epochs.proofs.Feeding.{fed_relisted}
use Rattle.enlisting.specs.FirstEight.{obs_senders, different, first_eight}
use Rattle.enlisting.specs.Enlisting.{new_outcomes, new_after, AsOfTheFirst}
use Rattle.enlisting.proofs.Joining.{joined, enlisted, Few, by_joining, few_joined, few_enlisted, grown_by, few_grown, grown_none, grown_on}
use Rattle.enlisting.proofs.EightSenders.{first_seated}
use Rattle.enlisting.proofs.Seating.{held_in, held_list, held_enlisted}

-- ---- a seat that was given stays

-- senders that come after a sender leave it its seat
seat_first : (xs ys : List ℕ) (x i : ℕ) {j : ℕ} → seat_of xs x i ≡ Some j → seat_of (xs ++ ys) x i ≡ Some j
unfolding seat_of
seat_first [] ys x i e = let z : ◌≡◌ {A = ℕ} 0 1 = cc in absurd (omega arith)
seat_first (y ∷ xs) ys x i {j} e = by (eqb y x) e (λ e. seat_first xs ys x (suc i) e)
  where
    by : (t : Bool) → cond t (Some i) (seat_of xs x (suc i)) ≡ Some j → (seat_of xs x (suc i) ≡ Some j → seat_of (xs ++ ys) x (suc i) ≡ Some j)
        → cond t (Some i) (seat_of (xs ++ ys) x (suc i)) ≡ Some j
    by true e rest = e
    by false e rest = rest e

names_last : (xs : List ℕ) (x : ℕ) → names (xs ++ x ∷ []) x ≡ true
names_last [] x = names_first x []
names_last (y ∷ xs) x = names_later y (xs ++ x ∷ []) x (names_last xs x)

-- a sender's seat is settled: it has one, or none is left
abbrev Settled : ℕ → List ℕ → Type 0
Settled x roster = (names roster x ≡ true) ⊎ (8 ≤ length roster)

joined_settles : (roster : List ℕ) (x : ℕ) → Settled x (joined roster x)
joined_settles roster x = by_joining roster x (Settled x) (λ n. inl n) (λ n h. inr h) (λ n h. inl (names_last roster x))

-- what comes later leaves it
seat_stays : (roster : List ℕ) → Few roster → (x : ℕ) (xs : List Content) → Settled x roster → seat_of roster x 0 ≡ seat_of (grown_by roster xs) x 0
seat_stays roster few x xs settled = by settled
  where
    others : List ℕ
    others = different roster (obs_senders xs)

    by : Settled x roster → seat_of roster x 0 ≡ seat_of (take 8 (roster ++ others)) x 0
    by (inl n) =
        let seat = (seat_listed roster x n).1 in
        let room : length roster + (8 - length roster) ≡ 8 = omega arith in
        seat
        ∙ sym (seat_first roster (take (8 - length roster) others) x 0 seat)
        ∙ ap (λ (r : List ℕ). seat_of r x 0) (sym (take-append-add roster others (8 - length roster)) ∙ ap (λ (n : ℕ). take n (roster ++ others)) room)
    by (inr h) = ap (λ (r : List ℕ). seat_of r x 0) (sym (take_at roster others 8 (omega arith)))

-- ---- a frame is recognised for the same place, by the roster that its sender has joined and by what that grows to

grown_placed : (roster : List ℕ) → Few roster → (x : Content) (xs : List Content) → for_place (enlisted roster x) x ≡ for_place (grown_by (enlisted roster x) xs) x
grown_placed roster few x xs = by (is_obs x.kind) refl
  where
    by : (t : Bool) → is_obs x.kind ≡ t → for_place (cond t (joined roster x.sender) roster) x ≡ for_place (grown_by (cond t (joined roster x.sender) roster) xs) x
    by true e =
        let r = joined roster x.sender in
        placed_seat r (grown_by r xs) x (seat_stays r (few_joined roster x.sender few) x.sender xs (joined_settles roster x.sender))
    by false e =
        let unread = sym (read_46 x.kind x.payload e) in
        placed_unread roster x unread ∙ sym (placed_unread (grown_by roster xs) x unread)

-- ---- so feeding it does the same to the places

-- the same, in a collator of another roster
abbrev relisted : List ℕ → Fed → Fed
relisted roster x = record { collator = held_in x.collator.places roster; happened = x.happened }

fed_again : (places : List Place) (x : Content) (q r : List ℕ) → Few q → Few r → for_place q x ≡ for_place r x → fed_frame (held_in places r) x ≡ relisted r (fed_frame (held_in places q) x)
fed_again places x q r few most e =
    fed_relisted places (held_in places q).roster (held_in places r).roster (length q) (length r) x
    (ap (λ (r : List ℕ). for_place r x) (held_list places q few) ∙ e ∙ ap (λ (r : List ℕ). for_place r x) (sym (held_list places r most)))

-- ---- and all frames come to the same

-- what each frame comes to, and the end
abbrev Went : Type 0
Went = List Happened × Collator

abbrev first_then : Happened → Went → Went
first_then h w = (h ∷ w.0, w.1)

grown : (xs : List Content) (places : List Place) (roster : List ℕ) → Few roster
    → ◌≡◌ {A = Went} (new_outcomes (held_in places roster) xs, new_after (held_in places roster) xs) (outcomes (held_in places (grown_by roster xs)) xs, after (held_in places (grown_by roster xs)) xs)
unfolding new_outcomes new_after outcomes after
grown [] places roster few = ap (λ (r : List ℕ). ([], held_in places r)) (sym (grown_none roster few))
grown (x ∷ xs) places roster few =
    let q = enlisted roster x in
    let r = grown_by q xs in
    let here = few_enlisted x roster few in
    let fed = fed_frame (held_in places q) x in
    ap (λ (c : Collator). new (fed_frame c x)) (held_enlisted places roster few x)
    ∙ ap new (fed_again places x q q here here refl)
    ∙ ap (first_then fed.happened) (grown xs fed.collator.places q here)
    ∙ ap old (sym (fed_again places x q r here (few_grown q xs) (grown_placed roster few x xs)))
    ∙ ap (λ (r : List ℕ). old (fed_frame (held_in places r) x)) (grown_on roster few x xs)
  where
    new : Fed → Went
    new f = first_then f.happened (new_outcomes f.collator xs, new_after f.collator xs)

    old : Fed → Went
    old f = first_then f.happened (outcomes f.collator xs, after f.collator xs)

pub as_of_the_first : (xs : List Content) → AsOfTheFirst xs
as_of_the_first xs =
    let all = grown xs (replicate 8 idle) [] (omega arith) in
    let new = made_seated [] nobody in
    let old = sym (made_seated (first_eight xs) (first_seated xs)) in
    record {
      each = ap (λ (c : Collator). new_outcomes c xs) new ∙ ap (λ (w : Went). w.0) all ∙ ap (λ (c : Collator). outcomes c xs) old;
      end = ap (λ (c : Collator). new_after c xs) new ∙ ap (λ (w : Went). w.1) all ∙ ap (λ (c : Collator). after c xs) old;
    }
