-- A roster that senders join, frame by frame: the three ways to join it, what they keep, and where it comes to: the senders that come, while
-- there is room.
use mathlib.Core.Path.{◌≡◌, refl, sym, ap, ◌∙◌, subst}
use mathlib.Core.Bool.{Bool, true, false, cond}
use mathlib.Core.List.{List, [], ◌∷◌, ◌++◌, append_assoc, append-nil}
use Prim.Native.Nat.{ℕ, ◌≤◌, ◌<◌}
use native.Mathlib.Omega.{arith}
use lib.Dec.{ltb}
use lib.ListN.{length, take, length-append, length-take}
use lib.Seq.{take_all, take_at}
use borrow.Author.Tests.{ltb-true, ltb-false}
use Rattle.frames.specs.Frame.{Content}
use Rattle.observation.specs.Edition.{is_obs}
use Rattle.epochs.specs.Search.{names}
use Rattle.enlisting.specs.FirstEight.{obs_senders, different}

-- a sender that is not listed yet comes last, while there is room
unfoldable pub joined : List ℕ → ℕ → List ℕ
joined roster sender = cond (names roster sender) roster (cond (ltb (length roster) 8) (roster ++ sender ∷ []) roster)

abbrev pub enlisted : List ℕ → Content → List ℕ
enlisted roster x = cond (is_obs x.kind) (joined roster x.sender) roster

-- it is listed already, finds no room, or comes last
pub by_joining : (roster : List ℕ) (x : ℕ) (P : List ℕ → Type 0) → (names roster x ≡ true → P roster) → (names roster x ≡ false → 8 ≤ length roster → P roster)
    → (names roster x ≡ false → length roster < 8 → P (roster ++ x ∷ [])) → P (joined roster x)
unfolding joined
by_joining roster x P listed full last = by (names roster x) (ltb (length roster) 8) refl refl
  where
    by : (t room : Bool) → names roster x ≡ t → ltb (length roster) 8 ≡ room → P (cond t roster (cond room (roster ++ x ∷ []) roster))
    by true room n e = listed n
    by false true n e = last n (ltb-true (length roster) 8 e)
    by false false n e = full n (ltb-false (length roster) 8 e)

-- a roster has at most eight senders
abbrev pub Few : List ℕ → Type 0
Few roster = length roster ≤ 8

pub few_joined : (roster : List ℕ) (x : ℕ) → Few roster → Few (joined roster x)
few_joined roster x few = by_joining roster x Few (λ n. few) (λ n h. few) (λ n h. omega (arith, length-append roster (x ∷ [])))

-- what each sender that joins keeps, a frame keeps
pub enlisted_keeps : (P : List ℕ → Type 0) → ((roster : List ℕ) (x : ℕ) → P roster → P (joined roster x)) → (x : Content) (roster : List ℕ) → P roster → P (enlisted roster x)
enlisted_keeps P keeps x roster p = by (is_obs x.kind)
  where
    by : (t : Bool) → P (cond t (joined roster x.sender) roster)
    by true = keeps roster x.sender p
    by false = p

pub few_enlisted : (x : Content) (roster : List ℕ) → Few roster → Few (enlisted roster x)
few_enlisted = enlisted_keeps Few few_joined

-- ---- where it comes to: the senders that come, while there is room. From nobody on they are the first eight

abbrev pub grown_by : List ℕ → List Content → List ℕ
grown_by roster xs = take 8 (roster ++ different roster (obs_senders xs))

pub grown_none : (roster : List ℕ) → Few roster → grown_by roster [] ≡ roster
unfolding obs_senders different
grown_none roster few = ap (take 8) (append-nil roster) ∙ take_all 8 roster few

module _ (roster : List ℕ) (few : Few roster) where
  join_then : (x : ℕ) (xs : List ℕ) → take 8 (joined roster x ++ different (joined roster x) xs) ≡ take 8 (roster ++ different roster (x ∷ xs))
  unfolding different
  join_then x xs =
      by_joining roster x (λ (r : List ℕ). take 8 (r ++ different r xs) ≡ take 8 (roster ++ different roster (x ∷ xs))) (λ n. rw n)
      (λ n h.
      let eight : length roster ≡ 8 = omega arith in
      take_at roster (different roster xs) 8 eight ∙ sym (take_at roster (different roster (x ∷ xs)) 8 eight))
      (λ n h. rw n (ap (take 8) (append_assoc roster (x ∷ []) (different (roster ++ x ∷ []) xs))))

  -- a frame's sender joins first, and the others come after it
  pub grown_on : (x : Content) (xs : List Content) → grown_by (enlisted roster x) xs ≡ grown_by roster (x ∷ xs)
  unfolding obs_senders
  grown_on x xs = by (is_obs x.kind) refl
    where
      by : (t : Bool) → is_obs x.kind ≡ t → grown_by (enlisted roster x) xs ≡ grown_by roster (x ∷ xs)
      by true e = rw e (join_then x.sender (obs_senders xs))
      by false e = rw e

-- so what each sender that joins keeps, all frames keep
pub grown_keeps : (P : List ℕ → Type 0) → ((roster : List ℕ) (x : ℕ) → P roster → P (joined roster x)) → (xs : List Content) (roster : List ℕ) → Few roster → P roster → P (grown_by roster xs)
grown_keeps P keeps [] roster few p = subst P (sym (grown_none roster few)) p
grown_keeps P keeps (x ∷ xs) roster few p =
    subst P (grown_on roster few x xs) (grown_keeps P keeps xs (enlisted roster x) (few_enlisted x roster few) (enlisted_keeps P keeps x roster p))

pub few_grown : (roster : List ℕ) (xs : List Content) → Few (grown_by roster xs)
few_grown roster xs = omega (arith, length-take 8 (roster ++ different roster (obs_senders xs)))
