-- Tests of some payload and then of a row's room: the number that is answered and the row that is left, case by case.
use mathlib.Core.Path.{◌≡◌, sym, ap, ◌∙◌}
use mathlib.Core.List.{List, ◌++◌}
use Prim.Native.Nat.{ℕ, ◌≤◌, ◌<◌}
use lib.ListN.{length}
use borrow.Author.Tests.{le-leb, lt-leb}
use Rattle.refusals.specs.Refusals.{refused, given, Answer, Tests, ordered, leaves, zero_or, room_for}
use Rattle.refusals.proofs.Joined.{and_then, ordered_joined}
use Rattle.row_reader.specs.ReadRow.{beginning}

module _ {A : Type 0} (ts : Tests) (x : A) (ns : List ℕ) (n : ℕ) (row : List ℕ) where
  abbrev answer : Answer (List ℕ)
  answer = ordered (ts ++ room_for n (length row)) ns

  abbrev Left : ℕ → List ℕ → Type 0
  Left r t = (r ≡ zero_or answer) × (t ≡ leaves beginning answer row)

  by_answer : {a : Answer (List ℕ)} → answer ≡ a → Left (zero_or a) (leaves beginning a row)
  by_answer e = (sym (ap zero_or e), sym (ap (λ (a : Answer (List ℕ)). leaves beginning a row) e))

  after : {a : Answer A} → a ≡ ordered ts x → answer ≡ and_then a (ordered (room_for n (length row)) ns)
  after p = ordered_joined x ns (room_for n (length row)) ts ∙ ap (λ (a : Answer A). and_then a (ordered (room_for n (length row)) ns)) (sym p)

  -- the payload's refusal stands
  pub stands : {m : ℕ} → refused m ≡ ordered ts x → Left m row
  stands p = by_answer (after p)

  module _ {y : A} (p : given y ≡ ordered ts x) where
    pub too_short : length row < n → Left 32 row
    too_short h = by_answer {a = refused 32} (after p ∙ rw (lt-leb n (length row) h))

    pub roomy : n ≤ length row → {t : List ℕ} → t ≡ beginning ns row → Left 0 t
    roomy h e = let (r, l) = by_answer {a = given ns} (after p ∙ rw (le-leb n (length row) h)) in (r, e ∙ l)
