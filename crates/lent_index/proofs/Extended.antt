-- Extending what the bytes stand for, and keeping what that came to, is extending in lent bytes.
use mathlib.Core.Path.{◌≡◌, refl, sym, ap, ap₂, ◌∙◌}
use mathlib.Core.Bool.{Bool, true, false, cond}
use mathlib.Core.List.{List}
use Prim.Native.Nat.{ℕ, ◌+◌}
use native.Mathlib.Omega.{arith}
use lib.Dec.{leb}
use lib.ListN.{length}
use Rattle.refusals.specs.Refusals.{Answer, given, refused, leaves, zero_or}
use Rattle.refusals.specs.Numbers.{number_of}
use Rattle.refusals.specs.declared.Refusal.{Refusal}
use Rattle.payloads.proofs.TypesFound.{some_number}
use Rattle.index.specs.Index.{frames_from, entries_from, extended, written, extending, extend_in, index_after, entries_after}
use Rattle.index.specs.declared.entry.Entry.{Entry}
use Rattle.index.specs.declared.index.Index.{Index}
use Rattle.lent_index.specs.Bytes.{index_from_bytes, index_stored, kept_in, extend_in_bytes, list_after}
use Rattle.lent_index.specs.Inner.{lent}
use Rattle.lent_index.proofs.Calls.{refused_as_lent, asked_of_lent, lent_is}

-- a refusal has a number of its own
abbrev Numbered : Answer Index → Type 0
Numbered (given x) = Unit {0}
Numbered (refused n) = n ≡ 0 → ⊥

numbered : (x : Index) (s : List ℕ) (most : ℕ) → Numbered (extend_in x s most)
unfolding extend_in
numbered x s most = by (leb x.reached (length s)) (leb (x.held + length (frames_from s x.reached)) most)
  where
    by : (t u : Bool) → Numbered (cond t (cond u (given (extended s x)) (refused 51)) (refused 52))
    by true true = tt
    by true false = λ z. absurd (omega (arith, z))
    by false u = λ z. absurd (omega (arith, z))

module _ (bytes s : List ℕ) (list : List Entry) where
  abbrev most : ℕ
  most = length list

  -- what an answer leaves in the list
  abbrev list_left : Index → Answer Index → List Entry
  list_left x a = leaves (λ new. written x.held (entries_from s x.reached)) a list

  -- a call's number, and the bytes and the list after it
  abbrev Ends : ℕ → List ℕ → List Entry → Type 0
  Ends n after left = (n ≡ zero_or (extend_in_bytes bytes s most)) × (after ≡ kept_in (extend_in_bytes bytes s most) bytes) × (left ≡ list_after bytes s list)

  -- the bytes are too few
  pub ends_short : {n : ℕ} → refused n ≡ lent bytes → Ends n bytes list
  unfolding extend_in_bytes
  ends_short q =
      let e = refused_as_lent bytes (λ (x : Index). extending x s most) q in
      (ap zero_or e, ap (λ (a : Answer Index). kept_in a bytes) e, ap (list_left (index_from_bytes bytes)) e)

  module _ {x : Index} (q : given x ≡ lent bytes) where
    same : extend_in x s most ≡ extend_in_bytes bytes s most
    unfolding extend_in extend_in_bytes
    same = asked_of_lent bytes (λ (x : Index). extending x s most) q

    same_left : entries_after x s list ≡ list_after bytes s list
    same_left = ap₂ list_left (lent_is bytes q) same

    -- it is refused
    pub ends_refused : (e : Refusal) {left : List Entry} → number_of e ≡ zero_or (extend_in x s most) → left ≡ entries_after x s list → Ends (number_of e) bytes left
    ends_refused r {left} p l =
        (p ∙ ap zero_or same, by (extend_in x s most) p ∙ ap (λ (a : Answer Index). kept_in a bytes) same, l ∙ same_left)
      where
        by : (a : Answer Index) → number_of r ≡ zero_or a → bytes ≡ kept_in a bytes
        by (given y) e = absurd (some_number r e)
        by (refused m) e = refl

    -- it is not
    pub ends_kept : {y : Index} {after : List ℕ} {left : List Entry} → 0 ≡ zero_or (extend_in x s most) → y ≡ index_after x s most
        → after ≡ index_stored y bytes → left ≡ entries_after x s list → Ends 0 after left
    ends_kept z new kept l = (
      z ∙ ap zero_or same,
      kept ∙ ap (λ (y : Index). index_stored y bytes) new ∙ by (extend_in x s most) (numbered x s most) z ∙ ap (λ (a : Answer Index). kept_in a bytes) same,
      l ∙ same_left,
    )
      where
        by : (a : Answer Index) → Numbered a → 0 ≡ zero_or a → index_stored (leaves (λ new old. new) a x) bytes ≡ kept_in a bytes
        by (given y) some e = refl
        by (refused m) some e = absurd (some (sym e))
