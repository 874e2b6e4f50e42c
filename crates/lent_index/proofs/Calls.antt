-- Calls on an index in lent bytes, case by case: 32 first, then what `index` answers.
use mathlib.Core.Path.{◌≡◌, refl, sym, ap, ◌∙◌}
use mathlib.Core.Bool.{Bool, true, false, cond}
use mathlib.Core.List.{List, []}
use Prim.Native.Nat.{ℕ, ◌≤◌, ◌<◌}
use lib.Dec.{leb}
use lib.ListN.{length}
use borrow.Author.Tests.{le-leb, lt-leb}
use Rattle.refusals.specs.Refusals.{Answer, given, refused, leaves, zero_or, Call, reply}
use Rattle.refusals.proofs.Distinct.{same_given, never_both, same_refused}
use Rattle.index.specs.Index.{empty, entries_from, written, extending, extend_in, asking, first_in, counting, count_in}
use Rattle.index.specs.declared.entry.Entry.{Entry}
use Rattle.index.specs.declared.index.Index.{Index}
use Rattle.lent_index.specs.Bytes.{index_size, in_bytes, index_from_bytes, index_stored, make_in, kept_in, extend_in_bytes, list_after, first_in_bytes, count_in_bytes}
use Rattle.lent_index.specs.Inner.{lent}

module _ (bytes : List ℕ) where
  pub short : {A : Type 0} (c : Call A) → length bytes < index_size → reply (in_bytes bytes c) ≡ refused 32
  short c h = rw (lt-leb index_size (length bytes) h)

  pub long : {A : Type 0} (c : Call A) → index_size ≤ length bytes → reply (in_bytes bytes c) ≡ reply c
  long c h = rw (le-leb index_size (length bytes) h)

  -- ---- making

  abbrev Makes : ℕ → List ℕ → Type 0
  Makes n after = (n ≡ zero_or (make_in bytes)) × (after ≡ kept_in (make_in bytes) bytes)

  pub make_short : length bytes < index_size → Makes 32 bytes
  unfolding make_in
  make_short h = let e = short (record { tests = []; value = empty }) h in (ap zero_or (sym e), ap (λ (a : Answer Index). kept_in a bytes) (sym e))

  pub make_long : index_size ≤ length bytes → {x : Index} {after : List ℕ} → x ≡ empty → after ≡ index_stored x bytes → Makes 0 after
  unfolding make_in
  make_long h q r =
      let e = long (record { tests = []; value = empty }) h in
      (ap zero_or (sym e), r ∙ ap (λ (x : Index). index_stored x bytes) q ∙ ap (λ (a : Answer Index). kept_in a bytes) (sym e))

  -- ---- what is asked of the index that the bytes stand for

  -- refused with the bytes, or asked of it
  module _ {A : Type 0} (ask : Index → Call A) where
    pub refused_as_lent : {n : ℕ} → refused n ≡ lent bytes → refused n ≡ reply (in_bytes bytes (ask (index_from_bytes bytes)))
    refused_as_lent {n} = by (leb index_size (length bytes))
      where
        by : (t : Bool) → refused n ≡ cond t (given (index_from_bytes bytes)) (refused 32) → refused n ≡ cond t (reply (ask (index_from_bytes bytes))) (refused 32)
        by true e = absurd (never_both refl (sym e))
        by false e = ap refused (same_refused (sym e) refl)

    pub asked_of_lent : {x : Index} → given x ≡ lent bytes → reply (ask x) ≡ reply (in_bytes bytes (ask (index_from_bytes bytes)))
    asked_of_lent {x} = by (leb index_size (length bytes))
      where
        by : (t : Bool) → given x ≡ cond t (given (index_from_bytes bytes)) (refused 32) → reply (ask x) ≡ cond t (reply (ask (index_from_bytes bytes))) (refused 32)
        by true e = ap (λ (y : Index). reply (ask y)) (same_given (sym e) refl)
        by false e = absurd (never_both (sym e) refl)

  pub lent_is : {x : Index} → given x ≡ lent bytes → x ≡ index_from_bytes bytes
  lent_is {x} = by (leb index_size (length bytes))
    where
      by : (t : Bool) → given x ≡ cond t (given (index_from_bytes bytes)) (refused 32) → x ≡ index_from_bytes bytes
      by true e = same_given (sym e) refl
      by false e = absurd (never_both (sym e) refl)

  -- ---- a frame, and a count

  module _ (list : List Entry) (kind sender offset : ℕ) where
    pub first_short : {n : ℕ} → refused n ≡ lent bytes → refused n ≡ first_in_bytes bytes list kind sender offset
    unfolding first_in_bytes
    first_short = refused_as_lent (λ (x : Index). asking x list kind sender offset)

    pub first_lent : {x : Index} → given x ≡ lent bytes → first_in x list kind sender offset ≡ first_in_bytes bytes list kind sender offset
    unfolding first_in first_in_bytes
    first_lent = asked_of_lent (λ (x : Index). asking x list kind sender offset)

  module _ (kind : ℕ) where
    pub count_short : {n : ℕ} → refused n ≡ lent bytes → refused n ≡ count_in_bytes bytes kind
    unfolding count_in_bytes
    count_short = refused_as_lent (λ (x : Index). counting x kind)

    pub count_lent : {x : Index} → given x ≡ lent bytes → count_in x kind ≡ count_in_bytes bytes kind
    unfolding count_in count_in_bytes
    count_lent = asked_of_lent (λ (x : Index). counting x kind)
