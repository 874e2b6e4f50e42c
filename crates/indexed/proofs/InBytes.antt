-- A call on an index in bytes answers as on the index that they stand for, or 32 where they are too few.
use mathlib.Core.Path.{◌≡◌, refl}
use mathlib.Core.Bool.{Bool, true, false, cond}
use mathlib.Core.List.{List}
use Prim.Native.Nat.{ℕ, ◌≤◌, ◌<◌}
use lib.Dec.{leb}
use lib.ListN.{length}
use borrow.Author.Tests.{leb-true, leb-false}
use Rattle.refusals.specs.Refusals.{Answer, refused, Call, reply}
use Rattle.lent_index.specs.Bytes.{index_size, in_bytes}

-- what holds of both answers holds of its answer
pub in_bytes_lem : {A : Type 0} (b : List ℕ) (c : Call A) (C : Answer A → Type 0) → (index_size ≤ length b → C (reply c)) → (length b < index_size → C (refused 32))
    → C (reply (in_bytes b c))
in_bytes_lem b c C long short = by (leb index_size (length b)) refl
  where
    by : (t : Bool) → leb index_size (length b) ≡ t → C (cond t (reply c) (refused 32))
    by true e = long (leb-true index_size (length b) e)
    by false e = short (leb-false index_size (length b) e)
