-- Bytes stored whole or not at all.
use mathlib.Core.Path.{◌≡◌, refl, sym, ap, ap₂, ◌∙◌}
use mathlib.Core.Bool.{Bool, true, false, cond}
use mathlib.Core.List.{List}
use Prim.Native.Nat.{ℕ, ◌+◌, ◌≤◌, ◌<◌}
use lib.Dec.{leb}
use Rattle.std.specs.Prelude.{◌++◌}
use lib.ListN.{length, take, drop}
use Rattle.std.proofs.Common.{append_assoc}
use lib.Seq.{sets, length-sets, sets-eq, drop-drop}
use borrow.Rule.Slice.PartMut.{put_mid}
use borrow.Author.Tests.{le-leb, lt-leb}
use Rattle.wire.specs.Number.{bytes_stored}

pub bytes_sets : (bs s : List ℕ) (at : ℕ) → at + length bs ≤ length s → bytes_stored bs s at ≡ sets s at bs
unfolding bytes_stored
bytes_sets bs s at h = rw (le-leb (at + length bs) (length s) h)

pub bytes_nowhere : (bs s : List ℕ) (at : ℕ) → length s < at + length bs → bytes_stored bs s at ≡ s
unfolding bytes_stored
bytes_nowhere bs s at h = rw (lt-leb (at + length bs) (length s) h)

pub length-bytes_stored : (bs s : List ℕ) (at : ℕ) → length (bytes_stored bs s at) ≡ length s
unfolding bytes_stored
length-bytes_stored bs s at = either (leb (at + length bs) (length s))
  where
    either : (t : Bool) → length (cond t (sets s at bs) s) ≡ length s
    either true = length-sets s at bs
    either false = refl

-- what a part of a buffer leaves of it once bytes are written over that part
pub part_written : (bs s ys : List ℕ) (at k : ℕ) → at + length bs ≤ length s → ys ≡ bs → k ≡ length bs → put_mid at k s ys ≡ sets s at bs
part_written bs s ys at k h same whole =
    ap₂ (λ (zs : List ℕ) (n : ℕ). put_mid at n s zs) same whole
    ∙ ap (λ (zs : List ℕ). take at s ++ (bs ++ zs)) (drop-drop (length bs) at s)
    ∙ sym (append_assoc (take at s) bs (drop (at + length bs) s))
    ∙ sym (sets-eq bs s at h)
