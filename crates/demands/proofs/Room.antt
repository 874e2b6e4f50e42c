-- A buffer of eight bytes for each byte of a capture, and 32, gets the whole listing.
use mathlib.Core.Path.{◌≡◌, refl}
use mathlib.Core.List.{List, ◌++◌}
use Prim.Native.Nat.{ℕ, ◌+◌, ◌*◌, ◌≤◌}
use native.Mathlib.Omega.{arith}
use lib.ListN.{length, drop}
use borrow.Author.Tests.{le-leb}
use Rattle.wire.specs.Number.{Bytes}
use Rattle.refusals.specs.Refusals.{given}
use Rattle.refusals.proofs.Ordered.{exactly_all}
use Rattle.listing.specs.Listing.{text_of, listing, list_answer, with_listing}
use Rattle.listing.proofs.Sizes.{text_size}

module _ (s buf : List ℕ) (bytes : Bytes s) (short : length s ≤ 65536) (room : 8 * length s + 32 ≤ length buf) where
  answered : list_answer s (length buf) ≡ given (length (text_of s))
  unfolding list_answer
  answered =
      let fits : length (text_of s) ≤ length buf = omega (arith, text_size s bytes short, room) in
      (exactly_all (length (text_of s)) (listing s (length buf)).tests (length (text_of s))).1 ((le-leb (length s) 65536 short, (le-leb (length (text_of s)) (length buf) fits, tt)), refl)

  pub room_enough : (list_answer s (length buf) ≡ given (length (text_of s))) × (with_listing s buf ≡ text_of s ++ drop (length (text_of s)) buf)
  room_enough = (answered, rw answered)
