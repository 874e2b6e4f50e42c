-- `listing::listing::fits` meets its contract.
use mathlib.Core.Path.{sym, ap}
use Prim.Native.Nat.{ℕ}
use native.Mathlib.Omega.{arith}
use lib.Dec.{leb}
use lib.ListN.{length}
use borrow.Author.Tests.{le-leb}
use Rattle.listing.specs.Listing.{text_of}
use Rattle.listing.proofs.Sizes.{text_size}
use Rattle.listing.proofs.listing.fits.Goals as goal

pub returns-then-s-room : goal.returns-then-s-room
returns-then-s-room c =
    let a = c.args in
    let most = text_size a.s.now (λ i. (c.type_inv.s i).fits) c.requires in
    sym (le-leb (length (text_of a.s.now)) a.room (omega (arith, most, c.if-s-room.true)))

pub put_text-requires : goal.put_text-requires
put_text-requires c =
    let a = c.args in
    omega (arith, text_size a.s.now (λ i. (c.type_inv.s i).fits) c.requires, c.requires)

pub returns : goal.returns
returns c = ap (λ (n : ℕ). leb n c.args.room) c.put_text.ensures.value
