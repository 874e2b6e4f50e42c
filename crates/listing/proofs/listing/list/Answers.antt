-- `listing::listing::list` meets its contract.
use mathlib.Core.Path.{sym, ◌∙◌}
use native.Mathlib.Omega.{arith}
use Rattle.listing.proofs.Texts.{too_long, no_room, text_put}
use Rattle.listing.proofs.Sizes.{text_size}
use Rattle.listing.proofs.listing.list.Goals as goal

pub returns-then-s-gt65536 : goal.returns-then-s-gt65536
returns-then-s-gt65536 c = let both = let a = c.args in too_long a.s.now a.buf.now c.if-s-gt65536.true in record { result_value = both.0; buf_after = both.1 }

pub put_text-requires : goal.put_text-requires
put_text-requires c =
    let s = c.args.s.now in
    omega (arith, text_size s (λ i. (c.type_inv.s i).fits) c.if-s-gt65536.false, c.if-s-gt65536.false)

pub returns-then-fits : goal.returns-then-fits
returns-then-fits c =
    let both = let a = c.args in
    text_put a.s.now a.buf.now c.if-s-gt65536.false (sym c.fits.ensures ∙ c.if-fits.true) c.put_text.ensures.value c.put_text.ensures.buf_after in record { result_value = both.0; buf_after = both.1 }

pub returns : goal.returns
returns c =
    let both = let a = c.args in
    no_room a.s.now a.buf.now c.if-s-gt65536.false (sym c.fits.ensures ∙ c.if-fits.false) in record { result_value = both.0; buf_after = both.1 }
