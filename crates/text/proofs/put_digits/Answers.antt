-- `text::put_digits` meets its contract: the digits that are left are those before.
use Rattle.std.proofs.Common.{◌-◌, ◌%◌, [], ◌∷◌, length, refl, ◌∙◌, arith, length-set}
use lib.Seq.{length-sets}
use Rattle.text.specs.Decimal.{digit, decimal}
use Rattle.text.proofs.Decimals.{one_digit, more_digits, some_digit}
use Rattle.text.proofs.Filling.{filling_begun, filling_length, filling_more, filling_done}
use Rattle.text.proofs.put_digits.Goals as goal

pub loop-rest-init : goal.loop-rest-init
loop-rest-init c = filling_begun c.args.buf.now c.args.end (decimal c.args.n) c.requires.n_len_bound c.requires.end_in_bounds

pub overflow_sub-at : goal.overflow_sub-at
overflow_sub-at c = omega (arith, c.loop-rest.invariant.place, some_digit c.loop-rest.rest)

pub bounds-buf-at : goal.bounds-buf-at
bounds-buf-at c = omega (arith, c.loop-rest.invariant.inside, c.loop-rest.invariant.place, some_digit c.loop-rest.rest, filling_length c.loop-rest.invariant)

pub loop-rest-smaller : goal.loop-rest-smaller
loop-rest-smaller c = omega (arith, c.loop-rest-test.true)

pub loop-rest-preserved : goal.loop-rest-preserved
loop-rest-preserved c = filling_more (digit (c.loop-rest.rest % 10) ∷ []) (more_digits c.loop-rest.rest c.loop-rest-test.true) c.loop-rest.invariant refl refl

pub overflow_sub-at-2 : goal.overflow_sub-at-2
overflow_sub-at-2 c = omega (arith, c.loop-rest.invariant.place, some_digit c.loop-rest.rest)

pub overflow_cast-buf-2 : goal.overflow_cast-buf-2
overflow_cast-buf-2 c = omega (arith, c.loop-rest-test.false)

pub overflow_add-buf-2 : goal.overflow_add-buf-2
overflow_add-buf-2 c = omega (arith, c.loop-rest-test.false)

pub bounds-buf-at-2 : goal.bounds-buf-at-2
bounds-buf-at-2 c = omega (arith, c.loop-rest.invariant.inside, c.loop-rest.invariant.place, some_digit c.loop-rest.rest, filling_length c.loop-rest.invariant)

pub shape_of-buf : goal.shape_of-buf
shape_of-buf c =
    let a = c.args in
    length-set c.loop-rest.buf (c.loop-rest.at - 1) _ ∙ filling_length c.loop-rest.invariant ∙ length-sets a.buf.now (a.end - length (decimal a.n)) (decimal a.n)

pub returns : goal.returns
returns c = let both = filling_done (filling_more (digit c.loop-rest.rest ∷ []) (one_digit c.loop-rest.rest c.loop-rest-test.false) c.loop-rest.invariant refl refl) in record { value = both.0; buf_after = both.1 }
