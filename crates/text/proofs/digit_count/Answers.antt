-- `text::digit_count` meets its contract.
use Rattle.std.proofs.Common.{arith}
use Rattle.text.proofs.Decimals.{one_long, one_longer, few_digits, some_digit}
use Rattle.text.proofs.digit_count.Goals as goal

pub overflow_add-count : goal.overflow_add-count
overflow_add-count c =
    let n = c.args.n in
    let few = few_digits 19 n (omega (arith, c.ranges.n)) in
    omega (arith, c.loop-rest.invariant, some_digit c.loop-rest.rest, few)

pub loop-rest-smaller : goal.loop-rest-smaller
loop-rest-smaller c = omega (arith, c.loop-rest-test.true)

pub loop-rest-preserved : goal.loop-rest-preserved
loop-rest-preserved c = omega (arith, c.loop-rest.invariant, one_longer c.loop-rest.rest c.loop-rest-test.true)

pub returns : goal.returns
returns c =
    let n = c.args.n in
    let all = one_long c.loop-rest.rest c.loop-rest-test.false in
    let few = few_digits 19 n (omega (arith, c.ranges.n)) in
    (omega (arith, c.loop-rest.invariant, all), omega (arith, c.loop-rest.invariant, all, few))
