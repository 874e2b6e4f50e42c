-- `formats::read::read_run` meets its contract: number after number, where all have room.
use mathlib.Core.Path.{◌≡◌, refl, sym, ap, ◌∙◌}
use mathlib.Core.List.{List}
use Prim.Native.Nat.{ℕ, ◌%◌}
use native.Mathlib.Omega.{arith}
use lib.ListN.{length}
use lib.Seq.{sets, length-sets}
use Rattle.wire.proofs.Stored.{bytes_sets, bytes_nowhere}
use Rattle.formats.specs.Digits.{formats_by, numbers_at}
use Rattle.formats.proofs.Formats.{at_most_eight}
use Rattle.formats.proofs.Steps.{counted_none, counted_more, counted_few, counted_some, sized_none, sized_more, sized_few, below}
use Rattle.formats.proofs.Rows.{length-numbers, read_none, read_more}
use Rattle.formats.proofs.read.read_run.Goals as goal

-- stores change no length
kept : (row₀ s : List ℕ) (digits : ℕ) (row : List ℕ) (rest i at : ℕ) → sets row i (numbers_at (formats_by rest) s at) ≡ sets row₀ 0 (numbers_at (formats_by digits) s 0) → length row ≡ length row₀
kept row₀ s digits row rest i at e =
    sym (length-sets row i (numbers_at (formats_by rest) s at)) ∙ ap length e ∙ length-sets row₀ 0 (numbers_at (formats_by digits) s 0)

pub returns-then-row-count : goal.returns-then-row-count
returns-then-row-count c =
    let a = c.args in
    let numbers = numbers_at (formats_by a.digits) a.s.now 0 in
    sym (bytes_nowhere numbers a.row.now 0 (omega (arith, length-numbers (formats_by a.digits) a.s.now 0, c.count.ensures, c.if-row-count.true)))

pub loop-rest-init : goal.loop-rest-init
loop-rest-init c = let a = c.args in (counted_none a.digits, sized_none a.digits, refl)

pub offset_bounds-row-i : goal.offset_bounds-row-i
offset_bounds-row-i c =
    omega (arith, counted_few c.args.digits c.loop-rest.rest c.loop-rest.i c.loop-rest.invariant.0)

pub bounds-row-i : goal.bounds-row-i
bounds-row-i c =
    let some = counted_some c.args.digits c.loop-rest.rest c.loop-rest.i c.ranges.digits.fits c.loop-rest-test.true c.loop-rest.invariant.0 in
    omega (arith, kept c.args.row.now c.args.s.now c.args.digits c.loop-rest.row c.loop-rest.rest c.loop-rest.i c.loop-rest.at c.loop-rest.invariant.2, some, c.count.ensures, c.if-row-count.false)

pub overflow_add-at : goal.overflow_add-at
overflow_add-at c =
    omega (arith, c.width_of-at.ensures, at_most_eight (c.loop-rest.rest % 16), sized_few c.args.digits c.loop-rest.rest c.loop-rest.at c.loop-rest.invariant.1)

pub overflow_add-i : goal.overflow_add-i
overflow_add-i c =
    omega (arith, counted_few c.args.digits c.loop-rest.rest c.loop-rest.i c.loop-rest.invariant.0)

pub loop-rest-smaller : goal.loop-rest-smaller
loop-rest-smaller c = omega (arith, c.loop-rest-test.true)

pub loop-rest-preserved : goal.loop-rest-preserved
loop-rest-preserved c =
    let small = below c.args.digits c.loop-rest.rest c.ranges.digits.fits c.loop-rest.invariant.0.0 in (
      counted_more c.args.digits c.loop-rest.rest c.loop-rest.i c.ranges.digits.fits c.loop-rest-test.true c.loop-rest.invariant.0,
      sized_more c.args.digits c.loop-rest.rest c.loop-rest.at c.width_of-at.result small c.loop-rest-test.true c.width_of-at.ensures c.loop-rest.invariant.1,
      read_more c.loop-rest.rest c.args.s.now c.loop-rest.row c.loop-rest.i c.loop-rest.at small c.loop-rest-test.true c.number_at.ensures c.width_of-at.ensures ∙ c.loop-rest.invariant.2,
    )

pub shape_of-row : goal.shape_of-row
shape_of-row c =
    let a = c.args in
    kept a.row.now a.s.now a.digits c.loop-rest.row c.loop-rest.rest c.loop-rest.i c.loop-rest.at c.loop-rest.invariant.2

pub returns : goal.returns
returns c =
    let a = c.args in
    let numbers = numbers_at (formats_by a.digits) a.s.now 0 in
    sym (read_none c.loop-rest.rest a.s.now c.loop-rest.row c.loop-rest.i c.loop-rest.at c.loop-rest-test.false)
    ∙ c.loop-rest.invariant.2
    ∙ sym (bytes_sets numbers a.row.now 0 (omega (arith, length-numbers (formats_by a.digits) a.s.now 0, c.count.ensures, c.if-row-count.false)))
