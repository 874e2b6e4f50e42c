-- `row_reader::observation_row::fill_one` meets its contract.
use mathlib.Core.Path.{ap, ap₂}
use Prim.Native.Nat.{ℕ, ◌+◌, ◌*◌}
use native.Mathlib.Omega.{arith}
use Rattle.formats.specs.Digits.{formats_by}
use Rattle.row_reader.proofs.ObservationRows.{read_from}
use Rattle.row_reader.proofs.observation_row.fill_one.Goals as goal

pub overflow_mul-at : goal.overflow_mul-at
overflow_mul-at c = omega (arith, c.requires.each_in_bounds, ap (λ (n : ℕ). c.args.index * n) c.size-2.ensures)

pub overflow_add-at : goal.overflow_add-at
overflow_add-at c = omega (arith, c.requires.each_in_bounds, ap (λ (n : ℕ). c.args.index * n) c.size-2.ensures, c.size.ensures)

pub slice_bounds-read_run-count : goal.slice_bounds-read_run-count
slice_bounds-read_run-count c =
    omega (arith, c.requires.each_in_bounds, ap (λ (n : ℕ). c.args.index * n) c.size-2.ensures, c.size.ensures)

pub slice_bounds-read_run-start : goal.slice_bounds-read_run-start
slice_bounds-read_run-start c = slice_bounds-read_run-count c

pub returns : goal.returns
returns c =
    read_from (formats_by c.args.shape.each) c.args.s.now c.args.row.now (ap₂ (λ (h n : ℕ). h + c.args.index * n) c.size.ensures c.size-2.ensures) c.requires.each_in_bounds_2 c.read_run.ensures
