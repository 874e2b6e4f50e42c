-- `row_writer::row::write_row` meets its contract: refused by its numbers, or packed and sent.
use mathlib.Core.Path.{◌≡◌, refl, sym, ap, ap₂, ◌∙◌}
use Prim.Native.Nat.{ℕ, ◌+◌, ◌≤◌}
use native.Mathlib.Omega.{arith}
use Rattle.std.proofs.Common.{Result, Err, rules}
use lib.ListN.{length}
use lib.Seq.{length-take-le}
use borrow.Author.Tests.{eqb-true}
use Rattle.refusals.specs.Refusals.{given, ordered}
use Rattle.refusals.specs.Numbers.{answer_of}
use Rattle.refusals.specs.declared.Refusal.{Refusal}
use Rattle.layouts.specs.Field.{size}
use Rattle.formats.specs.Wide.{number_count}
use Rattle.formats.specs.Digits.{front_of}
use Rattle.formats.proofs.Narrow.{Words}
use Rattle.payloads.specs.Payloads.{layout_for, shape_for}
use Rattle.row_writer.specs.Inner.{testing_row}
use Rattle.row_writer.proofs.Alone.{plain_for, size_shaped, counted_as}
use Rattle.row_writer.proofs.Tested.{all_pass}
use Rattle.row_writer.proofs.RowsSent.{Fitting, fitting, payload_packed, wrote_refused, wrote_sent}
use Rattle.row_writer.proofs.row.write_row.Goals as goal
use Rattle.row_writer.proofs.row.write_row.Goals.{In_ok-shape, After-size-2}

-- past the tests: the shape is the type's, and every number fits
passed : (c : In_ok-shape) → given c.in_ok-shape.shape ≡ ordered (testing_row c.args.kind c.args.row.now) (shape_for c.args.kind)
passed c = sym (ap answer_of c.in_ok-shape.was) ∙ c.shape_for_row.ensures

fit : (c : In_ok-shape) → Fitting c.args.kind c.args.row.now
fit c = let a = c.args in fitting (shape_for a.kind) a.kind a.row.now (passed c)

shown : (c : In_ok-shape) → c.in_ok-shape.shape ≡ shape_for c.args.kind
shown c = let a = c.args in sym (all_pass (testing_row a.kind a.row.now) (shape_for a.kind) (passed c)).1

-- and the sizes are the payload's
sized : (c : After-size-2) → c.size.result + c.size-2.result ≡ size (front_of (layout_for c.args.kind))
sized c = ap₂ ◌+◌ c.size.ensures c.size-2.ensures ∙ size_shaped c.args.kind (shown (goal.at.After-size-2 c).In_ok-shape)

short : (c : After-size-2) → c.size.result + c.size-2.result ≤ 255
short c = omega (arith, sized c, (plain_for c.args.kind).1)

pub returns-in_err-shape : goal.returns-in_err-shape
returns-in_err-shape c =
    let a = c.args in
    let same : c.from_residual.result ≡ Err c.in_err-shape.field-0.0 = search rules in
    let both = wrote_refused a.kind a.writer a.row.now a.out.now (shape_for a.kind) (sym (ap answer_of c.in_err-shape.was) ∙ c.shape_for_row.ensures) in
    record { result_value = ap (λ (r : Result ℕ Refusal). answer_of r) same ∙ both.0; out_after = both.1 }

pub overflow_add-n : goal.overflow_add-n
overflow_add-n c = omega (arith, short (goal.at.overflow_add-n c).After-size-2)

pub pack-requires : goal.pack-requires
pack-requires c =
    let a = c.args in
    let at = goal.at.pack-requires c in
    let f = fit at.In_ok-shape in
    let counted = counted_as a.kind (shown at.In_ok-shape) refl refl f.only in
    record { head_in_bounds = omega (arith, eqb-true (length a.row.now) (number_count (layout_for a.kind)) f.counted, counted); more_in_bounds = omega (arith, short at.After-size-2, c.size.ensures, c.size-2.ensures) }

pub slice_bounds-bytes-end : goal.slice_bounds-bytes-end
slice_bounds-bytes-end c = omega (arith, short (goal.at.slice_bounds-bytes-end c).After-size-2)

pub slice_bounds-send-end : goal.slice_bounds-send-end
slice_bounds-send-end c = sym (length-take-le _ c.pack.new.bytes (omega (arith, short (goal.at.slice_bounds-send-end c).After-size-2, c.pack.auto)))

pub returns : goal.returns
returns c =
    let a = c.args in
    let at = goal.at.returns c in
    let words : Words a.row.now = λ i. (c.shared_slice_known-1.given i).fits in
    let f = fit at.In_ok-shape in
    let packed = payload_packed a.kind a.row.now words f _ (shown at.In_ok-shape) (sized at.After-size-2) c.pack.ensures (omega arith) in
    let both = wrote_sent a.kind a.writer a.row.now a.out.now words f packed (c.send.ensures.result_value, c.send.ensures.out_after) in
    record { result_value = both.0; out_after = both.1 }
