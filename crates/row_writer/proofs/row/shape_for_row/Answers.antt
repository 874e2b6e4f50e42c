-- `row_writer::row::shape_for_row` meets its contract, test by test.
use Rattle.std.proofs.Common.{◌≡◌, ◌+◌, true, ◌&&◌, length, Result, Err, sym, ap, ◌∙◌, arith, rules, eq-eqb, ne_eqb}
use Rattle.refusals.specs.Refusals.{refused, given}
use Rattle.refusals.specs.Numbers.{answer_of, number_of}
use Rattle.refusals.specs.declared.Refusal.{Refusal}
use Rattle.formats.specs.Wide.{fits_row, number_count}
use Rattle.formats.specs.Digits.{front_of}
use Rattle.formats.specs.declared.Shape.{Shape}
use Rattle.formats.proofs.Steps.{few}
use Rattle.payloads.specs.Payloads.{Entry, layout_for, known_for, shape_for}
use Rattle.payloads.proofs.TypesFound.{has_number, has_reading, has_no_entry, is_unknown}
use Rattle.row_writer.specs.WriteRow.{alone}
use Rattle.row_writer.proofs.Alone.{only_fields, counted_as, fits_shaped, has_tail, no_tail}
use Rattle.row_writer.proofs.RowsSent.{is_21, is_22, is_23, is_given}
use Rattle.row_writer.proofs.row.shape_for_row.Goals as goal
use Rattle.row_writer.proofs.row.shape_for_row.Goals.{After-count-2, After-fits, After-shape_of_type-shape, Else-shape-ne0}

-- the type has a reading, and this is its shape
known : (c : After-shape_of_type-shape) → known_for c.args.kind ≡ true
known c = has_reading c.args.kind c.message_type.ensures c.in_ok-message_type.was

shown : (c : After-shape_of_type-shape) → c.shape_of_type-shape.result ≡ shape_for c.args.kind
shown c = c.shape_of_type-shape.ensures ∙ sym (ap shape_for (has_number c.args.kind c.message_type.ensures c.in_ok-message_type.was))

pub returns-in_err-message_type : goal.returns-in_err-message_type
returns-in_err-message_type c =
    let a = c.args in
    let x = c.in_err-message_type.field-0.0 in
    let same : c.from_residual.result ≡ Err x = search rules in
    let none = ap (λ (e : Entry). e.known && alone e.layout) (has_no_entry a.kind c.message_type.ensures c.in_err-message_type.was) in
    ap (λ (r : Result Shape Refusal). answer_of r) same
    ∙ ap (λ (x : Refusal). refused (number_of x)) (is_unknown a.kind c.message_type.ensures c.in_err-message_type.was)
    ∙ is_21 a.kind a.row.now (shape_for a.kind) none

pub returns-then-shape-ne0 : goal.returns-then-shape-ne0
returns-then-shape-ne0 c =
    let a = c.args in
    let s = (goal.at.returns-then-shape-ne0 c).After-shape_of_type-shape in
    is_21 a.kind a.row.now (shape_for a.kind) (has_tail a.kind (shown s) (known s) c.if-shape-ne0.true)

pub overflow_add-count : goal.overflow_add-count
overflow_add-count c =
    omega (arith, c.count.ensures, c.count-2.ensures, (few 16 c.shape_of_type-shape.result.head).0, (few 16 c.shape_of_type-shape.result.more).0)

-- past the tests before
only : (c : Else-shape-ne0) → (known_for c.args.kind && alone (layout_for c.args.kind)) ≡ true
only c = let s = (goal.at.Else-shape-ne0 c).After-shape_of_type-shape in no_tail c.args.kind (shown s) (known s) c.if-shape-ne0.false

counted : (c : After-count-2) → c.count.result + c.count-2.result ≡ number_count (layout_for c.args.kind)
counted c =
    let at = goal.at.After-count-2 c in
    let kind = c.args.kind in
    counted_as kind (shown at.After-shape_of_type-shape) c.count.ensures c.count-2.ensures (only_fields kind (only at.Else-shape-ne0))

fitted : (c : After-fits) → c.fits.result ≡ fits_row (front_of (layout_for c.args.kind)) c.args.row.now 0
fitted c = let a = c.args in c.fits.ensures ∙ fits_shaped a.kind (shown (goal.at.After-fits c).After-shape_of_type-shape) a.row.now

pub returns-then-row-count : goal.returns-then-row-count
returns-then-row-count c =
    let a = c.args in
    let at = goal.at.returns-then-row-count c in
    is_22 a.kind a.row.now (shape_for a.kind) (only at.Else-shape-ne0)
    (ne_eqb (length a.row.now) (number_count (layout_for a.kind)) (λ e. c.if-row-count.true (e ∙ sym (counted at.After-count-2))))

pub returns-then-not-fits : goal.returns-then-not-fits
returns-then-not-fits c =
    let a = c.args in
    let at = goal.at.returns-then-not-fits c in
    is_23 a.kind a.row.now (shape_for a.kind) (only at.Else-shape-ne0)
    (eq-eqb (length a.row.now) (number_count (layout_for a.kind)) (c.if-row-count.false ∙ counted at.After-count-2)) (sym (fitted at.After-fits) ∙ c.if-not-fits.true)

pub returns : goal.returns
returns c =
    let a = c.args in
    let at = goal.at.returns c in
    ap given (shown at.After-shape_of_type-shape)
    ∙ is_given a.kind a.row.now (shape_for a.kind) (only at.Else-shape-ne0)
    (eq-eqb (length a.row.now) (number_count (layout_for a.kind)) (c.if-row-count.false ∙ counted at.After-count-2)) (sym (fitted at.After-fits) ∙ c.if-not-fits.false)
