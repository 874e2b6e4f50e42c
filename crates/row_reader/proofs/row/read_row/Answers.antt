-- `row_reader::row::read_row` meets its contract: the payload's answer, then the row's room.
use Rattle.std.proofs.Common.{◌≡◌, ℕ, Result, Err, refl, sym, ap, ◌∙◌, rules}
use Rattle.refusals.specs.Refusals.{zero_or}
use Rattle.refusals.specs.Numbers.{answer_of}
use Rattle.refusals.specs.declared.Refusal.{Refusal}
use Rattle.payloads.specs.Payloads.{answer_for, shape_for}
use Rattle.payloads.proofs.TypesFound.{has_number, untyped, some_number}
use Rattle.row_reader.proofs.Rows.{row_refused, row_whole, row_too_short, row_room, row_filled}
use Rattle.row_reader.proofs.row.read_row.Goals as goal
use Rattle.row_reader.proofs.row.read_row.Goals.{In_ok-accept, After-shape_of_type-shape}

abbrev told : Result (Unit {0}) Refusal → ℕ
told r = zero_or (answer_of r)

pub returns-in_err-message : goal.returns-in_err-message
returns-in_err-message c =
    let a = c.args in
    let x = c.in_err-message.field-0.0 in
    let same : c.from_residual.result ≡ Err x = search rules in
    let both = row_refused a.kind a.payload.now a.row.now (ap zero_or (untyped a.kind c.message_type.ensures c.in_err-message.was a.payload.now)) (some_number x) in
    record { value = ap told same ∙ both.0; row_after = both.1 }

pub returns-in_err-accept : goal.returns-in_err-accept
returns-in_err-accept c =
    let a = c.args in
    let x = c.in_err-accept.field-0.0 in
    let same : c.from_residual-in_err-accept.result ≡ Err x = search rules in
    let number = has_number a.kind c.message_type.ensures c.in_ok-message.was in
    let answered = sym (ap told c.in_err-accept.was) ∙ c.accept.ensures ∙ sym (ap (λ (k : ℕ). answer_for k a.payload.now) number) in
    let both = row_refused a.kind a.payload.now a.row.now answered (some_number x) in
    record { value = ap told same ∙ both.0; row_after = both.1 }

-- past the tests: no number, and the shape of the type
answered : (c : In_ok-accept) → 0 ≡ answer_for c.args.kind c.args.payload.now
answered c =
    let number = has_number c.args.kind c.message_type.ensures c.in_ok-message.was in
    sym (ap told c.in_ok-accept.was) ∙ c.accept.ensures ∙ sym (ap (λ (k : ℕ). answer_for k c.args.payload.now) number)

shown : (c : After-shape_of_type-shape) → c.shape_of_type-shape.result ≡ shape_for c.args.kind
shown c = c.shape_of_type-shape.ensures ∙ sym (ap shape_for (has_number c.args.kind c.message_type.ensures c.in_ok-message.was))

pub returns-then-row-numbers : goal.returns-then-row-numbers
returns-then-row-numbers c =
    let at = goal.at.returns-then-row-numbers c in
    let a = c.args in
    let both = row_too_short a.kind a.payload.now a.row.now (answered at.In_ok-accept) refl (shown at.After-shape_of_type-shape) c.numbers.ensures c.if-row-numbers.true in
    record { value = both.0; row_after = both.1 }

pub fill-requires : goal.fill-requires
fill-requires c =
    let at = goal.at.fill-requires c in
    let a = c.args in
    record {
      more_in_bounds = row_whole a.kind a.payload.now a.row.now (answered at.In_ok-accept) refl (shown at.After-shape_of_type-shape);
      s_in_bounds =
          row_room a.kind a.payload.now a.row.now (answered at.In_ok-accept) refl (shown at.After-shape_of_type-shape) c.numbers.ensures c.if-row-numbers.false;
    }

pub returns : goal.returns
returns c =
    let at = goal.at.returns c in
    let a = c.args in
    let both = row_filled a.kind a.payload.now a.row.now (answered at.In_ok-accept) refl (shown at.After-shape_of_type-shape) c.numbers.ensures c.if-row-numbers.false c.fill.ensures in
    record { value = both.0; row_after = both.1 }
