-- `row_reader::observation_row::read_observation_row` meets its contract: the answer of one observation, then the row's room.
use Rattle.std.proofs.Common.{◌≡◌, ℕ, Result, Err, sym, ap, ◌∙◌, rules}
use Rattle.refusals.specs.Refusals.{given, zero_or}
use Rattle.refusals.specs.Numbers.{answer_of}
use Rattle.refusals.specs.declared.Refusal.{Refusal}
use Rattle.observation.specs.Obs.{read_entry_of}
use Rattle.row_reader.proofs.ObservationRows.{one_refused, one_within, one_too_short, one_room, one_filled}
use Rattle.row_reader.proofs.observation_row.read_observation_row.Goals as goal
use Rattle.row_reader.proofs.observation_row.read_observation_row.Goals.{In_ok-read_observation_of}

abbrev told : Result (Unit {0}) Refusal → ℕ
told r = zero_or (answer_of r)

pub returns-in_err-read_observation_of : goal.returns-in_err-read_observation_of
returns-in_err-read_observation_of c =
    let a = c.args in
    let same : c.from_residual.result ≡ Err c.in_err-read_observation_of.field-0.0 = search rules in
    let both = one_refused a.kind a.payload.now a.index a.row.now (sym (ap answer_of c.in_err-read_observation_of.was) ∙ c.read_observation_of.ensures) in
    record { value = ap told same ∙ both.0; row_after = both.1 }

held : (c : In_ok-read_observation_of) → given c.in_ok-read_observation_of.field-0 ≡ read_entry_of c.args.kind c.args.payload.now c.args.index
held c = sym (ap answer_of c.in_ok-read_observation_of.was) ∙ c.read_observation_of.ensures

pub returns-then-row-count : goal.returns-then-row-count
returns-then-row-count c =
    let a = c.args in
    let h = held (goal.at.returns-then-row-count c).In_ok-read_observation_of in
    let both = one_too_short a.kind a.payload.now a.index a.row.now h c.shape_of-shape.ensures c.count.ensures c.if-row-count.true in
    record { value = both.0; row_after = both.1 }

pub fill_one-requires : goal.fill_one-requires
fill_one-requires c =
    let a = c.args in
    let h = held (goal.at.fill_one-requires c).In_ok-read_observation_of in
    record {
      each_in_bounds = one_within a.kind a.payload.now a.index a.row.now h c.shape_of-shape.ensures;
      each_in_bounds_2 = one_room a.kind a.payload.now a.index a.row.now h c.shape_of-shape.ensures c.count.ensures c.if-row-count.false;
    }

pub returns : goal.returns
returns c =
    let a = c.args in
    let h = held (goal.at.returns c).In_ok-read_observation_of in
    let both = one_filled a.kind a.payload.now a.index a.row.now h c.shape_of-shape.ensures c.count.ensures c.if-row-count.false c.fill_one.ensures in
    record { value = both.0; row_after = both.1 }
