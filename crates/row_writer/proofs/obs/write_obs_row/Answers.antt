-- `row_writer::obs::write_obs_row` meets its contract: refused by its numbers, or packed and sent.
use mathlib.Core.Path.{◌≡◌, sym, ap, ◌∙◌, subst}
use mathlib.Core.Bool.{true}
use Prim.Native.Nat.{ℕ, ◌+◌, ◌*◌, ◌/◌, ◌≤◌}
use native.Mathlib.Omega.{arith}
use Rattle.std.proofs.Common.{Result, Err, rules}
use lib.ListN.{length, take}
use lib.Seq.{length-take-le}
use Rattle.refusals.specs.Refusals.{given, ordered}
use Rattle.refusals.specs.Numbers.{answer_of}
use Rattle.refusals.specs.declared.Refusal.{Refusal}
use Rattle.layouts.specs.Inner.{rows_stored}
use Rattle.formats.specs.Wide.{narrow_rows, fits_rows}
use Rattle.formats.proofs.Narrow.{Words}
use Rattle.observation.specs.Edition.{observation}
use Rattle.row_writer.specs.WriteObsRow.{rows_in}
use Rattle.row_writer.specs.Inner.{testing_obs_row}
use Rattle.row_writer.proofs.Tested.{all_pass}
use Rattle.row_writer.proofs.ObsPacked.{payload_packed}
use Rattle.row_writer.proofs.ObsSent.{Fitting, fitting, few_rows, fitting_rows, wrote_refused, wrote_sent}
use Rattle.row_writer.proofs.obs.write_obs_row.Goals as goal
use Rattle.row_writer.proofs.obs.write_obs_row.Goals.{In_ok-k}

-- past the tests: how many observations they are, every number fits, and there are few
passed : (c : In_ok-k) → let a = c.args in given c.in_ok-k.k ≡ ordered (testing_obs_row a.kind a.head.now a.rows.now) (rows_in (length a.rows.now))
passed c = sym (ap answer_of c.in_ok-k.was) ∙ c.count_of.ensures

fit : (c : In_ok-k) → let a = c.args in Fitting a.kind a.head.now a.rows.now
fit c = let a = c.args in fitting a.kind a.head.now a.rows.now (rows_in (length a.rows.now)) (passed c)

counted : (c : In_ok-k) → length c.args.rows.now / 8 ≡ c.in_ok-k.k
counted c = let a = c.args in (all_pass (testing_obs_row a.kind a.head.now a.rows.now) (rows_in (length a.rows.now)) (passed c)).1

few : (c : In_ok-k) → c.in_ok-k.k ≤ 15
few c = let a = c.args in omega (arith, few_rows a.kind a.head.now a.rows.now (fit c), counted c)

pub returns-in_err-k : goal.returns-in_err-k
returns-in_err-k c =
    let a = c.args in
    let same : c.from_residual.result ≡ Err c.in_err-k.field-0.0 = search rules in
    let both = wrote_refused a.kind a.writer a.head.now a.rows.now a.out.now (rows_in (length a.rows.now)) (sym (ap answer_of c.in_err-k.was) ∙ c.count_of.ensures) in
    record { result_value = ap (λ (r : Result ℕ Refusal). answer_of r) same ∙ both.0; out_after = both.1 }

pub pack_rows-requires : goal.pack_rows-requires
pack_rows-requires c =
    let a = c.args in
    let at = (goal.at.pack_rows-requires c).In_ok-k in
    let rows = (fitting_rows a.kind a.head.now a.rows.now (fit at)).1 in
    record {
      k_in_bounds = omega (arith, counted at);
      k_in_bounds_2 = omega (arith, few at, c.store_run.auto);
      rows_value = subst (λ (k : ℕ). fits_rows observation.fields k a.rows.now 0 ≡ true) (counted at) rows;
    }

pub slice_bounds-bytes-end : goal.slice_bounds-bytes-end
slice_bounds-bytes-end c = omega (arith, few (goal.at.slice_bounds-bytes-end c).In_ok-k)

pub slice_bounds-write_frame-end : goal.slice_bounds-write_frame-end
slice_bounds-write_frame-end c =
    sym (length-take-le _ c.pack_rows.new.bytes (omega (arith, few (goal.at.slice_bounds-write_frame-end c).In_ok-k, c.pack_rows.auto, c.store_run.auto)))

pub returns : goal.returns
returns c =
    let a = c.args in
    let at = (goal.at.returns c).In_ok-k in
    let f = fit at in
    let words : Words a.head.now = λ i. (c.shared_slice_known-1.given i).fits in
    let packed = payload_packed a.head.now a.rows.now words (fitting_rows a.kind a.head.now a.rows.now f).0 _ c.store_run.ensures
    (c.pack_rows.ensures ∙ ap (λ (k : ℕ). rows_stored observation.fields (narrow_rows observation.fields k a.rows.now 0) c.store_run.new.buf 7) (sym (counted at)))
    (omega (arith, few at, counted at)) in
    let on = ap (λ (k : ℕ). take (7 + k * 16) c.pack_rows.new.bytes) (sym (counted at)) in
    let both = wrote_sent a.kind a.writer a.head.now a.rows.now a.out.now f (on ∙ packed) c.write_frame.ensures.result_value c.write_frame.ensures.buf_after in
    record { result_value = both.0; out_after = both.1 }
