-- `obs_writer::obs_write::write_obs` meets its contract.
use mathlib.Core.Path.{refl, ap, sym, ◌∙◌, ◌≡◌}
use Prim.Native.Nat.{◌≤◌}
use native.Mathlib.Omega.{arith}
use lib.ListN.{length}
use Rattle.std.proofs.Common.{rules}
use Rattle.std.proofs.lemmas.List.{length-take-le}
use Rattle.refusals.specs.Refusals.{refused}
use Rattle.refusals.specs.Numbers.{answer_of}
use Rattle.frame_writer.proofs.WrittenPlan.{known, fits}
use Rattle.observation.specs.Edition.{start_of, first}
use Rattle.obs_writer.specs.ObsWriter.{head_of}
use Rattle.obs_writer.proofs.ObsWritten.{Wrote, wrote_31, wrote_nothing, wrote}
use Rattle.obs_writer.proofs.obs_write.write_obs.Goals as goal
use Rattle.obs_writer.proofs.obs_write.write_obs.Goals.{Then-k-gt-MOST, In_err-written, After-seal}

too_many : (c : Then-k-gt-MOST) → Wrote first c.args.writer (head_of c.args.obs) c.args.obs.count c.args.entries c.args.buf.now (refused 31) c.args.buf.now
too_many c = let a = c.args in wrote_31 first a.writer (head_of a.obs) a.obs.count a.entries a.buf.now c.if-k-gt-MOST.true

no_room : (c : In_err-written) → Wrote first c.args.writer (head_of c.args.obs) c.args.obs.count c.args.entries c.args.buf.now (answer_of c.plan.result) c.args.buf.now
no_room c =
    let a = c.args in
    let enough : a.obs.count ≤ length a.entries = search rules in
    wrote_nothing first a.writer (head_of a.obs) a.obs.count a.entries a.buf.now enough (λ v. refl) (λ v. refl) c.if-k-gt-MOST.false c.plan.ensures
    (known c.plan.ensures c.in_err-written.was)

stored : (c : After-seal) → Wrote first c.args.writer (head_of c.args.obs) c.args.obs.count c.args.entries c.args.buf.now (answer_of c.plan.result) c.seal.new.buf
stored c =
    let a = c.args in
    let enough : a.obs.count ≤ length a.entries = search rules in
    wrote first a.writer (head_of a.obs) a.obs.count a.entries a.buf.now enough (λ v. refl) (λ v. refl) c.if-k-gt-MOST.false c.plan.ensures
    (known c.plan.ensures c.in_ok-written.was) c.put_head.ensures c.put_entries.ensures c.seal.ensures

pub put_entries-requires : goal.put_entries-requires
put_entries-requires c =
    let a = c.args in
    let enough : a.obs.count ≤ length a.entries = search rules in
    let room = fits (start_of first a.obs.count) (length a.buf.now) (known c.plan.ensures c.in_ok-written.was) in
    omega (arith, length-take-le a.obs.count a.entries enough, room, c.put_head.auto)

pub returns-then-k-gt-MOST-clause-result_value : goal.returns-then-k-gt-MOST-clause-result_value
returns-then-k-gt-MOST-clause-result_value c = (too_many (goal.at.returns-then-k-gt-MOST-clause-result_value c).Then-k-gt-MOST).0

pub returns-then-k-gt-MOST-clause-buf_after : goal.returns-then-k-gt-MOST-clause-buf_after
returns-then-k-gt-MOST-clause-buf_after c = (too_many (goal.at.returns-then-k-gt-MOST-clause-buf_after c).Then-k-gt-MOST).1

pub returns-in_err-written-clause-result_value : goal.returns-in_err-written-clause-result_value
returns-in_err-written-clause-result_value c =
    let same : c.from_residual.result ≡ c.plan.result = search rules in
    ap answer_of same ∙ (no_room (goal.at.returns-in_err-written-clause-result_value c).In_err-written).0

pub returns-in_err-written-clause-buf_after : goal.returns-in_err-written-clause-buf_after
returns-in_err-written-clause-buf_after c = (no_room (goal.at.returns-in_err-written-clause-buf_after c).In_err-written).1

pub returns-clause-result_value : goal.returns-clause-result_value
returns-clause-result_value c = sym (ap answer_of c.in_ok-written.was) ∙ (stored (goal.at.returns-clause-result_value c).After-seal).0

pub returns-clause-buf_after : goal.returns-clause-buf_after
returns-clause-buf_after c = (stored (goal.at.returns-clause-buf_after c).After-seal).1
