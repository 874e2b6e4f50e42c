-- `obs_writer::obs_write::put_entries` meets its contract: an observation stored leaves one less.
use Rattle.std.proofs.Common.{ap, ◌∙◌, List, arith}
use Rattle.std.proofs.Math.Seq.{take-length}
use Rattle.layouts.specs.Inner.{rows_stored}
use Rattle.layouts.specs.Description.{rows_of}
use Rattle.observation.specs.Edition.{observation}
use Rattle.observation.specs.declared.entry.Observation.{Observation}
use Rattle.obs_writer.proofs.EntriesStored.{stored_none, stored_more, stored_all}
use Rattle.obs_writer.proofs.obs_write.put_entries.Goals as goal

pub loop-i-init : goal.loop-i-init
loop-i-init c = stored_none (omega arith) c.requires.entries_in_bounds

pub loop-i-preserved : goal.loop-i-preserved
loop-i-preserved c = stored_more c.loop-i.invariant c.loop-i-test.true _ c.put.ensures

pub returns : goal.returns
returns c =
    stored_all c.loop-i.invariant c.loop-i-test.false
    ∙ ap (λ (os : List Observation). rows_stored observation.fields (rows_of observation os) c.args.buf.now 13) (take-length c.args.entries.now)
