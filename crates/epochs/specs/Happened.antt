-- What a frame that is fed comes to: a refusal, by its number, nothing yet, or an epoch.
use Rattle.std.specs.Prelude.{ℕ}
use Rattle.epochs.specs.declared.collating.Report.{Report}

pub data Happened : Type 0 where
  Refused : ℕ → Happened
  Taken : Happened
  Epoch : Report → Happened
