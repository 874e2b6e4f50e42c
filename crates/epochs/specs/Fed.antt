-- A collator with what came of it.
use Rattle.std.specs.Prelude.{ℕ}
use Rattle.epochs.specs.declared.collating.Collator.{Collator}
use Rattle.epochs.specs.Happened.{Happened}

-- fed a frame: the collator after it, and what the frame came to
pub record Fed : Type 0 where
  pub collator : Collator
  pub happened : Happened

-- made of a roster: 0, or 41 or 42 with a collator that lists nobody
pub record Made : Type 0 where
  pub collator : Collator
  pub number : ℕ
