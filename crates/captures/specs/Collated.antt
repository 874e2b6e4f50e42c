-- A capture collated: 0, or the roster's 41 or 42; the end state, and how many epochs each place reported.
use Rattle.std.specs.Prelude.{ℕ, List}
use Rattle.epochs.specs.declared.collating.Collator.{Collator}

pub record Collated : Type 0 where
  pub number : ℕ
  pub collator : Collator
  pub reports : List ℕ
