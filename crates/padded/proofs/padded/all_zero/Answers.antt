-- `padded::padded::all_zero` meets its contract.
use Rattle.std.proofs.Common.{rules, tests, ◌∙◌, eqb}
use Rattle.std.proofs.lemmas.Iterator.{YieldsList-from_slice}
use Rattle.std.proofs.lemmas.Iterator.Search.{all_from_yields_List}
use Rattle.padded.proofs.Texts.{each_zero}
use Rattle.padded.proofs.padded.all_zero.Goals as goal

pub returns : goal.returns
returns c =
    all_from_yields_List (λ b. eqb b 0) _ _ c.all.result c.all.ensures.ran (YieldsList-from_slice c.args.s.now cc) (λ x b q k. search (rules, tests))
    ∙ each_zero c.args.s.now
