-- `epochs::collating::repeated` meets its contract. The loop's invariant: the answer is that of what is left.
use Rattle.std.proofs.Common.{true, false, sym, ◌∙◌, rules}
use Rattle.epochs.proofs.Searches.{repeats_none, repeats_on}
use Rattle.epochs.proofs.collating.repeated.Goals as goal

pub returns-then-is_some : goal.returns-then-is_some
returns-then-is_some c =
    sym (c.loop-i.invariant ∙ repeats_on c.args.roster.now c.loop-i.i true (search rules) c.search.ensures (sym c.is_some.ensures ∙ c.if-is_some.true))

pub loop-i-preserved : goal.loop-i-preserved
loop-i-preserved c =
    c.loop-i.invariant ∙ repeats_on c.args.roster.now c.loop-i.i false (search rules) c.search.ensures (sym c.is_some.ensures ∙ c.if-is_some.false)

pub returns : goal.returns
returns c = sym (c.loop-i.invariant ∙ repeats_none c.args.roster.now c.loop-i.i (search rules))
