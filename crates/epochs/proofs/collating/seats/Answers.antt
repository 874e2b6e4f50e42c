-- `epochs::collating::seats` meets its contract.
use Rattle.std.proofs.Common.{List, ℕ, ◌++◌, drop, length, replicate, ap, ◌∙◌, arith}
use Rattle.epochs.proofs.Searches.{seats_left}
use Rattle.epochs.proofs.collating.seats.Goals as goal

pub returns : goal.returns
returns c =
    let roster = c.args.roster.now in
    ap (λ (xs : List ℕ). xs ++ drop (length roster) (replicate 8 0)) c.copy_from_slice.ensures.after ∙ seats_left roster 8 8 c.requires (omega arith)
