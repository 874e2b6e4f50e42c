-- `index::index::Index::tally` meets its contract: where a type has no place nothing is stored.
use Rattle.std.proofs.Common.{◌≡◌, ℕ, length, List, sym, ap, ◌∙◌, rules, refl}
use Rattle.payloads.specs.Places.{message_count}
use Rattle.index.proofs.Counts.{counted_here, counted_not}
use Rattle.index.proofs.index.Index.tally.Goals as goal

pub returns-in-Some : goal.returns-in-Some
returns-in-Some c =
    let x = c.args.self.now in
    ap (λ (counts : List ℕ). record { reached = x.reached; held = x.held; counts = counts }) (counted_here x.counts c.args.kind (sym c.in-Some.is ∙ c.place_of.ensures) refl)

pub returns-in_default : goal.returns-in_default
returns-in_default c =
    let x = c.args.self.now in
    let size : length x.counts ≡ message_count = search rules in
    ap (λ (counts : List ℕ). record { reached = x.reached; held = x.held; counts = counts }) (counted_not x.counts c.args.kind size (sym c.in_default.is ∙ c.place_of.ensures))
