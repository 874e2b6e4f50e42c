-- A whole capture collated: its frames, read closed, fed in order, and how many epochs each place reported.
use Rattle.std.specs.Prelude.{ℕ, ◌+◌, ◌%◌, ◌^◌, cond, List, [], ◌∷◌, replicate, ◌==◌, slice_index, slice_set, Result, Ok, Err, Option, Some, None}
use Rattle.refusals.specs.Refusals.{refused}
use Rattle.refusals.specs.Numbers.{number_of}
use Rattle.refusals.specs.declared.Refusal.{Refusal}
use Rattle.epochs.specs.Search.{seat_of}
use Rattle.epochs.specs.Collator.{roster_of, fed_frame, as_made, made}
use Rattle.epochs.specs.Epoch.{contents_of}
use Rattle.frames.specs.Frame.{Content}
use Rattle.epochs.specs.declared.collating.Collator.{Collator}
use Rattle.epochs.specs.Fed.{Made}
use Rattle.epochs.specs.Happened.{Happened}
use Rattle.epochs.specs.Happened.{Refused, Taken, Epoch}
use Rattle.captures.specs.Collated.{Collated}
use Rattle.captures.specs.declared.capturing.Collated as code

abbrev pub begun : Made → Collated
begun m = record { number = m.number; collator = m.collator; reports = replicate 8 0 }

-- one more at a seat. The count wraps, so that no state traps
abbrev pub one_more : List ℕ → Option ℕ → List ℕ
one_more counts None = counts
one_more counts (Some i) = slice_set counts i ((slice_index counts i + 1) % 2 ^ 64)

-- a report counts at its sender's seat
abbrev pub counted : Collator → Happened → List ℕ → List ℕ
counted c (Refused n) counts = counts
counted c Taken counts = counts
counted c (Epoch r) counts = one_more counts (seat_of (roster_of c) r.sender 0)

abbrev pub fed_into : Collated → Content → Collated
fed_into t x =
    let f = fed_frame t.collator x in
    record { number = t.number; collator = f.collator; reports = counted t.collator f.happened t.reports }

-- what the code holds, and what it answers
abbrev pub going : code.Collated → Collated
going t = record { number = 0; collator = t.collator; reports = t.reports }

abbrev pub collated_of : Result code.Collated Refusal → Collated
collated_of (Ok t) = going t
collated_of (Err e) = begun (as_made (refused (number_of e)))

unfoldable pub fed_all : Collated → List Content → Collated
fed_all t [] = t
fed_all t (x ∷ xs) = fed_all (fed_into t x) xs

-- a refused roster is fed nothing
unfoldable pub collated : List ℕ → List ℕ → Collated
unfolding fed_all made
collated s roster = let m = made roster in cond (m.number == 0) (fed_all (begun m) (contents_of s)) (begun m)
