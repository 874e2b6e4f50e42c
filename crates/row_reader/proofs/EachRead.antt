-- Each message read as numbers is its record's fields, once for the whole list.
use mathlib.Core.Path.{◌≡◌, refl, sym, ap, ◌∙◌}
use mathlib.Core.Bool.{Bool, true, false}
use mathlib.Core.List.{List, [], ◌∷◌, ◌++◌}
use Prim.Native.Nat.{ℕ, ◌≤◌}
use lib.ListN.{length}
use borrow.Author.Tests.{le-leb}
use Rattle.refusals.specs.Refusals.{Tests, ordered, mapped, room_for}
use Rattle.layouts.specs.Layout.{decode_body}
use Rattle.layouts.specs.Description.{inside, reading, read_as}
use Rattle.formats.specs.Wide.{wide_row, wide_body, number_count}
use Rattle.observation.specs.Edition.{first}
use Rattle.observation.specs.Obs.{entry_at, one_of_frame, read_entry_of}
use Rattle.payloads.specs.Payloads.{Described, messages, Entry, tests_of}
use Rattle.payloads.proofs.Entries.{Found, found, all_of}
use Rattle.row_reader.specs.ReadRow.{read_row, observation_numbers, read_one}
use Rattle.row_reader.specs.ReadsTyped.{ReadsTyped, AllRead}

-- a last test that passes changes no answer
last_passes : {A B : Type 0} (ts : Tests) (n : ℕ) (x : A) (f : A → B) → ordered (ts ++ (true, n) ∷ []) (f x) ≡ mapped f (ordered ts x)
last_passes [] n x f = refl
last_passes ((true, m) ∷ ts) n x f = last_passes ts n x f
last_passes ((false, m) ∷ ts) n x f = refl

-- reading it as numbers is reading the record, and then each field as a number
pub reads_typed : (m : Described) → Found m → ReadsTyped m
unfolding read_row read_as
reads_typed m own s room enough =
    let d = m.description in
    ap (λ (e : Entry). ordered (tests_of e s ++ room_for (number_count e.layout) room) (wide_body e.layout (decode_body e.layout s))) own.0
    ∙ ap (λ (t : Bool). ordered ((reading d s).tests ++ (t, 32) ∷ []) (wide_body d.layout (decode_body d.layout s))) (le-leb (number_count d.layout) room enough)
    ∙ ap (λ v. ordered ((reading d s).tests ++ (true, 32) ∷ []) (wide_body d.layout v)) (sym (d.row_make (decode_body d.layout s)))
    ∙ last_passes (reading d s).tests 32 (inside d s) (λ r. wide_body d.layout (d.row r))

-- and so is an observation
one : (kind : ℕ) (s : List ℕ) (i room : ℕ) → length first.row.fields ≤ room
    → read_one kind s i room ≡ mapped (λ o. wide_row first.row.fields (first.row.row o)) (read_entry_of kind s i)
unfolding read_one read_entry_of
one kind s i room enough =
    ap (λ (t : Bool). ordered ((one_of_frame kind s i).tests ++ (t, 32) ∷ []) (observation_numbers s i)) (le-leb (length first.row.fields) room enough)
    ∙ last_passes (one_of_frame kind s i).tests 32 (entry_at first s i) (λ o. wide_row first.row.fields (first.row.row o))

pub all_read : AllRead
all_read = record { each = all_of {P = Found} {Q = ReadsTyped} reads_typed messages found; one = one }
