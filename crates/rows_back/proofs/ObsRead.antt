-- An OBS payload's row: which lengths there are, and what is answered to each.
use mathlib.Core.Path.{◌≡◌, ap, ap₂, ◌∙◌}
use mathlib.Core.Bool.{Bool, true, false}
use mathlib.Core.List.{List, [], ◌∷◌}
use Prim.Native.Nat.{ℕ, ◌≤◌, ◌<◌}
use native.Mathlib.Omega.{arith}
use lib.Dec.{leb}
use lib.ListN.{length, drop, length-drop}
use borrow.Author.Tests.{le-leb, lt-leb}
use Rattle.refusals.specs.Refusals.{refused, given, Answer, ordered}
use Rattle.layouts.specs.Layout as lay
use Rattle.layouts.proofs.Layouts.{length-rows, lengths_true, lengths_false}
use Rattle.observation.specs.Edition.{obs, fitting, count_in, observation, first}
use Rattle.payloads.specs.Payloads.{entry_for}
use Rattle.payloads.proofs.Entries.{obs_allowed}
use Rattle.row_reader.specs.ReadRow.{read_row}
use Rattle.rows_back.specs.ObsRows.{Holds, shown}

module _ (s : List ℕ) where
  -- ---- lengths

  pub no_fit : ((k : ℕ) → Holds s k → ⊥) → fitting first (length s) ≡ false
  no_fit none = lengths_false (obs first).layout (length s) (λ h. none (count_in first (length s)) (omega arith))

  module _ (k : ℕ) (h : Holds s k) where
    pub fits : fitting first (length s) ≡ true
    fits = lengths_true (obs first).layout (length s) (omega arith)

    pub counted : count_in first (length s) ≡ k
    counted = omega arith

  -- ---- answers

  module _ (room : ℕ) where
    abbrev answer : Bool → Bool → ℕ → Answer (List ℕ)
    answer long wide k = ordered ((long, 22) ∷ (wide, 32) ∷ []) (shown s k)

    many : length (lay.decode_rows observation.fields (lay.count_in observation.fields (length (drop 7 s))) (drop 7 s)) ≡ count_in first (length s)
    many =
        length-rows observation.fields (lay.count_in observation.fields (length (drop 7 s))) (drop 7 s)
        ∙ ap (lay.count_in observation.fields) (length-drop 7 s)

    -- no field has a range
    by_tests : read_row 0x0049 s room ≡ answer (fitting first (length s)) (leb 4 room) (count_in first (length s))
    unfolding read_row entry_for
    by_tests =
        ap₂ (λ (t : Bool) (k : ℕ). ordered ((fitting first (length s), 22) ∷ (t, 23) ∷ (leb 4 room, 32) ∷ []) (shown s k)) (obs_allowed s) many

    pub gives_22 : ((k : ℕ) → Holds s k → ⊥) → read_row 0x0049 s room ≡ refused 22
    gives_22 none = by_tests ∙ rw (no_fit none)

    module _ (k : ℕ) (h : Holds s k) where
      pub gives_32 : room < 4 → read_row 0x0049 s room ≡ refused 32
      gives_32 few = by_tests ∙ rw (fits k h, lt-leb 4 room few)

      pub gives : 4 ≤ room → read_row 0x0049 s room ≡ given (shown s k)
      gives enough = by_tests ∙ rw (fits k h, le-leb 4 room enough, counted k h)
