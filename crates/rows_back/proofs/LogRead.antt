-- A LOG payload's row, case by case.
use mathlib.Core.Path.{◌≡◌, refl, sym, ap, ◌∙◌}
use mathlib.Core.Bool.{Bool, true, false}
use mathlib.Core.List.{List, [], ◌∷◌}
use mathlib.Core.Logic.{◌⊎◌, inl, inr}
use Prim.Native.Nat.{ℕ, ◌≤◌, ◌<◌}
use native.Mathlib.Omega.{arith}
use lib.Dec.{leb}
use lib.ListN.{length, drop}
use borrow.Author.Tests.{le-leb, lt-leb}
use Rattle.refusals.specs.Refusals.{refused, given, ordered}
use Rattle.refusals.proofs.Distinct.{never_both}
use Rattle.wire.specs.Number.{number_at}
use Rattle.padded.specs.Padded.{before_zero, from_zero}
use Rattle.layouts.proofs.Layouts.{lengths_true, lengths_false}
use Rattle.logs.specs.Log.{log, log_length, log_padded}
use Rattle.logs.specs.LogFaithful.{NonzeroAfterZero}
use Rattle.logs.proofs.Logs.{as_padded, log_23, log_given, log_faithful}
use Rattle.payloads.specs.Payloads.{entry_for}
use Rattle.row_reader.specs.ReadRow.{read_row}
use Rattle.rows_back.specs.LogRows.{Sized, Parts}
use Rattle.rows_back.proofs.Texts.{padded, text_long, zeros_long, parts_of}

module _ (s : List ℕ) where
  -- ---- the tests

  no_fit : (Sized s → ⊥) → log_length (length s) ≡ false
  no_fit none = lengths_false log.layout (length s) (λ h. none (omega arith))

  module _ (h : Sized s) where
    fits : log_length (length s) ≡ true
    fits = lengths_true log.layout (length s) (omega arith)

    not_padded : NonzeroAfterZero s → log_padded s ≡ false
    not_padded some = by (log_padded s) refl
      where
        by : (t : Bool) → log_padded s ≡ t → log_padded s ≡ false
        by true e = absurd (never_both (sym (log_given s fits e refl)) ((log_faithful.read_23 s).1 (fits, some)))
        by false e = e

    pub either : NonzeroAfterZero s ⊎ ((text : List ℕ) × (n : ℕ) × Parts s text n)
    either = by (log_padded s) refl
      where
        by : (t : Bool) → log_padded s ≡ t → NonzeroAfterZero s ⊎ ((text : List ℕ) × (n : ℕ) × Parts s text n)
        by true e = inr (before_zero (drop 1 s), length (from_zero (drop 1 s)), parts_of s e)
        by false e = inl ((log_faithful.read_23 s).0 (sym (log_23 s fits e))).1

  -- ---- answers

  module _ (room : ℕ) where
    abbrev numbers : List ℕ
    numbers = number_at 1 s 0 ∷ length (before_zero (drop 1 s)) ∷ length (from_zero (drop 1 s)) ∷ []

    by_tests : read_row 0x0401 s room ≡ ordered ((log_length (length s), 22) ∷ (log_padded s, 23) ∷ (leb 3 room, 32) ∷ []) numbers
    unfolding read_row entry_for
    by_tests = ap (λ (t : Bool). ordered ((log_length (length s), 22) ∷ (t, 23) ∷ (leb 3 room, 32) ∷ []) numbers) (as_padded s)

    pub gives_22 : (Sized s → ⊥) → read_row 0x0401 s room ≡ refused 22
    gives_22 none = by_tests ∙ rw (no_fit none)

    module _ (h : Sized s) where
      pub gives_23 : NonzeroAfterZero s → read_row 0x0401 s room ≡ refused 23
      gives_23 some = by_tests ∙ rw (fits h, not_padded h some)

      module _ (text : List ℕ) (n : ℕ) (parts : Parts s text n) where
        pub gives_32 : room < 3 → read_row 0x0401 s room ≡ refused 32
        gives_32 few = by_tests ∙ rw (fits h, padded s text n parts, lt-leb 3 room few)

        pub gives : 3 ≤ room → read_row 0x0401 s room ≡ given (number_at 1 s 0 ∷ length text ∷ n ∷ [])
        gives enough = by_tests ∙ rw (fits h, padded s text n parts, le-leb 3 room enough, text_long s text n parts, zeros_long s text n parts)
