-- One question: with an observation the reader moves on, and with a refusal it stays.
use mathlib.Core.Path.{◌≡◌, refl, sym, ap, ◌∙◌}
use mathlib.Core.Bool.{Bool, true, false}
use mathlib.Core.List.{List}
use Prim.Native.Nat.{ℕ, suc, ◌+◌, ◌≤◌, ◌<◌}
use native.Mathlib.Nat.{add-zero}
use native.Mathlib.Numerals.{add-one}
use native.Mathlib.Omega.{arith}
use lib.Dec.{ltb}
use lib.ListN.{length}
use borrow.Author.Tests.{ltb-true, ltb-false}
use Rattle.refusals.specs.Refusals.{refused, given, Answer}
use Rattle.refusals.proofs.Distinct.{never_both}
use Rattle.observation.specs.Edition.{fitting, count_in, first, is_obs}
use Rattle.observation.specs.Obs.{entry_at, read_entry_of}
use Rattle.observation.specs.declared.entry.Observation.{Observation}
use Rattle.observation.proofs.Editions.{whole}
use Rattle.observation.proofs.ObsReading.{entry_22, entry_25, entry_given, of_obs, of_21}
use Rattle.obs_reader.specs.Reader.{moved_by, at_after, asked}
use Rattle.obs_reader.specs.declared.ObsReader.{ObsReader}

module _ (kind : ℕ) (s : List ℕ) (i : ℕ) where
  moves_on : {o : Observation} → read_entry_of kind s i ≡ given o → at_after kind s i ≡ i + 1
  unfolding at_after
  moves_on r = ap (λ (a : Answer Observation). i + moved_by a) r

  pub stays : {n : ℕ} → read_entry_of kind s i ≡ refused n → at_after kind s i ≡ i
  unfolding at_after
  stays r = ap (λ (a : Answer Observation). i + moved_by a) r ∙ add-zero i

  -- ---- over an observation type

  module _ (is : is_obs kind ≡ true) where
    pub past_22 : fitting first (length s) ≡ false → read_entry_of kind s i ≡ refused 22
    past_22 e = of_obs s i kind is ∙ entry_22 first s i e

    pub past_25 : fitting first (length s) ≡ true → count_in first (length s) ≤ i → read_entry_of kind s i ≡ refused 25
    past_25 e h = of_obs s i kind is ∙ entry_25 first s i e h

    pub hands_out : fitting first (length s) ≡ true → i < count_in first (length s) → read_entry_of kind s i ≡ given (entry_at first s i)
    hands_out e h = of_obs s i kind is ∙ entry_given first s i e h

    pub before_the_last : fitting first (length s) ≡ true → i < count_in first (length s) → at_after kind s i ≡ suc i
    before_the_last e h = moves_on (hands_out e h) ∙ add-one i

  -- ---- an observation stands below 15, so where the reader stands stays a number of the machine

  pub at_small : {o : Observation} → read_entry_of kind s i ≡ given o → i < 15
  at_small g = typed (is_obs kind) refl
    where
      within : (t : Bool) → is_obs kind ≡ true → fitting first (length s) ≡ true → ltb i (count_in first (length s)) ≡ t → i < 15
      within true is e h = omega (arith, (whole first (length s) e).1, ltb-true i (count_in first (length s)) h)
      within false is e h = absurd (never_both g (past_25 is e (ltb-false i (count_in first (length s)) h)))

      fits : (t : Bool) → is_obs kind ≡ true → fitting first (length s) ≡ t → i < 15
      fits true is e = within (ltb i (count_in first (length s))) is e refl
      fits false is e = absurd (never_both g (past_22 is e))

      typed : (t : Bool) → is_obs kind ≡ t → i < 15
      typed true is = fits (fitting first (length s)) is refl
      typed false is = absurd (never_both g (of_21 s i kind is))

-- ---- the reader itself

module _ (r : ObsReader) where
  pub asked_given : {o : Observation} → read_entry_of r.kind r.payload.now r.at ≡ given o → record { kind = r.kind; payload = r.payload; at = r.at + 1 } ≡ asked r
  asked_given g = λ i. record { kind = r.kind; payload = r.payload; at = sym (moves_on r.kind r.payload.now r.at g) i }

  pub asked_refused : {n : ℕ} → read_entry_of r.kind r.payload.now r.at ≡ refused n → r ≡ asked r
  asked_refused g = λ i. record { kind = r.kind; payload = r.payload; at = sym (stays r.kind r.payload.now r.at g) i }
