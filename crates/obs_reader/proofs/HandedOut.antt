-- Many questions, one after the other: from the first on a reader hands out the payload's observations in order, each once, and then refuses
-- for good.
use mathlib.Core.Path.{◌≡◌, refl, sym, ap, ap₂, ◌∙◌, subst}
use mathlib.Core.Bool.{Bool, true, false}
use mathlib.Core.List.{List, ◌∷◌, ◌++◌, map}
use Prim.Native.Nat.{ℕ, zero, suc, ◌+◌}
use native.Mathlib.Nat.{zero-add, suc-add}
use native.Mathlib.Omega.{arith}
use lib.ListN.{length, replicate}
use Rattle.layouts.specs.Description.{inside, read_as}
use Rattle.refusals.specs.Refusals.{refused, given}
use Rattle.observation.specs.Edition.{Observed, obs, fitting, count_in, Head, first, is_obs}
use Rattle.observation.specs.Obs.{entry_at, read_entry_of}
use Rattle.observation.specs.declared.entry.Observation.{Observation}
use Rattle.observation.proofs.ObsReading.{of_21, entries_from, length-entries, entries_in, read_whole}
use Rattle.obs_reader.specs.Walk.{answers, standing, Walk, HandsOut, observations_in, past_them}
use Rattle.obs_reader.proofs.OneQuestion.{stays, past_22, past_25, hands_out, before_the_last}

module _ (kind : ℕ) (s : List ℕ) where
  -- a refusal comes again at each question, and the reader stays
  pub refused_again : (i : ℕ) {k : ℕ} → read_entry_of kind s i ≡ refused k → (n : ℕ) → Walk n kind s i (replicate n (refused k)) i
  unfolding answers standing
  refused_again i e zero = record { answered = refl; stands = refl }
  refused_again i e (suc n) =
      let rest = refused_again i e n in
      record { answered = ap₂ ◌∷◌ e (ap (answers n kind s) (stays kind s i e) ∙ rest.answered); stands = ap (standing n kind s) (stays kind s i e) ∙ rest.stands }

  -- over an observation's payload of a right length: the n observations from i on, and then 25
  pub walk_from : is_obs kind ≡ true → fitting first (length s) ≡ true → (n i : ℕ) → i + n ≡ count_in first (length s) → (more : ℕ)
      → Walk (n + more) kind s i (map given (entries_from first n i s) ++ replicate more (refused 25)) (count_in first (length s))
  unfolding answers standing
  walk_from is fits zero i e more =
      let rest = refused_again i (past_25 kind s i is fits (omega arith)) more in
      subst (λ (k : ℕ). Walk k kind s i (replicate more (refused 25)) (count_in first (length s))) (sym (zero-add more)) (record { answered = rest.answered; stands = rest.stands ∙ (omega arith) })
  walk_from is fits (suc n) i e more =
      let moved = before_the_last kind s i is fits (omega arith) in
      let rest = walk_from is fits n (suc i) (omega arith) more in
      subst (λ (k : ℕ). Walk k kind s i (given (entry_at first s i) ∷ map given (entries_from first n (suc i) s) ++ replicate more (refused 25)) (count_in first (length s))) (sym (suc-add n more))
      (record {
        answered = ap₂ ◌∷◌ (hands_out kind s i is fits (omega arith)) (ap (answers (n + more) kind s) moved ∙ rest.answered);
        stands = ap (standing (n + more) kind s) moved ∙ rest.stands;
      })

  -- over an observation's payload of a right length
  whole : is_obs kind ≡ true → fitting first (length s) ≡ true → (more : ℕ) → HandsOut kind s more (inside (obs first) s).observations
  whole is fits more = subst (HandsOut kind s more) (entries_in first s) (rw length-entries (walk_from is fits (count_in first (length s)) 0 (omega arith) more))

  -- what is read whole is what is handed out
  pub read_walk : is_obs kind ≡ true → (r : Observed Head Observation) → read_as (obs first) s ≡ given r → (more : ℕ) → HandsOut kind s more r.observations
  read_walk is r g more =
      let read = read_whole first s r g in
      subst (λ (r : Observed Head Observation). HandsOut kind s more r.observations) read.1 (whole is read.0 more)

  abbrev Whole : ℕ → Type 0
  Whole more = Walk (length (observations_in kind s) + more) kind s 0 (map given (observations_in kind s) ++ replicate more (past_them kind s)) (length (observations_in kind s))

  -- over any payload: the observations in order, each once; then 25 for good, 22 where the length is wrong, 21 where the type is no
  -- observation's; and the reader stands behind the last
  pub whole_walk : (more : ℕ) → Whole more
  unfolding observations_in past_them
  whole_walk more = typed (is_obs kind) refl
    where
      fits : (t : Bool) → is_obs kind ≡ true → fitting first (length s) ≡ t → Whole more
      fits true is e = rw (is, e) (whole is e more)
      fits false is e = rw (is, e, zero-add) (refused_again 0 (past_22 kind s 0 is e) more)

      typed : (t : Bool) → is_obs kind ≡ t → Whole more
      typed true is = fits (fitting first (length s)) is refl
      typed false is = rw (is, zero-add) (refused_again 0 (of_21 s 0 kind is) more)
