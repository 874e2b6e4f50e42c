-- OBS read, over the edition: what each reading answers, case by case; and that they show the whole message: its header, how many observations it
-- has, and each of them.
use mathlib.Core.Path.{◌≡◌, refl, sym, ap, ap₂, ◌∙◌}
use mathlib.Core.Bool.{true, false}
use mathlib.Core.List.{List, [], ◌∷◌}
use Prim.Native.Nat.{ℕ, zero, suc, ◌+◌, ◌≤◌, ◌<◌}
use native.Mathlib.Nat.{zero-mul, suc-mul, zero-add, add-zero, add-suc, suc-add, not-suc-le-zero, le_of_suc-le-suc}
use native.Mathlib.Omega.{arith}
use lib.ListN.{length, get_or, drop, length-drop}
use lib.Seq.{drop-drop}
use borrow.Author.Tests.{lt-ltb, le-ltb}
use Rattle.layouts.specs.Field.{Row, allowed_row, size, decode}
use Rattle.layouts.specs.Layout.{decode_rows, allowed_body, decode_body}
use Rattle.layouts.specs.Layout as lay
use Rattle.layouts.specs.Description.{made_of, inside, reading, read_as}
use Rattle.refusals.specs.Refusals.{refused, given}
use Rattle.refusals.proofs.Ordered.{exactly_all}
use Rattle.layouts.proofs.Fields.{decode_drop}
use Rattle.layouts.proofs.Layouts.{allowed_rows_lem}
use Rattle.observation.specs.Edition.{Edition, Observed, obs, fitting, count_in, start_of, Head, first, is_obs}
use Rattle.observation.specs.Obs.{entry_at, read_entry, read_entry_of, shown, obs_in, read_obs}
use Rattle.observation.specs.declared.entry.Observation.{Observation}
use Rattle.observation.specs.declared.obs.Obs.{Obs}

-- ---- by cases

module _ {H O : Type 0} (e : Edition H O) (s : List ℕ) (i : ℕ) where
  pub entry_22 : fitting e (length s) ≡ false → read_entry e s i ≡ refused 22
  unfolding read_entry
  entry_22 no_fit = rw no_fit

  pub entry_25 : fitting e (length s) ≡ true → count_in e (length s) ≤ i → read_entry e s i ≡ refused 25
  unfolding read_entry
  entry_25 fits h = rw (fits, le-ltb i (count_in e (length s)) h)

  pub entry_given : fitting e (length s) ≡ true → i < count_in e (length s) → read_entry e s i ≡ given (entry_at e s i)
  unfolding read_entry
  entry_given fits h = rw (fits, lt-ltb i (count_in e (length s)) h)

module _ (s : List ℕ) where
  pub obs_given : fitting first (length s) ≡ true → read_obs s ≡ given (obs_in s)
  unfolding read_obs
  obs_given fits = rw fits

  -- by the frame's type
  module _ (i kind : ℕ) where
    pub of_obs : is_obs kind ≡ true → read_entry_of kind s i ≡ read_entry first s i
    unfolding read_entry read_entry_of
    of_obs is = rw is

    pub of_21 : is_obs kind ≡ false → read_entry_of kind s i ≡ refused 21
    unfolding read_entry_of
    of_21 is = rw is

-- ---- observations one by one are the whole message's

module _ {H O : Type 0} (e : Edition H O) where
  -- n of a payload's observations from the ith on
  abbrev pub entries_from : ℕ → ℕ → List ℕ → List O
  entries_from zero i s = []
  entries_from (suc n) i s = entry_at e s i ∷ entries_from n (suc i) s

  pub length-entries : (n i : ℕ) (s : List ℕ) → length (entries_from n i s) ≡ n
  length-entries zero i s = refl
  length-entries (suc n) i s = ap suc (length-entries n (suc i) s)

  entries_at : (n i : ℕ) (s : List ℕ) (j : ℕ) (d : O) → j < n → get_or (entries_from n i s) j d ≡ entry_at e s (i + j)
  entries_at zero i s j d h = absurd (not-suc-le-zero h)
  entries_at (suc n) i s zero d h = ap (entry_at e s) (sym (add-zero i))
  entries_at (suc n) i s (suc j) d h = entries_at n (suc i) s j d (le_of_suc-le-suc h) ∙ ap (entry_at e s) (suc-add i j ∙ sym (add-suc i j))

  entries_made : (n i : ℕ) (s : List ℕ) → entries_from n i s ≡ made_of e.row (decode_rows e.row.fields n (drop (start_of e i) s))
  entries_made zero i s = refl
  entries_made (suc n) i s =
      let next : start_of e (suc i) ≡ start_of e i + size e.row.fields = omega (arith, suc-mul i (size e.row.fields)) in
      ap₂ ◌∷◌ (ap e.row.make (decode_drop e.row.fields s (start_of e i)))
      (entries_made n (suc i) s
      ∙ ap (λ (t : List ℕ). made_of e.row (decode_rows e.row.fields n t)) (ap (λ (k : ℕ). drop k s) next ∙ sym (drop-drop (size e.row.fields) (start_of e i) s)))

  module _ (s : List ℕ) where
    pub entries_in : entries_from (count_in e (length s)) 0 s ≡ (inside (obs e) s).observations
    entries_in =
        let at_0 : start_of e 0 ≡ size e.header.fields = omega (arith, zero-mul (size e.row.fields)) in
        entries_made (count_in e (length s)) 0 s
        ∙ ap₂ (λ (n k : ℕ). made_of e.row (decode_rows e.row.fields (lay.count_in e.row.fields n) (drop k s))) (sym (length-drop (size e.header.fields) s)) at_0

    pub count_in_lem : length (inside (obs e) s).observations ≡ count_in e (length s)
    count_in_lem = sym (ap length entries_in) ∙ length-entries (count_in e (length s)) 0 s

    -- ---- where every field takes any value, only the length is looked at

    module _ (any-header : (v : Row e.header.fields) → allowed_row e.header.fields v ≡ true) (any-row : (v : Row e.row.fields) → allowed_row e.row.fields v ≡ true) where
      pub allowed : allowed_body (obs e).layout (decode_body (obs e).layout s) ≡ true
      allowed = rw (any-header (decode e.header.fields s 0)) (allowed_rows_lem e.row.fields any-row (decode_body (obs e).layout s).1)

    -- what is read whole is read observation by observation
    module _ (r : Observed H O) (g : read_as (obs e) s ≡ given r) where
      pub read_whole : (fitting e (length s) ≡ true) × (inside (obs e) s ≡ r)
      unfolding read_as
      read_whole = let read = (exactly_all (inside (obs e) s) (reading (obs e) s).tests r).0 g in (read.0.0, read.1)

      pub each_read : (i : ℕ) (d : O) → i < length r.observations → read_entry e s i ≡ given (get_or r.observations i d)
      each_read i d h =
          let within : i < count_in e (length s) = omega (arith, count_in_lem, ap (λ (r : Observed H O). length r.observations) read_whole.1) in
          entry_given e s i read_whole.0 within
          ∙ ap given
          (ap (entry_at e s) (sym (zero-add i))
          ∙ sym (entries_at (count_in e (length s)) 0 s i d within)
          ∙ ap (λ (os : List O). get_or os i d) (entries_in ∙ ap (λ (r : Observed H O). r.observations) read_whole.1))

-- ---- the first edition: what the code shows of a whole message

module _ (s : List ℕ) where
  pub obs_shown : obs_in s ≡ shown (inside (obs first) s)
  obs_shown = ap (λ (k : ℕ). record { tow = (obs_in s).tow; wn = (obs_in s).wn; n_obs = (obs_in s).n_obs; count = k }) (sym (count_in_lem first s))

  pub shown_read : (r : Observed Head Observation) → read_as (obs first) s ≡ given r → read_obs s ≡ given (shown r)
  shown_read r g = let read = read_whole first s r g in obs_given s read.0 ∙ ap given (obs_shown ∙ ap shown read.1)

  -- and the code reads no other
  pub only_shown : (o : Obs) → read_obs s ≡ given o → (read_as (obs first) s ≡ given (inside (obs first) s)) × (o ≡ shown (inside (obs first) s))
  unfolding read_obs read_as
  only_shown o g =
      let read = (exactly_all (obs_in s) ((fitting first (length s), 22) ∷ []) o).0 g in
      ((exactly_all (inside (obs first) s) (reading (obs first) s).tests (inside (obs first) s)).1 ((read.0.0, (allowed first s (λ v. refl) (λ v. refl), tt)), refl), sym read.1 ∙ obs_shown)
