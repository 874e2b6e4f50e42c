-- The ways through the writer of OBS: refused by its numbers, or sent as its payload.
use mathlib.Core.Path.{◌≡◌, sym, ap, ◌∙◌}
use mathlib.Core.Bool.{Bool, true, false, ◌&&◌, and-eq-true_iff}
use mathlib.Core.List.{List}
use Prim.Native.Nat.{ℕ, ◌+◌, ◌%◌, ◌≤◌, ◌<◌}
use lib.Dec.{leb}
use lib.ListN.{length}
use borrow.Author.Tests.{eq-eqb, ne_eqb, le-leb, lt-leb, leb-true}
use Rattle.refusals.specs.Refusals.{refused, given, Answer, ordered}
use Rattle.formats.specs.Wide.{fits_row, fits_rows}
use Rattle.senders.specs.declared.Writer.{Writer}
use Rattle.frame_writer.specs.Writer.{writing_frame, planned, with_frame}
use Rattle.observation.specs.Edition.{start_of, head, observation, first, is_obs}
use Rattle.row_writer.specs.WriteObsRow.{rows_in, write_obs_row, obs_row_written}
use Rattle.row_writer.specs.Inner.{testing_obs_row}
use Rattle.row_writer.proofs.Tested.{stands, goes_on, all_pass}
use Rattle.row_writer.proofs.Sends.{left_as, left_alone, left_of}
use Rattle.row_writer.proofs.ObsPacked.{payload_of, payload_long}

module _ (kind : ℕ) (hs ns : List ℕ) where
  abbrev k : ℕ
  k = rows_in (length ns)

  abbrev fits : Bool
  fits = fits_row head.fields hs 0 && fits_rows observation.fields k ns 0

  -- ---- the numbers tested

  module _ {A : Type 0} (x : A) where
    pub is_21 : is_obs kind ≡ false → refused 21 ≡ ordered (testing_obs_row kind hs ns) x
    is_21 p = rw p

    module _ (p : is_obs kind ≡ true) where
      pub is_22_head : (length hs ≡ 3 → ⊥) → refused 22 ≡ ordered (testing_obs_row kind hs ns) x
      is_22_head q = rw (p, ne_eqb (length hs) 3 q)

      module _ (q : length hs ≡ 3) where
        pub is_22_rows : (length ns % 8 ≡ 0 → ⊥) → refused 22 ≡ ordered (testing_obs_row kind hs ns) x
        is_22_rows r = rw (p, eq-eqb (length hs) 3 q, ne_eqb (length ns % 8) 0 r)

        module _ (r : length ns % 8 ≡ 0) where
          pub is_23_head : fits_row head.fields hs 0 ≡ false → refused 23 ≡ ordered (testing_obs_row kind hs ns) x
          is_23_head f = rw (p, eq-eqb (length hs) 3 q, eq-eqb (length ns % 8) 0 r, f)

          module _ (f : fits_row head.fields hs 0 ≡ true) where
            pub is_23_rows : fits_rows observation.fields k ns 0 ≡ false → refused 23 ≡ ordered (testing_obs_row kind hs ns) x
            is_23_rows g = rw (p, eq-eqb (length hs) 3 q, eq-eqb (length ns % 8) 0 r, f, g)

            module _ (g : fits_rows observation.fields k ns 0 ≡ true) where
              pub is_31 : 15 < k → refused 31 ≡ ordered (testing_obs_row kind hs ns) x
              is_31 m = rw (p, eq-eqb (length hs) 3 q, eq-eqb (length ns % 8) 0 r, f, g, lt-leb k 15 m)

              pub is_given : k ≤ 15 → given x ≡ ordered (testing_obs_row kind hs ns) x
              is_given m = rw (p, eq-eqb (length hs) 3 q, eq-eqb (length ns % 8) 0 r, f, g, le-leb k 15 m)

  -- ---- where the numbers fit

  -- past the tests
  pub record Fitting : Type 0 where
    pub held : fits ≡ true
    pub few : leb k 15 ≡ true
    pub on : (room : ℕ) → write_obs_row kind hs ns room ≡ planned (start_of first k) room

  pub fitting : {A : Type 0} (x : A) {z : A} → given z ≡ ordered (testing_obs_row kind hs ns) x → Fitting
  unfolding write_obs_row planned
  fitting x p =
      let ts = testing_obs_row kind hs ns in
      let all = (all_pass ts x p).0 in
      record { held = all.1.1.0; few = all.1.1.1.0; on = λ room. goes_on ts (writing_frame (start_of first k) room) x (start_of first k + 8) p }

  module _ (f : Fitting) where
    pub few_rows : k ≤ 15
    few_rows = leb-true k 15 f.few

    pub fitting_rows : (fits_row head.fields hs 0 ≡ true) × (fits_rows observation.fields k ns 0 ≡ true)
    fitting_rows = (and-eq-true_iff (fits_row head.fields hs 0) (fits_rows observation.fields k ns 0)).0 f.held

-- ---- what a call leaves

module _ (kind : ℕ) (by : Writer) (hs ns buf : List ℕ) where
  abbrev pub Wrote : Answer ℕ → List ℕ → Type 0
  Wrote r u = (r ≡ write_obs_row kind hs ns (length buf)) × (u ≡ obs_row_written kind by hs ns buf)

  pub wrote_refused : {A : Type 0} (x : A) {n : ℕ} → refused n ≡ ordered (testing_obs_row kind hs ns) x → Wrote (refused n) buf
  unfolding write_obs_row obs_row_written
  wrote_refused x p =
      let n = start_of first (k kind hs ns) in
      left_alone kind by buf (payload_of hs ns) (write_obs_row kind hs ns (length buf))
      (stands (testing_obs_row kind hs ns) (writing_frame n (length buf)) x (n + 8) p)

  pub wrote_sent : Fitting kind hs ns → {q : List ℕ} {r : Answer ℕ} {u : List ℕ} → q ≡ payload_of hs ns
      → r ≡ planned (length q) (length buf) → u ≡ with_frame kind by q buf → Wrote r u
  unfolding with_frame obs_row_written
  wrote_sent f e p' q' =
      let p = payload_of hs ns in
      left_as kind by buf p (planned (length p) (length buf)) (write_obs_row kind hs ns (length buf))
      (left_of kind by buf p (λ q. planned (length q) (length buf)) e (p', q'))
      (ap (λ (n : ℕ). planned n (length buf)) (payload_long hs ns) ∙ sym (f.on (length buf)))
