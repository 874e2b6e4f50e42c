-- The header and the observations of an OBS packed from their numbers: the loop over the observations, and the payload that it leaves.
use mathlib.Core.Path.{◌≡◌, refl, sym, ap, ◌∙◌}
use mathlib.Core.Bool.{true}
use mathlib.Core.List.{List, ◌++◌, map}
use Prim.Native.Nat.{ℕ, ◌+◌, ◌-◌, ◌*◌, ◌≤◌, ◌<◌}
use native.Mathlib.Nat.{zero-add}
use native.Mathlib.Omega.{arith}
use lib.ListN.{length, take, drop}
use lib.Seq.{take_all}
use Rattle.wire.specs.Value.{Format}
use Rattle.layouts.specs.Field.{Field, format_of, Row, row_stored}
use Rattle.layouts.specs.Layout.{Layout, Body, encode_body}
use Rattle.layouts.specs.Inner.{rows_stored}
use Rattle.layouts.specs.Description.{rows_of, made_of, rows_made}
use Rattle.layouts.proofs.Layouts.{length-encode_body, body_sets}
use Rattle.formats.specs.Wide.{narrow_row, fits_row, narrow_rows, fits_rows}
use Rattle.formats.specs.Digits.{up_to, formats_by, run_stored}
use Rattle.formats.proofs.Narrow.{Words, stored_narrow}
use Rattle.observation.specs.Edition.{obs, start_of, head, observation, first}
use Rattle.observation.specs.declared.entry.Observation.{Observation}
use Rattle.obs_writer.proofs.EntriesStored.{Stored, stored_none, stored_all, stored_more}
use Rattle.row_writer.specs.WriteObsRow.{rows_in, observed_of}
use Rattle.wire.proofs.Lent.{lent_from}
use Rattle.row_writer.proofs.Runs.{front_sets}
use Rattle.row_writer.proofs.ObsRows.{length-made, length-narrow, row_made, row_fits, stored_lent}

-- the digits that the code has
pub head_formats : formats_by 0x124 ≡ map format_of head.fields
unfolding up_to
head_formats = refl

pub each_formats : formats_by 0x112211c4 ≡ map format_of observation.fields
unfolding up_to
each_formats = refl

-- ---- the loop

-- where an observation's numbers, and its bytes, begin
abbrev numbers_from : ℕ → ℕ
numbers_from i = i * 8

abbrev bytes_from : ℕ → ℕ
bytes_from i = 7 + i * 16

module _ (ns start : List ℕ) (k : ℕ) where
  abbrev fs : List Field
  fs = observation.fields

  abbrev os : List Observation
  os = made_of observation (narrow_rows fs k ns 0)

  many : length os ≡ k
  many = length-made observation (narrow_rows fs k ns 0) ∙ length-narrow fs k ns 0

  -- i observations are packed
  abbrev pub Packed : List ℕ → ℕ → Type 0
  Packed buf i = Stored observation 7 start os k buf i

  pub packed_none : bytes_from k ≤ length start → Packed start 0
  packed_none room = stored_none (omega (arith, many)) room

  module _ {buf : List ℕ} {i : ℕ} (inv : Packed buf i) where
    pub packed_all : k ≤ i → buf ≡ rows_stored fs (narrow_rows fs k ns 0) start 7
    packed_all h =
        stored_all inv h
        ∙ ap (λ (rs : List Observation). rows_stored fs (rows_of observation rs) start 7) (take_all k os (omega (arith, many)))
        ∙ ap (λ (vs : List (Row fs)). rows_stored fs vs start 7) (rows_made observation (narrow_rows fs k ns 0))

    pub packed_more : Words ns → fits_rows fs k ns 0 ≡ true → i < k → {t : List ℕ}
        → t ≡ run_stored (formats_by 0x112211c4) (lent_from (numbers_from i) ns) 0 (lent_from (bytes_from i) buf) 0
        → Packed (take (bytes_from i) buf ++ (t ++ drop (length buf - bytes_from i) (drop (bytes_from i) buf))) (i + 1)
    packed_more words fits h e =
        let d = observation.make (narrow_row fs ns 0) in
        let at : 0 + numbers_from i ≡ numbers_from i = zero-add (numbers_from i) in
        let one : fits_row fs ns (numbers_from i) ≡ true = ap (fits_row fs ns) (sym at) ∙ row_fits fs ns k i 0 fits h in
        let row = ap observation.row (row_made observation ns k i 0 d h) ∙ ap (narrow_row fs ns) at in
        let lent = lent_from (bytes_from i) buf in
        stored_more inv h d (e ∙ stored_lent fs ns (numbers_from i) each_formats words refl one lent ∙ ap (λ (v : Row fs). row_stored fs v lent 0) (sym row))

-- ---- the payload

module _ (hs ns : List ℕ) where
  abbrev l : Layout
  l = (obs first).layout

  abbrev k : ℕ
  k = rows_in (length ns)

  abbrev v : Body l
  v = (narrow_row head.fields hs 0, narrow_rows observation.fields k ns 0)

  abbrev pub payload_of : List ℕ
  payload_of = encode_body l ((obs first).row (observed_of hs ns))

  of_numbers : payload_of ≡ encode_body l v
  of_numbers = ap (encode_body l) ((obs first).row_make v)

  long : length (encode_body l v) ≡ start_of first k
  long = length-encode_body l v ∙ ap (λ (n : ℕ). 7 + n * 16) (length-narrow observation.fields k ns 0)

  pub payload_long : length payload_of ≡ start_of first k
  payload_long = ap length of_numbers ∙ long

  -- the header stored at the start, then the observations
  pub payload_packed : Words hs → fits_row head.fields hs 0 ≡ true → (buf : List ℕ) {s t : List ℕ} → s ≡ run_stored (formats_by 0x124) hs 0 buf 0
      → t ≡ rows_stored observation.fields (narrow_rows observation.fields k ns 0) s 7 → start_of first k ≤ length buf → take (start_of first k) t ≡ payload_of
  payload_packed words fits buf p q room =
      let header = p ∙ ap (λ (ks : List Format). run_stored ks hs 0 buf 0) head_formats ∙ stored_narrow hs words head.fields 0 buf 0 refl fits in
      let size : 0 + start_of first k ≤ length buf = omega arith in
      ap (take (start_of first k))
      (q ∙ ap (λ (s : List ℕ). rows_stored observation.fields (narrow_rows observation.fields k ns 0) s 7) header ∙ body_sets l v buf 0 (rw length-narrow size))
      ∙ front_sets (encode_body l v) buf (start_of first k) long room
      ∙ sym of_numbers
