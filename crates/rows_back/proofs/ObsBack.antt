-- OBS written from numbers comes back: the record that they stand for does, and its numbers are those.
use mathlib.Core.Path.{◌≡◌, refl, sym, ap, ap₂, ◌∙◌, subst⁻¹}
use mathlib.Core.Bool.{true, and-eq-true_iff}
use mathlib.Core.List.{List, [], ◌∷◌, ◌++◌}
use Prim.Native.Nat.{ℕ, zero, suc, ◌+◌, ◌*◌, ◌%◌, ◌≤◌, ◌<◌}
use native.Mathlib.Omega.{arith}
use lib.ListN.{length, take, drop}
use lib.Seq.{take_all}
use borrow.Author.Tests.{eqb-true}
use Rattle.refusals.specs.Refusals.{given, mapped}
use Rattle.refusals.proofs.Ordered.{exactly_all}
use Rattle.layouts.specs.Field.{Field}
use Rattle.layouts.specs.Layout.{Layout, HeldRows, HeldBody, body_size}
use Rattle.layouts.specs.Description.{read_as}
use Rattle.formats.specs.Wide.{wide_row, wide_body, narrow_row, fits_row, narrow_rows, fits_rows}
use Rattle.formats.proofs.Narrow.{held_narrow, wide_narrow}
use Rattle.senders.specs.Senders.{carried, HeldWriter}
use Rattle.senders.specs.declared.Writer.{Writer}
use Rattle.frames.specs.Step.{step_at, payload_in}
use Rattle.frames.specs.declared.step.Step.TheVariants.{Found}
use Rattle.observation.specs.Edition.{Observed, obs, start_of, Head, head, observation, first}
use Rattle.observation.specs.declared.entry.Observation.{Observation}
use Rattle.observation.proofs.Editions.{first_is_obs}
use Rattle.observation.proofs.ObsReading.{of_obs, each_read}
use Rattle.obs_writer.proofs.ObsLong.{rows_counted}
use Rattle.obs_writer.proofs.ObsThrough.{settled, obs_faithful}
use Rattle.row_reader.specs.ReadRow.{read_row, read_one}
use Rattle.row_reader.proofs.EachRead.{all_read}
use Rattle.row_writer.specs.WriteObsRow.{rows_in, observed_of, writing_obs_row, write_obs_row, obs_row_written}
use Rattle.row_writer.proofs.ObsRows.{length-made, length-narrow, row_made}
use Rattle.row_writer.proofs.WrittenTyped.{as_typed}
use Rattle.rows_back.specs.RowsBack.{Words, framed}

abbrev l : Layout
l = (obs first).layout

abbrev fs : List Field
fs = observation.fields

-- rows of numbers that fit are held by their fields
held_rows : (ns : List ℕ) → Words ns → (k i : ℕ) → fits_rows fs k ns i ≡ true → HeldRows fs (narrow_rows fs k ns i)
held_rows ns words zero i fits = tt
held_rows ns words (suc k) i fits =
    let p = (and-eq-true_iff _ _).0 fits in
    (held_narrow ns words fs i refl p.0, held_rows ns words k (i + 8) p.1)

module _ (by : Writer) (hs ns buf : List ℕ) (n : ℕ) (small : HeldWriter by) (head-words : Words hs) (words : Words ns)
    (g : write_obs_row 0x0049 hs ns (length buf) ≡ given n) where
  abbrev k : ℕ
  k = rows_in (length ns)

  abbrev r : Observed Head Observation
  r = observed_of hs ns

  -- what was tested
  record Tested : Type 0 where
    three : length hs ≡ 3
    eights : length ns % 8 ≡ 0
    head_fits : fits_row head.fields hs 0 ≡ true
    rows_fit : fits_rows fs k ns 0 ≡ true
    sized : start_of first k + 8 ≡ n

  tested : Tested
  unfolding write_obs_row
  tested =
      let all = (exactly_all (start_of first k + 8) (writing_obs_row 0x0049 hs ns (length buf)).tests n).0 g in
      let counts = (and-eq-true_iff _ _).0 all.0.1.0 in
      let fit = (and-eq-true_iff _ _).0 all.0.1.1.0 in
      record {
        three = eqb-true (length hs) 3 counts.0;
        eights = eqb-true (length ns % 8) 0 counts.1;
        head_fits = fit.0;
        rows_fit = fit.1;
        sized = all.1;
      }

  pub sized : n ≡ 16 * k + 15
  sized = omega (arith, tested.sized)

  -- ---- the frame

  many : length r.observations ≡ k
  many = length-made observation (narrow_rows fs k ns 0) ∙ length-narrow fs k ns 0

  long : body_size l ((obs first).row r) ≡ 16 * k + 7
  long = omega (arith, rows_counted first r.observations, many)

  abbrev bytes : List ℕ
  bytes = obs_row_written 0x0049 by hs ns buf

  pub found : step_at bytes 0 ≡ Found (framed 0x0049 (carried 0x0049 by) (16 * k + 7))
  found =
      let w = as_typed.obs_written by hs ns buf g in
      ap (λ (t : List ℕ). step_at t 0) w.1
      ∙ obs_faithful.message.found by r buf small w.0
      ∙ ap (λ (m : ℕ). Found (framed 0x0049 (carried 0x0049 by) m)) long

  -- ---- the record

  held : HeldBody l ((obs first).row r)
  held =
      subst⁻¹ (HeldBody l) ((obs first).row_make (narrow_row head.fields hs 0, narrow_rows fs k ns 0))
      (held_narrow hs head-words head.fields 0 refl tested.head_fits, held_rows ns words k 0 tested.rows_fit)

  abbrev payload : List ℕ
  payload = payload_in bytes (framed 0x0049 (carried 0x0049 by) (16 * k + 7))

  whole : read_as (obs first) payload ≡ given r
  whole =
      let w = as_typed.obs_written by hs ns buf g in
      ap₂ (λ (t : List ℕ) (m : ℕ). read_as (obs first) (payload_in t (framed 0x0049 (carried 0x0049 by) m))) w.1 (sym long)
      ∙ obs_faithful.message.same by r buf small w.0 held (settled r held)

  -- ---- its numbers

  pub head_back : (room : ℕ) → 4 ≤ room → read_row 0x0049 payload room ≡ given (hs ++ k ∷ [])
  head_back room enough =
      let header = wide_narrow hs head-words head.fields 0 (omega (arith, tested.three)) ∙ take_all 3 hs (omega (arith, tested.three)) in
      all_read.each.0 payload room enough
      ∙ ap (mapped (λ (q : Observed Head Observation). wide_body l ((obs first).row q))) whole
      ∙ ap₂ (λ (ms : List ℕ) (m : ℕ). given (ms ++ m ∷ [])) header (rows_counted first r.observations ∙ many)

  pub one_back : (i room : ℕ) → i < k → 8 ≤ room → read_one 0x0049 payload i room ≡ given (take 8 (drop (8 * i) ns))
  one_back i room below enough =
      let d = observation.make (narrow_row fs ns 0) in
      let at : 0 + i * 8 ≡ 8 * i = omega arith in
      let within : 0 + i * 8 + 8 ≤ length ns = omega (arith, tested.eights) in
      all_read.one 0x0049 payload i room enough
      ∙ ap (mapped (λ (o : Observation). wide_row fs (observation.row o)))
      (of_obs payload i 0x0049 first_is_obs
      ∙ each_read first payload r whole i d (omega (arith, many))
      ∙ ap given (row_made observation ns k i 0 d below))
      ∙ ap given (wide_narrow ns words fs (0 + i * 8) within ∙ ap (λ (j : ℕ). take 8 (drop j ns)) at)
