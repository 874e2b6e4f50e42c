-- How long a listing is: at most eight bytes for each byte of the capture, and 32.
use mathlib.Core.Path.{◌≡◌, refl, ap, subst}
use mathlib.Core.Bool.{Bool, true, false, cond, false≢true}
use mathlib.Core.List.{List, [], ◌∷◌, ◌++◌, map}
use Rattle.std.specs.Prelude.{Option, Some, None}
use Prim.Native.Nat.{ℕ, suc, ◌+◌, ◌*◌, ◌^◌, ◌≤◌, ◌<◌}
use native.Mathlib.Omega.{arith}
use lib.Dec.{ltb, lit<}
use lib.ListN.{length, length-append}
use borrow.Author.Tests.{ltb-true}
use Rattle.wire.specs.Number.{Bytes}
use Rattle.refusals.specs.Refusals.{Tests}
use Rattle.frames.specs.Step.{step_at, passed, ends, payload_in}
use Rattle.frames.specs.Reading.{Positioned, Tiled, done, then, frames_in, frames_of, counts_of, closed_steps}
use Rattle.frames.specs.declared.step.Frame.{Frame}
use Rattle.frames.specs.declared.step.Step.{Step}
use Rattle.frames.specs.declared.step.Step.TheVariants.{Finished, Junk, Short, Bad, Found}
use Rattle.frames.proofs.Frames.{found_at, found_fits, found_numbers, payload_bytes}
use Rattle.frames.proofs.Tiling.{closed_tiled, adds_up}
use Rattle.payloads.specs.Payloads.{answer_for}
use Rattle.payloads.specs.Inner.{check_for, tests_found, number_by}
use Rattle.payloads.specs.declared.check.Check.{Check}
use Rattle.payloads.specs.declared.check.Check.TheVariants.{Length, Ns, Fix, Obs, Log}
use Rattle.payloads.proofs.Agreed.{numbered}
use Rattle.epochs.specs.Collator.{fed_frame, made}
use Rattle.epochs.specs.Epoch.{content_in, contents_of, outcomes}
use Rattle.epochs.specs.declared.collating.Collator.{Collator}
use Rattle.epochs.specs.Happened.{Happened}
use Rattle.epochs.specs.Happened as H
use Rattle.epochs.proofs.Reports.{SmallIn, report_small}
use Rattle.text.specs.Line.{fields, line}
use Rattle.text.proofs.Decimals.{few_digits}
use Rattle.text.proofs.LinesPut.{length_fields, length-line}
use Rattle.enlisting.specs.FirstEight.{roster_in}
use Rattle.listing.specs.Listing.{frame_line, totals_line, frames_text, text_of, most_listed}
use Rattle.lines.specs.Lines.{epoch_part}

-- ---- a line of five numbers

pub five : (letter a b c d e : ℕ) (i j k l m : ℕ) → a < 10 ^ suc i → b < 10 ^ suc j → c < 10 ^ suc k → d < 10 ^ suc l → e < 10 ^ suc m
    → length (line letter (a ∷ b ∷ c ∷ d ∷ e ∷ [])) ≤ i + j + k + l + m + 12
unfolding fields
five letter a b c d e i j k l m ha hb hc hd he =
    let la = length_fields a (b ∷ c ∷ d ∷ e ∷ []) in
    let lb = length_fields b (c ∷ d ∷ e ∷ []) in
    let lc = length_fields c (d ∷ e ∷ []) in
    let ld = length_fields d (e ∷ []) in
    let le = length_fields e [] in
    let fa = few_digits i a ha in
    let fb = few_digits j b hb in
    let fc = few_digits k c hc in
    let fd = few_digits l d hd in
    let fe = few_digits m e he in
    omega (arith, length-line letter (a ∷ b ∷ c ∷ d ∷ e ∷ []))

-- ---- an answer has two digits

-- so have all numbers of tests
abbrev two_digits : Tests → Bool
two_digits [] = true
two_digits (t ∷ ts) = cond (ltb t.1 100) (two_digits ts) false

number_small : (ts : Tests) → two_digits ts ≡ true → number_by ts < 100
number_small [] e = lit< tt
number_small (t ∷ ts) e = by t.0 (ltb t.1 100) refl e (number_small ts)
  where
    by : (passes small : Bool) → ltb t.1 100 ≡ small → cond small (two_digits ts) false ≡ true → (two_digits ts ≡ true → number_by ts < 100) → number_by ((passes, t.1) ∷ ts) < 100
    by true true q e rest = rest e
    by false true q e rest = ltb-true t.1 100 q
    by passes false q e rest = absurd (false≢true e)

small_answer : (kind : ℕ) (s : List ℕ) → answer_for kind s < 100
small_answer kind s = subst (λ (n : ℕ). n < 100) (numbered kind s refl refl) (number_small (tests_found (check_for kind) s) (by (check_for kind)))
  where
    by : (k : Option Check) → two_digits (tests_found k s) ≡ true
    by None = refl
    by (Some (Length n)) = refl
    by (Some (Ns n at)) = refl
    by (Some (Fix n at last)) = refl
    by (Some Obs) = refl
    by (Some Log) = refl

-- ---- the lines of a frame

epoch_size : (h : Happened) → SmallIn h → length (epoch_part h) ≤ 34
epoch_size (H.Refused n) small = omega arith
epoch_size H.Taken small = omega arith
epoch_size (H.Epoch e) small =
    five 0x45 e.sender e.wn e.tow e.n e.observations 4 4 9 1 4
    (omega (arith, small.sender)) (omega (arith, small.wn)) (omega (arith, small.tow)) (omega (arith, small.n)) (omega (arith, small.observations))

module _ (s : List ℕ) (bytes : Bytes s) (short : length s ≤ most_listed) where
  module _ (p : ℕ) {f : Frame} (e : step_at s p ≡ Found f) where
    frame_size : length (frame_line s f) ≤ 27
    frame_size =
        let here = found_at s p e in
        let inside = found_fits s p e in
        let small = found_numbers s p e bytes in
        five 0x46 f.at f.kind f.sender f.length (answer_for f.kind (payload_in s f)) 4 4 4 2 1
        (omega (arith, here, inside)) (omega (arith, small.0)) (omega (arith, small.1)) (omega (arith, small.2)) (small_answer f.kind (payload_in s f))

    frame_epoch : (c : Collator) → length (epoch_part (fed_frame c (content_in s f)).happened) ≤ 34
    frame_epoch c = epoch_size (fed_frame c (content_in s f)).happened (report_small c (content_in s f) (payload_bytes s p e bytes) (found_numbers s p e bytes).1)

  -- what a collator makes of frames
  abbrev text_by : Collator → List Frame → List ℕ
  text_by c fs = frames_text s fs (outcomes c (map (content_in s) fs))

  -- 61 bytes of text for a frame of at least 8
  frames_size : {p e : ℕ} {xs : List Positioned} → Tiled s p e xs → e ≤ length s → (c : Collator) → length (text_by c (frames_of xs)) + 8 * p ≤ 8 * e
  unfolding frames_of frames_text outcomes
  frames_size done h c = omega arith
  frames_size (then {p} {e} {xs} l rest) h c = by (step_at s p) refl (λ c. frames_size rest h c)
    where
      by : (x : Step) → step_at s p ≡ x → ((c : Collator) → length (text_by c (frames_of xs)) + 8 * ends s p ≤ 8 * e)
          → length (text_by c (frames_in x (frames_of xs))) + 8 * p ≤ 8 * e
      by Finished q later = omega (arith, later c, ap passed q)
      by Junk q later = omega (arith, later c, ap passed q)
      by (Short n) q later = omega (arith, later c, ap passed q)
      by Bad q later = omega (arith, later c, ap passed q)
      by (Found f) q later =
          let fed = fed_frame c (content_in s f) in
          let rest = text_by fed.collator (frames_of xs) in
          let whole = length-append (frame_line s f) (epoch_part fed.happened ++ rest) in
          let lines = length-append (epoch_part fed.happened) rest in
          let one = frame_size p q in
          let two = frame_epoch p q c in
          omega (arith, later fed.collator, whole, lines, one, two, ap passed q)

  totals_size : length (totals_line s) ≤ 32
  totals_size =
      let k = counts_of (closed_steps s) in
      let all = adds_up s in
      five 0x54 (length s) k.framed k.junk k.bad k.short 4 4 4 4 4
      (omega (arith, short)) (omega (arith, all, short)) (omega (arith, all, short)) (omega (arith, all, short)) (omega (arith, all, short))

  -- a buffer of that many bytes has room for the listing
  pub text_size : length (text_of s) ≤ 8 * length s + 32
  unfolding contents_of
  text_size =
      let c = (made (roster_in s)).collator in
      let frames = frames_size (closed_tiled s) (omega arith) c in
      let both = length-append (text_by c (frames_of (closed_steps s))) (totals_line s) in
      omega (arith, frames, both, totals_size)
