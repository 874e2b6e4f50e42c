-- The five idle programs are shut out as linked functions too.
use mathlib.Core.Path.{◌≡◌, refl, sym, ap, ◌∙◌, subst}
use mathlib.Core.Bool.{Bool, true, false, ◌&&◌}
use mathlib.Core.List.{List, [], ◌∷◌, ◌++◌}
use mathlib.Core.Logic.{◌↔◌}
use Prim.Native.Nat.{ℕ, zero, suc, ◌^◌, ◌<◌}
use native.Mathlib.Omega.{arith}
use lib.Dec.{ltb}
use lib.ListN.{length, get_or, replicate}
use borrow.Author.Tests.{ltb-true}
use Rattle.wire.specs.Number.{Bytes, number_at}
use Rattle.layouts.specs.Field.{Row}
use Rattle.crc.specs.Crc.{bit_step, bit_steps, byte_step, crc_from}
use Rattle.frames.specs.Frame.{Content}
use Rattle.frames.specs.Reading.{read_from, closed_steps, counts_of}
use Rattle.frames.specs.Cursors.{next_of}
use Rattle.epochs.specs.Collator.{made}
use Rattle.epochs.specs.Epoch.{EndsEpoch}
use Rattle.epochs.specs.Happened as H
use Rattle.epochs.proofs.Searches.{names_at}
use Rattle.epochs.proofs.Making.{accepted}
use Rattle.payloads.proofs.Entries.{both}
use Rattle.frame_rows.specs.Found.{next_from, next_answer}
use Rattle.frame_rows.specs.Totals.{totals_fields, totals_row, totals_stored}
use Rattle.frame_rows.proofs.ReadBack.{read_back, counts_shown}
use Rattle.states.specs.Feed.{made_stored, fed_in}
use Rattle.places.specs.State.{state_size}
use Rattle.told.specs.Told.{Sent, told, after_in, Filled}
use Rattle.told.proofs.Lives.{tells_epoch}
use Rattle.examples.specs.Examples.{blank, packet_from}
use Rattle.examples.specs.Idle.{invented}
use Rattle.examples.specs.IdleLinked.{Lent, LinkedReader, NextRule, FindsNone, refusing_all, AnswersAlike, past_first, HonestOnce, junk_after_first}
use Rattle.examples.specs.IdleLinked.{LinkedTotals, TotalsRule, Invents, all_frames}
use Rattle.examples.specs.IdleLinked.{LinkedCollator, bytes_after, TellsEpochs, KeepsItsBytes, linked, LinkedShutOut}
use Rattle.examples.proofs.TwoPackets.{both_of, second_ends, second_alone}

-- ---- what is lent

abbrev small : List ℕ → Bool
small [] = true
small (b ∷ s) = ltb b 256 && small s

all_small : (s : List ℕ) → small s ≡ true → Bytes s
all_small [] h i = omega arith
all_small (b ∷ s) h zero = ltb-true b 256 (both (ltb b 256) (small s) h).0
all_small (b ∷ s) h (suc i) = all_small s (both (ltb b 256) (small s) h).1 i

lend : (s : List ℕ) → small s ≡ true → ltb (length s) (2 ^ 64) ≡ true → Lent s
lend s h l = (all_small s h, ltb-true (length s) (2 ^ 64) l)

-- n zeros as a buffer
abbrev zeros : ℕ → List ℕ
zeros n = replicate n 0

-- ---- readers

abbrev two : List ℕ
two = blank ++ blank

finds_blank : next_answer blank 0 false 53 ≡ 0
unfolding number_at bit_step bit_steps byte_step crc_from next_of next_from
finds_blank = refl

finds_second : next_answer two 8 false 53 ≡ 0
unfolding number_at bit_step bit_steps byte_step crc_from next_of next_from
finds_second = refl

past_first_lem : past_first two false 8 ≡ true
unfolding number_at bit_step bit_steps byte_step crc_from next_of
past_first_lem = refl

ends_empty : next_answer [] 0 false 53 ≡ 1
unfolding next_of next_from
ends_empty = refl

module _ (read : LinkedReader) (rule : NextRule read) where
  -- the number that the rule has at a position
  by_rule : (s : List ℕ) → Lent s → (at : ℕ) → at < 2 ^ 64 → (read s at false (zeros 53)).0 ≡ next_answer s at false 53
  by_rule s h at l = ap (λ (r : ℕ × List ℕ). r.0) (rule s at false (zeros 53) h l (lend (zeros 53) refl refl))

  on_blank : (read blank 0 false (zeros 53)).0 ≡ 0
  on_blank = by_rule blank (lend blank refl refl) 0 (omega arith) ∙ finds_blank

  on_second : (read two 8 false (zeros 53)).0 ≡ 0
  on_second = by_rule two (lend two refl refl) 8 (omega arith) ∙ finds_second

  on_empty : (read [] 0 false (zeros 53)).0 ≡ 1
  on_empty = by_rule [] (lend [] refl refl) 0 (omega arith) ∙ ends_empty

finding_none : (read : LinkedReader) → FindsNone read → NextRule read → ⊥
finding_none read never rule = never blank 0 false (zeros 53) refl (on_blank read rule)

answering_alike : (n : ℕ) (read : LinkedReader) → AnswersAlike n read → NextRule read → ⊥
answering_alike n read alike rule =
    let found : n ≡ 0 = sym (alike blank 0 false (zeros 53) refl) ∙ on_blank read rule in
    let ended : n ≡ 1 = sym (alike [] 0 false (zeros 53) refl) ∙ on_empty read rule in
    omega arith

once_honest_lem : (read : LinkedReader) → HonestOnce read → NextRule read → ⊥
once_honest_lem read h rule =
    let ended : ◌≡◌ {A = ℕ} 0 1 = sym (on_second read rule) ∙ h.rest two 8 false (zeros 53) past_first_lem refl in
    omega arith

honest_first : HonestOnce junk_after_first
honest_first = record { first = λ s at opened buf e. rw e; rest = λ s at opened buf e room. rw (e, room) }

-- ---- totals

invented_shown : Invents all_frames
invented_shown s buf small long =
    let row = read_back totals_fields totals_row (invented s) buf (omega arith)
    (record { fits = small }, (record { fits = omega arith }, (record { fits = omega arith }, (record { fits = omega arith }, tt))))
    (refl, (refl, (refl, (refl, tt)))) in
    record {
      framed = ap (λ (v : Row totals_fields). v.0) row;
      junk = ap (λ (v : Row totals_fields). v.1.0) row;
      bad = ap (λ (v : Row totals_fields). v.1.1.0) row;
      short = ap (λ (v : Row totals_fields). v.1.1.1.0) row;
    }

-- a byte of noise is no frame
abbrev noise : List ℕ
noise = 0 ∷ []

no_frames : (counts_of (closed_steps noise)).framed ≡ 0
unfolding read_from counts_of
no_frames = refl

inventing : (totals : LinkedTotals) → Invents totals → TotalsRule totals → ⊥
inventing totals invents rule =
    let tied = rule noise (zeros 32) (lend noise refl refl) (lend (zeros 32) refl refl) in
    let shown : number_at 8 (totals_stored noise (zeros 32)) 0 ≡ 0 = (counts_shown noise (omega arith) (zeros 32) (omega arith)).framed ∙ no_frames in
    let claimed : number_at 8 (totals noise (zeros 32)).1 0 ≡ 1 = (invents noise (zeros 32) (omega arith) refl).framed in
    let one : ◌≡◌ {A = ℕ} 1 0 = sym claimed ∙ ap (λ (r : ℕ × List ℕ). number_at 8 r.1 0) tied ∙ shown in
    omega arith

-- ---- collators

-- the first listed sender's two packets
module _ (m : LinkedCollator) (roster : List ℕ) where
  abbrev s : ℕ
  s = get_or roster 0 0

  abbrev opening : Content
  opening = packet_from s 0x20

  abbrev closing : Content
  closing = packet_from s 0x21

  abbrev fresh : List ℕ
  fresh = (m.make roster (zeros state_size)).1

  module _ (ok : (made roster).number ≡ 0) (senders : (i : ℕ) → get_or roster i 0 < 65536) (tells : TellsEpochs roster m) where
    filled : (xs : List Content) → Sent xs → Filled roster (zeros state_size) (zeros 11) xs
    filled xs sent = record { taken = ok; senders = senders; long = omega arith; room = omega arith; sent = sent }

    told_after : (xs : List Content) → Sent xs
        → (told (m.feed (bytes_after m fresh (zeros 11) xs) closing (zeros 11)) ≡ H.Epoch (both_of s)) ↔ EndsEpoch roster xs closing (both_of s)
    told_after xs sent =
        let report = lend (zeros 11) refl refl in
        tells (zeros state_size) (zeros 11) xs (lend (zeros state_size) refl refl) report (filled xs sent) closing (all_small closing.payload refl, senders 0)
        (zeros 11) report (omega arith) (both_of s)

    never_moving : KeepsItsBytes m → ⊥
    never_moving keeps =
        let ends = second_ends s roster (names_at roster 0 (accepted roster ok).some) in
        let heard = (told_after (opening ∷ []) ((all_small opening.payload refl, senders 0), tt)).1 ends in
        let unheard = ap (λ (bytes : List ℕ). told (m.feed bytes closing (zeros 11))) (sym (keeps fresh opening (zeros 11))) in
        second_alone s roster ((told_after [] tt).0 (unheard ∙ heard))

stands : (state report : List ℕ) (xs : List Content) → bytes_after linked state report xs ≡ after_in state report xs
unfolding after_in
stands state report [] = refl
stands state report (x ∷ xs) = stands (fed_in state x report).state (fed_in state x report).report xs

moving : (roster : List ℕ) → TellsEpochs roster linked
moving roster s report xs h l f x sent lent k room e =
    subst (λ (bytes : List ℕ). (told (fed_in bytes x lent) ≡ H.Epoch e) ↔ EndsEpoch roster xs x e) (sym (stands (made_stored roster s) report xs))
    (tells_epoch roster s report xs f x sent lent room e)

-- ---- all five

pub linked_shut_out : LinkedShutOut
linked_shut_out = record {
  finding_none = finding_none;
  refusing_everything = finding_none refusing_all (λ s at opened buf room e. omega arith);
  answering_alike = answering_alike;
  never_moving = λ m keeps roster ok senders tells. never_moving m roster ok senders tells keeps;
  moving = moving;
  honest_first = honest_first;
  once_honest_lem = once_honest_lem;
  invented_shown = invented_shown;
  inventing = inventing;
}
