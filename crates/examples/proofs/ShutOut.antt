-- The five idle programs are shut out.
use mathlib.Core.Path.{◌≡◌, refl, sym, ap, ◌∙◌, subst}
use mathlib.Core.Bool.{false}
use mathlib.Core.List.{List, [], ◌∷◌, ◌++◌}
use mathlib.Core.Logic.{◌↔◌}
use Prim.Native.Nat.{ℕ}
use native.Mathlib.Omega.{arith}
use lib.ListN.{get_or}
use Rattle.wire.specs.Number.{number_at}
use Rattle.crc.specs.Crc.{bit_step, bit_steps, byte_step, crc_from}
use Rattle.frames.specs.Reading.{Positioned, read_from, holding, counts_of}
use Rattle.frames.specs.Cursors.{begun, next_of}
use Rattle.frames.specs.declared.cursor.Counts.{Counts}
use Rattle.frames.specs.declared.cursor.Cursor.{Cursor}
use Rattle.frames.specs.declared.cursor.Next as Next
use Rattle.frames.proofs.Tiling.{only_closed}
use Rattle.runs.specs.InWords.{countdown}
use Rattle.epochs.specs.Collator.{fed_frame, made}
use Rattle.epochs.specs.Epoch.{after, EndsEpoch}
use Rattle.frames.specs.Frame.{Content}
use Rattle.epochs.specs.declared.collating.Collator.{Collator}
use Rattle.epochs.specs.Happened as H
use Rattle.epochs.proofs.Searches.{names_at}
use Rattle.epochs.proofs.Making.{accepted, seated}
use Rattle.epochs.proofs.Collations.{epoch_outcome}
use Rattle.examples.specs.Examples.{blank, blank_frame, packet_from}
use Rattle.examples.specs.Idle.{Reader, FrameRule, refusing, FindsNothing, alike, Machine, collator, standing, ReportsEpochs, NeverMoves, up_to_frame, ShutOut}
use Rattle.examples.proofs.OnceHonest.{adds_up}
use Rattle.examples.proofs.TwoPackets.{both_of, second_ends, second_alone}

-- ---- readers

-- what the frame rule says of one frame, and of nothing
past_blank : Cursor
past_blank = record { at = 8; opened = false; framed = 8; junk = 0; bad = 0; short = 0 }

finds_blank : next_of blank (begun false) ≡ Next.TheVariants.Frame blank_frame past_blank
unfolding past_blank number_at bit_step bit_steps byte_step crc_from next_of
finds_blank = refl

ends_empty : next_of [] (begun false) ≡ Next.TheVariants.End (begun false)
unfolding next_of
ends_empty = refl

finding_nothing : (read : Reader) → FindsNothing read → FrameRule read → ⊥
finding_nothing read never rule = never blank (begun false) past_blank blank_frame (rule blank (begun false) ∙ finds_blank)

answering_alike : (x : Next.Next) → FrameRule (alike x) → ⊥
answering_alike x rule =
    let found : x ≡ Next.TheVariants.Frame blank_frame past_blank = rule blank (begun false) ∙ finds_blank in
    let ended : x ≡ Next.TheVariants.End (begun false) = rule [] (begun false) ∙ ends_empty in
    let z : ◌≡◌ {A = ℕ} 0 1 = cc in
    omega arith

-- ---- collators

module _ {C : Type 0} (m : Machine C) where
  still : NeverMoves m → (c : C) (xs : List Content) → standing m c xs ≡ c
  still stays c [] = refl
  still stays c (x ∷ xs) = still stays (m.feed c x).0 xs ∙ stays c x

  never_moving : NeverMoves m → (roster : List ℕ) → (made roster).number ≡ 0 → ReportsEpochs roster m → ⊥
  never_moving stays roster ok reports =
      let s = get_or roster 0 0 in
      let heard = (reports (packet_from s 0x20 ∷ []) (packet_from s 0x21) (both_of s)).1 (second_ends s roster (names_at roster 0 (accepted roster ok).some)) in
      let unheard = ap (λ (c : C). (m.feed c (packet_from s 0x21)).1) (sym (still stays m.start (packet_from s 0x20 ∷ []))) in
      second_alone s roster ((reports [] (packet_from s 0x21) (both_of s)).0 (unheard ∙ heard))

stands : (roster : List ℕ) (c : Collator) (xs : List Content) → standing (collator roster) c xs ≡ after c xs
unfolding after
stands roster c [] = refl
stands roster c (x ∷ xs) = stands roster (fed_frame c x).collator xs

moving : (roster : List ℕ) → (made roster).number ≡ 0 → ReportsEpochs roster (collator roster)
moving roster ok xs x e =
    subst (λ (c : Collator). ((fed_frame c x).happened ≡ H.Epoch e) ↔ EndsEpoch roster xs x e) (sym (stands roster (made roster).collator xs)) (epoch_outcome roster (seated roster ok) xs x e)

-- ---- all five

pub shut_out : ShutOut
unfolding number_at bit_step bit_steps byte_step crc_from read_from up_to_frame holding countdown counts_of
shut_out = record {
  finding_nothing = finding_nothing;
  refusing_everything = finding_nothing refusing (λ s c d f e. let z : ◌≡◌ {A = ℕ} 0 1 = cc in omega arith);
  answering_alike = answering_alike;
  never_moving = λ C m. never_moving m;
  moving = moving;
  honest_first = refl;
  once_honest_sum = adds_up;
  once_honest_covers = refl;
  once_honest_lem = λ tiles. let framed : ◌≡◌ {A = ℕ} 8 16 = ap (λ (xs : List Positioned). (counts_of xs).framed) (only_closed (blank ++ blank) tiles) in omega arith;
  invented_sum = λ s. omega arith;
  inventing = λ tied. let framed : ◌≡◌ {A = ℕ} 1 0 = ap (λ (c : Counts). c.framed) (tied (0 ∷ [])) in omega arith;
}
