-- A collator in bytes from its making on: after any frames the bytes stand for the collator that the same frames lead to, and what the calls of
-- `feed` tell is what each frame comes to there.
use mathlib.Core.Path.{◌≡◌, refl, sym, ap, ap₂, ◌∙◌}
use mathlib.Core.List.{List, [], ◌∷◌}
use mathlib.Core.Logic.{◌↔◌}
use Prim.Native.Nat.{ℕ, ◌≤◌}
use native.Mathlib.Omega.{arith}
use lib.ListN.{length}
use Rattle.frames.specs.Frame.{Content}
use Rattle.epochs.specs.Collator.{fed_frame, made}
use Rattle.epochs.specs.Epoch.{after, outcomes, EndsEpoch, BringsCopy}
use Rattle.epochs.specs.declared.collating.Collator.{Collator}
use Rattle.epochs.specs.declared.collating.Report.{Report}
use Rattle.epochs.specs.Happened.{Happened}
use Rattle.epochs.specs.Happened as H
use Rattle.epochs.proofs.Making.{seated}
use Rattle.epochs.proofs.Collations.{epoch_outcome}
use Rattle.epochs.proofs.Copies.{copy_outcome}
use Rattle.places.specs.State.{state_size, state_in}
use Rattle.states.specs.Feed.{report_size, happened_number, fed_in, made_stored}
use Rattle.told.specs.Told.{AsSent, Sent, told, told_in, after_in, Filled}
use Rattle.states.proofs.Feeds.{feeds}
use Rattle.states.proofs.Makes.{makes, length-made}
use Rattle.told.proofs.Tells.{lengths, tells}

-- ---- frames one after the other

abbrev Fed : List Content → List ℕ → List ℕ → Type 0
Fed xs s report =
    (told_in s report xs ≡ outcomes (state_in s) xs) × (state_in (after_in s report xs) ≡ after (state_in s) xs) × (state_size ≤ length (after_in s report xs))

feeds_all : (xs : List Content) (s report : List ℕ) → state_size ≤ length s → report_size ≤ length report → Sent xs → Fed xs s report
unfolding told_in outcomes after_in after
feeds_all [] s report long room sent = (refl, refl, long)
feeds_all (x ∷ xs) s report long room sent =
    let out = fed_in s x report in
    let size = lengths s x report room in
    let next = (feeds s x report long room sent.0.0).state in
    let here = tells s x report room long sent.0.0 sent.0.1 in
    let rest = feeds_all xs out.state out.report (omega (arith, size.0)) (omega (arith, size.1)) sent.1 in (
      ap₂ (λ (h : Happened) (hs : List Happened). h ∷ hs) here (rest.0 ∙ ap (λ (c : Collator). outcomes c xs) next),
      rest.1 ∙ ap (λ (c : Collator). after c xs) next,
      rest.2,
    )

-- ---- from the making on

module _ (roster s report : List ℕ) (xs : List Content) (f : Filled roster s report xs) where
  -- the bytes after those frames
  abbrev now : List ℕ
  now = after_in (made_stored roster s) report xs

  led : Fed xs (made_stored roster s) report
  led = feeds_all xs (made_stored roster s) report (omega (arith, length-made roster s, f.long)) f.room f.sent

  begins : state_in (made_stored roster s) ≡ (made roster).collator
  begins = makes roster s f.taken f.senders f.long

  -- what is told is what the frames come to
  pub told_made : told_in (made_stored roster s) report xs ≡ outcomes (made roster).collator xs
  told_made = led.0 ∙ ap (λ (c : Collator). outcomes c xs) begins

  -- and the bytes stand for the collator that they lead to
  pub stands : state_in now ≡ after (made roster).collator xs
  stands = led.1 ∙ ap (λ (c : Collator). after c xs) begins

  -- of one frame more an epoch is told exactly where it ends one
  pub tells_epoch : (x : Content) → AsSent x → (lent : List ℕ) → report_size ≤ length lent → (e : Report) → (told (fed_in now x lent) ≡ H.Epoch e) ↔ EndsEpoch roster xs x e
  tells_epoch x sent lent room e =
      let own : told (fed_in now x lent) ≡ (fed_frame (after (made roster).collator xs) x).happened
      = tells now x lent room led.2 sent.0 sent.1 ∙ ap (λ (c : Collator). (fed_frame c x).happened) stands in
      let there = epoch_outcome roster (seated roster f.taken) xs x e in
      (λ q. there.0 (sym own ∙ q), λ w. own ∙ there.1 w)

  -- and 47 exactly where it is a copy
  pub tells_copy : (x : Content) → AsSent x → (lent : List ℕ) → report_size ≤ length lent → ((fed_in now x lent).answer ≡ 47) ↔ BringsCopy roster xs x
  tells_copy x sent lent room =
      let h = (fed_frame (after (made roster).collator xs) x).happened in
      let own : (fed_in now x lent).answer ≡ happened_number h
      = (feeds now x lent led.2 room sent.0).answer ∙ ap (λ (c : Collator). happened_number (fed_frame c x).happened) stands in
      let there = copy_outcome roster (seated roster f.taken) xs x in
      (λ q. there.0 (by h (sym own ∙ q)), λ w. own ∙ ap happened_number (there.1 w))
    where
      by : (h : Happened) → happened_number h ≡ 47 → h ≡ H.Refused 47
      by (H.Refused n) e = ap (λ (n : ℕ). H.Refused n) e
      by H.Taken e = absurd (omega (arith, e))
      by (H.Epoch r) e = absurd (omega (arith, e))
