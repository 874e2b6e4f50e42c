-- A roster that grows in the bytes of a collator grows as that of `enlisting`, and tells the same of each frame.
use mathlib.Core.Path.{◌≡◌, refl, ap, ap₂, ◌∙◌}
use mathlib.Core.List.{List, [], ◌∷◌}
use Prim.Native.Nat.{ℕ, ◌≤◌}
use native.Mathlib.Omega.{arith}
use lib.ListN.{length}
use Rattle.frames.specs.Frame.{Content}
use Rattle.epochs.specs.Collator.{fed_frame}
use Rattle.epochs.specs.declared.collating.Collator.{Collator}
use Rattle.epochs.specs.Happened.{Happened}
use Rattle.enlisting.specs.Enlisting.{enlisted_to, new_outcomes, new_after}
use Rattle.enlisting.proofs.Growing.{as_of_the_first}
use Rattle.places.specs.State.{state_size, state_in}
use Rattle.states.specs.Feed.{report_size, fed_in}
use Rattle.states.specs.Enlist.{growing_stored, enlist_stored}
use Rattle.told.specs.Told.{Sent, told}
use Rattle.told.specs.Growing.{new_told, new_after_in, Grows}
use Rattle.states.proofs.Feeds.{feeds}
use Rattle.states.proofs.Enlists.{grown_state, length-grown, enlisted_state, length-enlisted}
use Rattle.told.proofs.Tells.{lengths, tells}

grows_each : (xs : List Content) (s report : List ℕ) → state_size ≤ length s → report_size ≤ length report → Sent xs
    → (new_told s report xs ≡ new_outcomes (state_in s) xs) × (state_in (new_after_in s report xs) ≡ new_after (state_in s) xs)
unfolding new_told new_after_in new_outcomes new_after
grows_each [] s report long room sent = (refl, refl)
grows_each (x ∷ xs) s report long room sent =
    let t = enlist_stored s x.kind x.sender in
    let c = enlisted_to (state_in s) x.kind x.sender in
    let same : state_in t ≡ c = enlisted_state s long x.kind x.sender sent.0.1 in
    let more : state_size ≤ length t = omega (arith, length-enlisted s long x.kind x.sender) in
    let out = fed_in t x report in
    let size = lengths t x report room in
    let here : told out ≡ (fed_frame c x).happened = tells t x report room more sent.0.0 sent.0.1 ∙ ap (λ (c : Collator). (fed_frame c x).happened) same in
    let next : state_in out.state ≡ (fed_frame c x).collator = (feeds t x report more room sent.0.0).state ∙ ap (λ (c : Collator). (fed_frame c x).collator) same in
    let rest = grows_each xs out.state out.report (omega (arith, size.0)) (omega (arith, size.1)) sent.1 in (
      ap₂ (λ (h : Happened) (hs : List Happened). h ∷ hs) here (rest.0 ∙ ap (λ (c : Collator). new_outcomes c xs) next),
      rest.1 ∙ ap (λ (c : Collator). new_after c xs) next,
    )

pub grows : Grows
grows =
    record {
      nobody = grown_state;
      enlisted = enlisted_state;
      each = λ s report xs. grows_each xs s report;
      first_eight_lem = λ s report xs long room sent.
          let all = grows_each xs (growing_stored s) report (omega (arith, length-grown s long)) room sent in (
            all.0 ∙ ap (λ (c : Collator). new_outcomes c xs) (grown_state s long) ∙ (as_of_the_first xs).each,
            all.1 ∙ ap (λ (c : Collator). new_after c xs) (grown_state s long) ∙ (as_of_the_first xs).end,
          );
    }
