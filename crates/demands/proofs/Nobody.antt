-- A refused roster makes a collator that refuses every frame and never moves.
use mathlib.Core.Path.{◌≡◌, refl, ap, ◌∙◌}
use mathlib.Core.Bool.{Bool, true, false, cond}
use mathlib.Core.List.{List, [], ◌∷◌}
use mathlib.Core.Logic.{◌⊎◌, inl, inr}
use Prim.Native.Nat.{ℕ}
use lib.ListN.{length}
use Rattle.refusals.specs.Refusals.{refused, given, Answer, ordered}
use Rattle.frames.specs.Frame.{Content}
use Rattle.observation.specs.Edition.{first, fitting, is_obs}
use Rattle.packets.specs.Packet.{shape}
use Rattle.epochs.specs.Search.{names}
use Rattle.epochs.specs.Collator.{for_place, fed_frame, fresh, rostering, as_made, made}
use Rattle.epochs.specs.Epoch.{after}
use Rattle.epochs.specs.declared.collating.Collator.{Collator}
use Rattle.epochs.specs.Fed.{Fed}
use Rattle.epochs.specs.Fed.{Made}
use Rattle.epochs.specs.Happened as H
use Rattle.epochs.proofs.Feeding.{fed_refused}

lists_nobody : (roster : List ℕ) → ((made roster).number ≡ 0 → ⊥) → (made roster).collator ≡ fresh []
unfolding made
lists_nobody roster refuses = by (ordered (rostering roster).tests (fresh roster)) refl
  where
    by : (a : Answer Collator) → made roster ≡ as_made a → (made roster).collator ≡ fresh []
    by (given c) e = absurd (refuses (ap (λ (m : Made). m.number) e))
    by (refused n) e = ap (λ (m : Made). m.collator) e

module _ (x : Content) where
  refuses : (n : ℕ) × ((n ≡ 46) ⊎ (n ≡ 22) ⊎ (n ≡ 43)) × (for_place [] x ≡ refused n)
  unfolding for_place shape names
  refuses = by (is_obs x.kind) (fitting first (length x.payload)) refl
    where
      by : (is_obs_lem fits : Bool) → for_place [] x ≡ cond is_obs_lem (cond fits (refused 43) (refused 22)) (refused 46) → (n : ℕ) × ((n ≡ 46) ⊎ (n ≡ 22) ⊎ (n ≡ 43)) × (for_place [] x ≡ refused n)
      by false fits e = (46, inl refl, e)
      by true false e = (22, inr (inl refl), e)
      by true true e = (43, inr (inr refl), e)

  fed : fed_frame (fresh []) x ≡ record { collator = fresh []; happened = H.Refused refuses.0 }
  fed = fed_refused (fresh []) x refuses.2

stays : (xs : List Content) → after (fresh []) xs ≡ fresh []
unfolding after
stays [] = refl
stays (x ∷ xs) = ap (λ (f : Fed). after f.collator xs) (fed x) ∙ stays xs

pub nobody_listed : (roster : List ℕ) → ((made roster).number ≡ 0 → ⊥) → (xs : List Content) (x : Content)
    → (n : ℕ) × ((n ≡ 46) ⊎ (n ≡ 22) ⊎ (n ≡ 43)) × (fed_frame (after (made roster).collator xs) x ≡ record { collator = fresh []; happened = H.Refused n })
nobody_listed roster no-roster xs x = (
  (refuses x).0,
  (refuses x).1,
  ap (λ (c : Collator). fed_frame (after c xs) x) (lists_nobody roster no-roster) ∙ ap (λ (c : Collator). fed_frame c x) (stays xs) ∙ fed x,
)
