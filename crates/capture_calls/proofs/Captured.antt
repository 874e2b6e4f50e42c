-- What contracts say of observation readers, of frames fed and of captures collated, as the value of a function of the inputs.
use mathlib.Core.Path.{◌≡◌, refl, sym, ap, ◌∙◌}
use mathlib.Core.List.{List}
use Prim.Native.Nat.{ℕ}
use seplogic.Ra.Ura.{Ura}
use base.Logic.{ent, sep, fst∗, via, mono_r}
use contract.Monad.{fact}
use denote.Ref.{Bor}
use Rattle.std.specs.Prelude.{Result, Ok, Err, Option, Some, None}
use Rattle.refusals.specs.Refusals.{Answer}
use Rattle.refusals.specs.Numbers.{answer_of}
use Rattle.refusals.specs.declared.Refusal.{Refusal}
use Rattle.observation.specs.declared.entry.Observation.{Observation}
use Rattle.obs_reader.specs.declared.ObsReader.{ObsReader}
use Rattle.obs_reader.specs.declared.Stepped.{Stepped}
use Rattle.epochs.specs.Collator.{happened_of}
use Rattle.epochs.specs.Happened.{Happened}
use Rattle.epochs.specs.declared.collating.Collator.{Collator}
use Rattle.epochs.specs.declared.collating.FedCollator.{FedCollator}
use Rattle.epochs.specs.declared.collating.Report.{Report}
use Rattle.captures.specs.Capture.{collated_of}
use Rattle.captures.specs.Collated as Collated
use Rattle.captures.specs.declared.capturing.Collated as code
use Rattle.calls.specs.Replies.{result_of}
use Rattle.calls.proofs.Results.{refusal_back, above, by_answer}
use Rattle.calls.proofs.Giving as by
use Rattle.capture_calls.specs.CaptureCalls.{handed, reported, collated_as}

-- ---- what a contract says a result by says no other

pub handed_back : (x : Result (Option Report) Refusal) → handed (happened_of x) ≡ x
handed_back (Ok None) = refl
handed_back (Ok (Some r)) = refl
handed_back (Err e) = ap Err (refusal_back e)

pub reported_back : (x : Option Report) → reported (happened_of (Ok x)) ≡ x
reported_back None = refl
reported_back (Some r) = refl

pub collated_back : (x : Result code.Collated Refusal) → collated_as (collated_of x) ≡ x
collated_back (Ok t) = refl
collated_back (Err e) = rw (above e) (ap Err (refusal_back e))

-- ---- at a model of the logic

module _ {M : Type 1} (𝓤 : Ura M) where
  pub reader : {x : ObsReader} {kind : ℕ} {payload : Bor (List ℕ)} {at : ℕ}
      → ent 𝓤 (sep 𝓤 (fact 𝓤 (x.kind ≡ kind)) (sep 𝓤 (fact 𝓤 (x.payload ≡ payload)) (fact 𝓤 (x.at ≡ at))))
      (fact 𝓤 ((x ≡ record { kind = kind; payload = payload; at = at }) × Unit {0}))
  reader {x} {kind} {payload} {at} =
      via 𝓤 (sep 𝓤 (fact 𝓤 (x.kind ≡ kind)) (fact 𝓤 ((x.payload ≡ payload) × (x.at ≡ at)))) (mono_r 𝓤 (fact 𝓤 (x.kind ≡ kind)) (by.beside 𝓤))
      (by.two 𝓤 (λ p q. ((λ i. record { kind = p i; payload = q.0 i; at = q.1 i }), tt)))

  pub stepped : {x : Stepped} {d : Answer Observation} {at : ℕ}
      → ent 𝓤 (sep 𝓤 (fact 𝓤 (answer_of x.answer ≡ d)) (fact 𝓤 (x.at ≡ at))) (fact 𝓤 ((x ≡ record { answer = result_of d; at = at }) × Unit {0}))
  stepped = by.two 𝓤 (λ p q. let r = by_answer p in ((λ i. record { answer = r i; at = q i }), tt))

  -- that a refusal leaves the collator as it was is said of what it leaves already
  pub fed : {C : Type 0} {x : Result (Option Report) Refusal} {h : Happened} {c d : C} {P : Type 0}
      → ent 𝓤 (sep 𝓤 (fact 𝓤 (happened_of x ≡ h)) (sep 𝓤 (fact 𝓤 (c ≡ d)) (fact 𝓤 P))) (fact 𝓤 ((x ≡ handed h) × ((c ≡ d) × Unit {0})))
  fed {C} {x} {h} {c} {d} {P} =
      via 𝓤 (sep 𝓤 (fact 𝓤 (happened_of x ≡ h)) (fact 𝓤 (c ≡ d))) (mono_r 𝓤 (fact 𝓤 (happened_of x ≡ h)) (fst∗ 𝓤 (fact 𝓤 (c ≡ d)) (fact 𝓤 P)))
      (by.two 𝓤 (λ p q. (sym (handed_back x) ∙ ap handed p, (q, tt))))

  pub fed_by_value : {x : FedCollator} {c : Collator} {h : Happened}
      → ent 𝓤 (sep 𝓤 (fact 𝓤 (x.collator ≡ c)) (fact 𝓤 (happened_of x.happened ≡ h))) (fact 𝓤 ((x ≡ record { collator = c; happened = handed h }) × Unit {0}))
  fed_by_value {x} = by.two 𝓤 (λ p q. let r = sym (handed_back x.happened) ∙ ap handed q in ((λ i. record { collator = p i; happened = r i }), tt))

  pub outcome : (x : Option Report) (h : Happened) → ent 𝓤 (fact 𝓤 (happened_of (Ok x) ≡ h)) (fact 𝓤 ((x ≡ reported h) × Unit {0}))
  outcome = by.said_by 𝓤 (λ (x : Option Report). happened_of (Ok x)) reported reported_back

  pub collated : (x : Result code.Collated Refusal) (t : Collated.Collated) → ent 𝓤 (fact 𝓤 (collated_of x ≡ t)) (fact 𝓤 ((x ≡ collated_as t) × Unit {0}))
  collated = by.said_by 𝓤 collated_of collated_as collated_back
