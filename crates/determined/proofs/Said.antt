-- Results that contracts say by their parts, or by something else that says them: an observation reader, a roster, a frame fed, a capture
-- collated, rows.
use mathlib.Core.Path.{◌≡◌, refl, sym, ap, ap₂, ◌∙◌}
use mathlib.Core.List.{List}
use Prim.Native.Nat.{ℕ}
use seplogic.Ra.Ura.{Ura}
use base.Logic.{ent, sep, fst∗, via, mono_r}
use contract.Monad.{fact, conj, conj_mono}
use denote.Ref.{Bor}
use Rattle.std.specs.Prelude.{Bool, Result, Ok, Err, Option, Some, None}
use Rattle.refusals.specs.Refusals.{Answer, given, refused, as_number}
use Rattle.refusals.specs.Numbers.{answer_of}
use Rattle.refusals.specs.declared.Refusal.{Refusal}
use Rattle.observation.specs.declared.entry.Observation.{Observation}
use Rattle.obs_reader.specs.declared.ObsReader.{ObsReader}
use Rattle.obs_reader.specs.declared.Stepped.{Stepped}
use Rattle.epochs.specs.Collator.{happened_of}
use Rattle.epochs.specs.Happened.{Happened}
use Rattle.epochs.specs.declared.collating.Collator.{Collator}
use Rattle.epochs.specs.declared.collating.FedCollator.{FedCollator}
use Rattle.epochs.specs.declared.collating.Report.{Report}
use Rattle.epochs.specs.declared.seating.Roster.{Roster}
use Rattle.captures.specs.Capture.{collated_of}
use Rattle.captures.specs.Collated as Collated
use Rattle.captures.specs.declared.capturing.Collated as code
use Rattle.frame_rows.specs.Found.{found_number}
use Rattle.frame_rows.specs.declared.reading.Found.{Found}
use Rattle.states.specs.Feed.{epoch_number}
use Rattle.index.specs.Index.{Hit, at, nowhere, sought_answer}
use Rattle.index.specs.declared.asking.Found as F
use Rattle.calls.specs.Replies.{refusal_of}
use Rattle.calls.proofs.Results.{refusal_back, same_answer}
use Rattle.capture_calls.specs.CaptureCalls.{handed, reported, collated_as}
use Rattle.capture_calls.proofs.Captured.{handed_back, reported_back, collated_back}
use Rattle.linked_calls.specs.Linked.{found_by, ended_by}
use Rattle.linked_calls.proofs.Numbered.{found_back, found_below, ended_back, ended_below}
use Rattle.determined.proofs.Determining as by

-- what is found in an index, of what the definition says
abbrev sought_of : Answer Hit → Result (Option F.Found) Refusal
sought_of (given (at i e)) = Ok (Some (record { place = i; entry = e }))
sought_of (given nowhere) = Ok None
sought_of (refused n) = Err (refusal_of n)

sought_back : (x : Result (Option F.Found) Refusal) → sought_of (sought_answer x) ≡ x
sought_back (Ok (Some f)) = refl
sought_back (Ok None) = refl
sought_back (Err e) = ap Err (refusal_back e)

module _ {M : Type 1} (𝓤 : Ura M) where
  pub sought : (x y : Result (Option F.Found) Refusal) (d : Answer Hit) → ent 𝓤 (conj 𝓤 (fact 𝓤 (sought_answer x ≡ d)) (fact 𝓤 (sought_answer y ≡ d))) (fact 𝓤 ((x ≡ y) × Unit {0}))
  sought = by.said_by 𝓤 sought_answer sought_of sought_back

  pub reader : {x y : ObsReader} {kind : ℕ} {payload : Bor (List ℕ)} {at : ℕ}
      → ent 𝓤
      (conj 𝓤
      (sep 𝓤 (fact 𝓤 (x.kind ≡ kind)) (sep 𝓤 (fact 𝓤 (x.payload ≡ payload)) (fact 𝓤 (x.at ≡ at))))
      (sep 𝓤 (fact 𝓤 (y.kind ≡ kind)) (sep 𝓤 (fact 𝓤 (y.payload ≡ payload)) (fact 𝓤 (y.at ≡ at)))))
      (fact 𝓤 ((x ≡ y) × Unit {0}))
  reader {x} {y} {kind} {payload} {at} =
      via 𝓤
      (conj 𝓤
      (sep 𝓤 (fact 𝓤 (x.kind ≡ kind)) (fact 𝓤 ((x.payload ≡ payload) × (x.at ≡ at))))
      (sep 𝓤 (fact 𝓤 (y.kind ≡ kind)) (fact 𝓤 ((y.payload ≡ payload) × (y.at ≡ at)))))
      (conj_mono 𝓤 (mono_r 𝓤 (fact 𝓤 (x.kind ≡ kind)) (by.beside 𝓤)) (mono_r 𝓤 (fact 𝓤 (y.kind ≡ kind)) (by.beside 𝓤)))
      (by.two_clauses 𝓤 (λ p q. ((λ i. record { kind = (p.0 ∙ sym q.0) i; payload = (p.1.0 ∙ sym q.1.0) i; at = (p.1.1 ∙ sym q.1.1) i }), tt)))

  pub stepped : {x y : Stepped} {d : Answer Observation} {at : ℕ}
      → ent 𝓤
      (conj 𝓤 (sep 𝓤 (fact 𝓤 (answer_of x.answer ≡ d)) (fact 𝓤 (x.at ≡ at))) (sep 𝓤 (fact 𝓤 (answer_of y.answer ≡ d)) (fact 𝓤 (y.at ≡ at))))
      (fact 𝓤 ((x ≡ y) × Unit {0}))
  stepped = by.two_clauses 𝓤 (λ p q. (ap₂ {C = Stepped} (λ answer at. record { answer = answer; at = at }) (same_answer p.0 q.0) (p.1 ∙ sym q.1), tt))

  pub roster : {x y : Roster} {senders : List ℕ} {count : ℕ}
      → ent 𝓤 (conj 𝓤 (sep 𝓤 (fact 𝓤 (x.senders ≡ senders)) (fact 𝓤 (x.count ≡ count))) (sep 𝓤 (fact 𝓤 (y.senders ≡ senders)) (fact 𝓤 (y.count ≡ count))))
      (fact 𝓤 ((x ≡ y) × Unit {0}))
  roster = by.two_clauses 𝓤 (λ p q. (ap₂ {C = Roster} (λ senders count. record { senders = senders; count = count }) (p.0 ∙ sym q.0) (p.1 ∙ sym q.1), tt))

  -- that a refusal leaves the collator as it was is said of what it leaves already
  pub fed : {C : Type 0} {x y : Result (Option Report) Refusal} {h : Happened} {b c d : C} {P Q : Type 0}
      → ent 𝓤
      (conj 𝓤 (sep 𝓤 (fact 𝓤 (happened_of x ≡ h)) (sep 𝓤 (fact 𝓤 (b ≡ d)) (fact 𝓤 P))) (sep 𝓤 (fact 𝓤 (happened_of y ≡ h)) (sep 𝓤 (fact 𝓤 (c ≡ d)) (fact 𝓤 Q))))
      (fact 𝓤 ((x ≡ y) × ((b ≡ c) × Unit {0})))
  fed {C} {x} {y} {h} {b} {c} {d} {P} {Q} =
      via 𝓤 (conj 𝓤 (sep 𝓤 (fact 𝓤 (happened_of x ≡ h)) (fact 𝓤 (b ≡ d))) (sep 𝓤 (fact 𝓤 (happened_of y ≡ h)) (fact 𝓤 (c ≡ d))))
      (conj_mono 𝓤
      (mono_r 𝓤 (fact 𝓤 (happened_of x ≡ h)) (fst∗ 𝓤 (fact 𝓤 (b ≡ d)) (fact 𝓤 P)))
      (mono_r 𝓤 (fact 𝓤 (happened_of y ≡ h)) (fst∗ 𝓤 (fact 𝓤 (c ≡ d)) (fact 𝓤 Q))))
      (by.two_clauses 𝓤 (λ p q. (sym (handed_back x) ∙ ap handed (p.0 ∙ sym q.0) ∙ handed_back y, (p.1 ∙ sym q.1, tt))))

  pub fed_by_value : {x y : FedCollator} {c : Collator} {h : Happened}
      → ent 𝓤
      (conj 𝓤 (sep 𝓤 (fact 𝓤 (x.collator ≡ c)) (fact 𝓤 (happened_of x.happened ≡ h))) (sep 𝓤 (fact 𝓤 (y.collator ≡ c)) (fact 𝓤 (happened_of y.happened ≡ h))))
      (fact 𝓤 ((x ≡ y) × Unit {0}))
  fed_by_value {x} {y} =
      by.two_clauses 𝓤 (λ p q.
      let r = sym (handed_back x.happened) ∙ ap handed (p.1 ∙ sym q.1) ∙ handed_back y.happened in
      (ap₂ {C = FedCollator} (λ collator happened. record { collator = collator; happened = happened }) (p.0 ∙ sym q.0) r, tt))

  pub outcome : (x y : Option Report) (h : Happened) → ent 𝓤 (conj 𝓤 (fact 𝓤 (happened_of (Ok x) ≡ h)) (fact 𝓤 (happened_of (Ok y) ≡ h))) (fact 𝓤 ((x ≡ y) × Unit {0}))
  outcome = by.said_by 𝓤 (λ (x : Option Report). happened_of (Ok x)) reported reported_back

  pub collated : (x y : Result code.Collated Refusal) (t : Collated.Collated) → ent 𝓤 (conj 𝓤 (fact 𝓤 (collated_of x ≡ t)) (fact 𝓤 (collated_of y ≡ t))) (fact 𝓤 ((x ≡ y) × Unit {0}))
  collated = by.said_by 𝓤 collated_of collated_as collated_back

  pub found : {B : Type 0} (x y : Result Found Refusal) (n : ℕ) (b c e : B)
      → ent 𝓤 (conj 𝓤 (sep 𝓤 (fact 𝓤 (as_number found_number (answer_of x) ≡ n)) (fact 𝓤 (b ≡ e))) (sep 𝓤 (fact 𝓤 (as_number found_number (answer_of y) ≡ n)) (fact 𝓤 (c ≡ e))))
      (fact 𝓤 ((x ≡ y) × ((b ≡ c) × Unit {0})))
  found = by.told_stored 𝓤 found_number found_by found_back found_below

  pub ended : {B C : Type 0} (x y : Result Bool Refusal) (n : ℕ) (b c e : B) (u v w : C)
      → ent 𝓤
      (conj 𝓤
      (sep 𝓤 (fact 𝓤 (as_number epoch_number (answer_of x) ≡ n)) (sep 𝓤 (fact 𝓤 (b ≡ e)) (fact 𝓤 (u ≡ w))))
      (sep 𝓤 (fact 𝓤 (as_number epoch_number (answer_of y) ≡ n)) (sep 𝓤 (fact 𝓤 (c ≡ e)) (fact 𝓤 (v ≡ w)))))
      (fact 𝓤 ((x ≡ y) × ((b ≡ c) × ((u ≡ v) × Unit {0}))))
  ended = by.told_stored_stored 𝓤 epoch_number ended_by ended_back ended_below
