-- Each call of an index does what is promised of it.
use seplogic.Ra.Ura.{Ura}
use mathlib.Core.Path.{◌≡◌, refl, ap}
use base.Logic.{SProp, ent}
use prog.Memory.{Memory}
use prog.Routine.{Routine}
use types.Logic.{Logic}
use contract.Monad.{Fun, fact, fact_mono}
use Rattle.std.specs.Prelude.{Option, Some, None, Result, Ok, Err}
use Rattle.refusals.specs.Refusals.{Answer, mapped}
use Rattle.refusals.specs.declared.Refusal.{Refusal}
use Rattle.calls.specs.Replies.{result_of}
use Rattle.calls.proofs.Results.{refusal_back}
use Rattle.index.specs.Index.{Hit, sought_answer, extend_in, first_in, count_in}
use Rattle.index.specs.declared.asking.Found.{Found}
use Rattle.lent_index.specs.Bytes.{make_in, extend_in_bytes, first_in_bytes, count_in_bytes}
use Rattle.calls.proofs.Giving as by
use Rattle.index_calls.specs.IndexCalls as calls

-- what was found is the hit that it says
found_back : (r : Result (Option Found) Refusal) → result_of (mapped calls.found_of (sought_answer r)) ≡ r
found_back (Ok (Some f)) = refl
found_back (Ok None) = refl
found_back (Err e) = ap Err (refusal_back e)

module _ {M : Type 1} (𝓤 : Ura M) where
  sought : (x : Result (Option Found) Refusal) (d : Answer Hit) → ent 𝓤 (fact 𝓤 (sought_answer x ≡ d)) (fact 𝓤 ((x ≡ result_of (mapped calls.found_of d)) × Unit {0}))
  sought = by.said_by 𝓤 sought_answer (λ d. result_of (mapped calls.found_of d)) found_back

  three : {P Q R : Type 0} → ent 𝓤 (fact 𝓤 (P × Q × R)) (fact 𝓤 (P × (Q × (R × Unit {0}))))
  three {P} {Q} {R} = fact_mono 𝓤 (P × Q × R) (P × (Q × (R × Unit {0}))) (λ p. (p.0, (p.1, (p.2, tt))))

  both : {P Q : Type 0} → ent 𝓤 (fact 𝓤 (P × Q)) (fact 𝓤 (P × (Q × Unit {0})))
  both {P} {Q} = fact_mono 𝓤 (P × Q) (P × (Q × Unit {0})) (λ p. (p.0, (p.1, tt)))

ruleset givings = (by.plain, by.plain_stored, by.plain_stored_stored, both, three, sought, by.answered, by.numbered, by.numbered_stored, by.numbered_stored_stored)

module _ {M : Type 1} {𝓤 : Ura M} (𝓛 : Logic 𝓤) (mem : Memory → SProp 𝓤) (run : Routine → Fun 𝓤) where
  pub indexes : calls.Indexes 𝓛 mem run
  unfolding extend_in first_in count_in
  indexes = search givings

  pub linked : calls.LinkedIndexes 𝓛 mem run
  unfolding make_in extend_in_bytes first_in_bytes count_in_bytes
  linked = search givings

  pub behind : calls.BehindIndexes 𝓛 mem run
  unfolding make_in extend_in_bytes first_in_bytes count_in_bytes
  behind = search givings
