-- Two calls of `sbp_next`, as its contract has them: the frame that the first showed the second shows.
use mathlib.Core.Path.{◌≡◌, sym, ap₂, ◌∙◌}
use mathlib.Core.Bool.{true}
use mathlib.Core.List.{List}
use Prim.Native.Nat.{ℕ, ◌^◌, ◌<◌}
use lib.ListN.{length}
use seplogic.Ra.Ura.{Ura}
use base.Logic.{SProp, ent, sep, fst∗, snd∗, via}
use prog.Memory.{Memory}
use prog.Routine.{Routine}
use types.Logic.{Logic}
use contract.Monad.{Fun, fact, fact_use, fact_i}
use Rattle.stays.specs.Stays.{Leads}
use Rattle.frame_rows.specs.Found.{next_answer, next_stored}
use Rattle.exports.specs.contracts as exports
use Rattle.demands.specs.RowsStay.{RowCall, RowCallsStay}
use Rattle.demands.proofs.RowsGoOn.{rows_stay}

-- the two facts that the contract ensures
abbrev Number : RowCall → Type 0
Number k = k.number ≡ next_answer k.capture.now k.at true (length k.found.now)

abbrev Left : RowCall → Type 0
Left k = k.left.now ≡ next_stored k.capture.now k.at true k.found.now

shown_again : (early late : RowCall) → Leads early.capture.now late.capture.now → length late.capture.now < 2 ^ 64 → late.at ≡ early.at
    → late.found.now ≡ early.found.now → Number early → Left early → Number late → Left late → early.number ≡ 0 → (late.number ≡ 0) × (late.left.now ≡ early.left.now)
shown_again early late leads small at same number left number' left' zero =
    let stays = rows_stay.frame_stays early.capture.now late.capture.now leads small early.at early.found.now (sym number ∙ zero) in (
      number' ∙ ap₂ (λ (p : ℕ) (buf : List ℕ). next_answer late.capture.now p true (length buf)) at same ∙ stays.0,
      left' ∙ ap₂ (λ (p : ℕ) (buf : List ℕ). next_stored late.capture.now p true buf) at same ∙ stays.1 ∙ sym left,
    )

module _ {M : Type 1} (𝓤 : Ura M) where
  abbrev both : RowCall → SProp 𝓤
  both k = sep 𝓤 (fact 𝓤 (Number k)) (fact 𝓤 (Left k))

  -- what follows from the two facts of a call
  from_call : (P : SProp 𝓤) (k : RowCall) (Q : SProp 𝓤) → ent 𝓤 P (both k) → (Number k → Left k → ent 𝓤 P Q) → ent 𝓤 P Q
  from_call P k Q x then =
      fact_use 𝓤 (Number k) (via 𝓤 (both k) x (fst∗ 𝓤 (fact 𝓤 (Number k)) (fact 𝓤 (Left k))))
      (λ n. fact_use 𝓤 (Left k) (via 𝓤 (both k) x (snd∗ 𝓤 (fact 𝓤 (Number k)) (fact 𝓤 (Left k)))) (λ l. then n l))

  both_stay : RowCallsStay 𝓤 both
  both_stay P early late leads small at same x y =
      let Q : SProp 𝓤 = fact 𝓤 (early.number ≡ 0 → (late.number ≡ 0) × (late.left.now ≡ early.left.now)) in
      from_call P early Q x
      (λ n l. from_call P late Q y
      (λ m k. fact_i 𝓤 (early.number ≡ 0 → (late.number ≡ 0) × (late.left.now ≡ early.left.now)) P (shown_again early late leads small at same n l m k)))

module _ {M : Type 1} {𝓤 : Ura M} (𝓛 : Logic 𝓤) (mem : Memory → SProp 𝓤) (run : Routine → Fun 𝓤) where
  pub row_calls_stay : RowCallsStay 𝓤 (λ k. (exports.sbp_next.clauses 𝓛 mem run k.lives (k.capture, (k.at, (true, (k.found, tt))))).ensures tt k.number (k.capture, (k.at, (true, (k.left, tt)))))
  row_calls_stay = both_stay 𝓤
