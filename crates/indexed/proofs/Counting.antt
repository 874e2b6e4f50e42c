-- A type's count comes from the kept total, and is the number of its frames; 21 for a type without a reading.
use mathlib.Core.Path.{◌≡◌, refl, sym, ap, ◌∙◌, subst}
use mathlib.Core.Bool.{Bool, true, false, true≢false, cond}
use mathlib.Core.List.{List}
use mathlib.Core.Logic.{◌⊎◌, inl, inr}
use Prim.Native.Nat.{ℕ, ◌<◌}
use native.Mathlib.Omega.{arith}
use seplogic.Ra.Ura.{Ura}
use base.Logic.{SProp, ent}
use contract.Monad.{fact, fact_use, fact_i}
use lib.ListN.{length, get_or}
use Rattle.refusals.specs.Refusals.{Answer, given, leaves, zero_or, reply}
use Rattle.refusals.specs.Refusals as R
use Rattle.payloads.specs.Payloads.{known_for}
use Rattle.payloads.specs.Places.{place_for}
use Rattle.index.specs.Index.{counting, count_in}
use Rattle.index.specs.declared.entry.Entry.{Entry}
use Rattle.index.specs.declared.index.Index.{Index}
use Rattle.std.specs.Prelude.{Result}
use Rattle.refusals.specs.Numbers.{answer_of}
use Rattle.refusals.specs.declared.Refusal.{Refusal}
use Rattle.lent_index.specs.Bytes.{index_from_bytes, count_in_bytes, count_or}
use Rattle.indexed.specs.Growing.{open_frames, IndexOf, number, counted_kinds}
use Rattle.indexed.specs.Asking.{Tallied, Among, CallsCount}
use Rattle.indexed.proofs.InBytes.{in_bytes_lem}
use Rattle.indexed.proofs.Tallies.{among_known, known_among, place_own}

-- ---- one call

-- the kept total of a type that has a reading; or it is refused
pub data Tells (a : Tallied) : Type 0 where
  kept : known_for a.kind ≡ true → a.number ≡ 0 → a.count ≡ get_or a.index.counts (place_for a.kind) 0 → Tells a
  unread : known_for a.kind ≡ false → a.number ≡ 21 → Tells a
  unfit : a.number ≡ 32 → a.room < 208 → Tells a

call_counted : (a : Tallied) → Tells a → (t : List ℕ) (es : List Entry) → IndexOf t a.index es → a.number ≡ 0
    → a.count ≡ number a.kind (open_frames t)
call_counted a (kept known zero e) t es of z =
    e ∙ ap (λ (counts : List ℕ). get_or counts (place_for a.kind) 0) of.counts
    ∙ place_own a.kind (λ (kind : ℕ). number kind (open_frames t)) (known_among a.kind known)
call_counted a (unread unknown n) t es of z = absurd (omega (arith, n, z))
call_counted a (unfit n few) t es of z = absurd (omega (arith, n, z))

abbrev Either : Tallied → Type 0
Either a =
    ((a.number ≡ 0) × Among a.kind counted_kinds)
    ⊎ (((a.number ≡ 21) × (Among a.kind counted_kinds → ⊥)) ⊎ ((a.number ≡ 32) × (a.room < 208)))

call_unknown : (a : Tallied) → Tells a → Either a
call_unknown a (kept known zero e) = inl (zero, known_among a.kind known)
call_unknown a (unread unknown n) = inr (inl (n, λ among. true≢false (sym (among_known a.kind among) ∙ unknown)))
call_unknown a (unfit n few) = inr (inr (n, few))

-- ---- as a contract has them

module _ {M : Type 1} (𝓤 : Ura M) {K : Type 0} (came : K → Tallied) (ensured : K → SProp 𝓤)
    (tells : (P : SProp 𝓤) (k : K) → ent 𝓤 P (ensured k) → ent 𝓤 P (fact 𝓤 (Tells (came k)))) where
  pub calls_count : CallsCount 𝓤 came ensured
  calls_count = record {
    counted = λ P t es k of ended zero.
        fact_use 𝓤 (Tells (came k)) (tells P k ended)
        (λ x. fact_i 𝓤 ((came k).count ≡ number (came k).kind (open_frames t)) P (call_counted (came k) x t es of zero));
    unknown = λ P k ended.
        fact_use 𝓤 (Tells (came k)) (tells P k ended) (λ x. fact_i 𝓤 (Either (came k)) P (call_unknown (came k) x));
  }

-- ---- contracts that say so

module _ (room : ℕ) (x : Index) (kind : ℕ) where
  -- an answer: the kept total of a type that has a reading, or a refusal
  data Judged (b : Answer ℕ) : Type 0 where
    reads : known_for kind ≡ true → b ≡ given (get_or x.counts (place_for kind) 0) → Judged b
    none : known_for kind ≡ false → b ≡ R.refused 21 → Judged b
    short : room < 208 → b ≡ R.refused 32 → Judged b

  judged : Judged (reply (counting x kind))
  judged = by (known_for kind) refl
    where
      by : (t : Bool) → known_for kind ≡ t → Judged (cond t (given (get_or x.counts (place_for kind) 0)) (R.refused 21))
      by true e = reads e refl
      by false e = none e refl

  tells_as : (old n new : ℕ) (b : Answer ℕ) → Judged b → n ≡ zero_or b → new ≡ leaves (λ (m before : ℕ). m) b old
      → Tells (record { room = room; index = x; kind = kind; number = n; count = new })
  tells_as old n new b (reads known e) p q = kept known (p ∙ ap zero_or e) (q ∙ ap (λ (c : Answer ℕ). leaves (λ (m before : ℕ). m) c old) e)
  tells_as old n new b (none unknown e) p q = unread unknown (p ∙ ap zero_or e)
  tells_as old n new b (short few e) p q = unfit (p ∙ ap zero_or e) few

  judged_count : {b : Answer ℕ} → b ≡ count_in x kind → Judged b
  unfolding count_in
  judged_count e = subst Judged (sym e) judged

  pub counts_by : (old n new : ℕ) (c : Result ℕ Refusal) → answer_of c ≡ count_in x kind → n ≡ zero_or (answer_of c)
      → new ≡ leaves (λ (m before : ℕ). m) (answer_of c) old → Tells (record { room = room; index = x; kind = kind; number = n; count = new })
  counts_by old n new c e p q = tells_as old n new (answer_of c) (judged_count e) p q

-- in bytes
module _ (b : List ℕ) (kind : ℕ) where
  judged_in_bytes : Judged (length b) (index_from_bytes b) kind (count_in_bytes b kind)
  unfolding count_in_bytes
  judged_in_bytes = in_bytes_lem b (counting (index_from_bytes b) kind) (Judged (length b) (index_from_bytes b) kind) (λ long. judged (length b) (index_from_bytes b) kind) (λ few. short few refl)

  pub counts_in_bytes : (old new n : ℕ) → n ≡ zero_or (count_in_bytes b kind) → new ≡ count_or (count_in_bytes b kind) old
      → Tells (record { room = length b; index = index_from_bytes b; kind = kind; number = n; count = new })
  counts_in_bytes old new n p q = tells_as (length b) (index_from_bytes b) kind old n new (count_in_bytes b kind) judged_in_bytes p q
