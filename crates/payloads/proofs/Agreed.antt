-- The descriptions say document 01's types, lengths and ranges; what follows for the answer to a payload.
use mathlib.Core.Path.{◌≡◌, refl, sym, ap, ap₂, ◌∙◌}
use mathlib.Core.Bool.{Bool, true, false, ◌&&◌, cond, and-true}
use mathlib.Core.List.{List, [], ◌∷◌}
use Rattle.std.proofs.Common.{Option, Some, None}
use Prim.Native.Nat.{ℕ, ◌<◌}
use native.Mathlib.Omega.{arith}
use lib.Dec.{eqb, ltb}
use lib.ListN.{length}
use borrow.Author.Tests.{ltb-true}
use Rattle.refusals.specs.Refusals.{refused, given, Answer, Tests, ordered, zero_or}
use Rattle.flags.specs.Range.{in_ns, fix_up_to}
use Rattle.logs.proofs.Logs.{as_padded}
use Rattle.payloads.specs.Payloads.{Entry, table, entry_for, tests_of, reading_any, read_for, answer_for}
use Rattle.payloads.specs.Checks.{document, tests, tests_by, Agrees, AsInDocument}
use Rattle.payloads.specs.Inner.{check_in, check_for, tests_found, number_by}
use Rattle.payloads.specs.declared.Message.{Message}
use Rattle.payloads.specs.declared.check.Check.{Check}
use Rattle.payloads.specs.declared.check.Check.TheVariants.{Length, Ns, Fix, Obs, Log}
use Rattle.payloads.proofs.Entries.{obs_allowed, both}
use Rattle.payloads.proofs.Lengths.{obs_length, log_length_lem}

-- a range that stands last in its row
last : (fits inside : Bool) → tests fits (inside && true) ≡ tests fits inside
last fits inside = rw (and-true inside)

pub agreed : AsInDocument
unfolding in_ns fix_up_to
agreed =
    (refl, λ s. ap₂ tests (obs_length (length s)) (obs_allowed s), (refl, λ s. last _ _, (refl, λ s. refl, (refl, λ s. last _ _, (refl, λ s. last _ _, (refl, λ s. last _ _, (refl, λ s. refl, (refl, λ s. last _ _, (refl, λ s. refl, (refl, λ s. last _ _, (refl, λ s. refl, (refl, λ s. refl, (refl, λ s. refl, (refl, λ s. refl, (refl, λ s. refl, (refl, λ s. refl, (refl, λ s. refl, (refl, λ s. refl, (refl, λ s. refl, (refl, λ s. refl, (refl, λ s. refl, (refl, λ s. refl, (refl, λ s. refl, (refl, λ s. ap₂ tests (log_length_lem (length s)) (as_padded s), tt))))))))))))))))))))))))

-- ---- of any type

pub tests_agree : (es : List Entry) (ds : List (ℕ × Check)) → Agrees es ds → (kind : ℕ) (s : List ℕ) → tests_of (entry_for es kind) s ≡ tests_found (check_in ds kind) s
unfolding entry_for check_in
tests_agree [] (d ∷ ds) h kind s = elim h [ ]
tests_agree (e ∷ es) [] h kind s = elim h [ ]
tests_agree [] [] h kind s = refl
tests_agree (e ∷ es) (d ∷ ds) h kind s =
    ap (λ (k : ℕ). tests_of (cond (eqb kind k) e (entry_for es kind)) s) h.0 ∙ by (eqb kind d.0) (tests_agree es ds h.2 kind s)
  where
    by : (t : Bool) → tests_of (entry_for es kind) s ≡ tests_found (check_in ds kind) s → tests_of (cond t e (entry_for es kind)) s ≡ tests_found (cond t (Some d.1) (check_in ds kind)) s
    by true rest = h.1 s
    by false rest = rest

-- ---- the answer

-- the number does not ask what would be given
number_alone : {A B : Type 0} (ts : Tests) (a : A) (b : B) → zero_or (ordered ts a) ≡ zero_or (ordered ts b)
number_alone [] a b = refl
number_alone (t ∷ ts) a b = by t.0 (number_alone ts a b)
  where
    by : (c : Bool) → zero_or (ordered ts a) ≡ zero_or (ordered ts b) → zero_or (cond c (ordered ts a) (refused t.1)) ≡ zero_or (cond c (ordered ts b) (refused t.1))
    by true rest = rest
    by false rest = refl

-- no refusal is 0
abbrev pub positive : Tests → Bool
positive [] = true
positive (t ∷ ts) = ltb 0 t.1 && positive ts

pub passes : {A : Type 0} (ts : Tests) (x : A) → positive ts ≡ true → zero_or (ordered ts x) ≡ 0 → given x ≡ ordered ts x
passes [] x p z = refl
passes (t ∷ ts) x p z = let q = both (ltb 0 t.1) (positive ts) p in by t.0 (ltb-true 0 t.1 q.0) z (passes ts x q.1)
  where
    by : (c : Bool) → 0 < t.1 → zero_or (cond c (ordered ts x) (refused t.1)) ≡ 0 → (zero_or (ordered ts x) ≡ 0 → given x ≡ ordered ts x)
        → given x ≡ cond c (ordered ts x) (refused t.1)
    by true more z rest = rest z
    by false more z rest = absurd (omega arith)

positive_by : (k : Check) (s : List ℕ) → positive (tests_by k s) ≡ true
positive_by (Length n) s = refl
positive_by (Ns n at) s = refl
positive_by (Fix n at last) s = refl
positive_by Obs s = refl
positive_by Log s = refl

positive_found : (k : Option Check) (s : List ℕ) → positive (tests_found k s) ≡ true
positive_found None s = refl
positive_found (Some k) s = positive_by k s

-- what is not 0 is the refusal
pub refuses_by : {A : Type 0} (a : Answer A) {n : ℕ} → n ≡ zero_or a → (n ≡ 0 → ⊥) → refused n ≡ a
refuses_by (given x) p h = absurd (h p)
refuses_by (refused m) p h = ap refused p

module _ (kind : ℕ) (s : List ℕ) where
  pub numbered : {n : ℕ} {k : Option Check} → n ≡ number_by (tests_found k s) → k ≡ check_for kind → n ≡ answer_for kind s
  numbered p q =
      p ∙ ap (λ (k : Option Check). number_by (tests_found k s)) q ∙ sym (ap number_by (tests_agree table document agreed kind s)) ∙ number_alone (reading_any kind s).tests tt ((entry_for table kind).holds s)

  module _ {n : ℕ} (p : n ≡ answer_for kind s) where
    pub refuses : (n ≡ 0 → ⊥) → refused n ≡ read_for kind s
    refuses h = refuses_by (read_for kind s) p h

    -- x is what the entry of the type that was met holds
    pub gives : n ≡ 0 → {k : ℕ} {x : Message} → kind ≡ k → x ≡ (entry_for table k).holds s → given x ≡ read_for kind s
    gives z q e =
        let positive-tests = ap positive (tests_agree table document agreed kind s) ∙ positive_found (check_for kind) s in
        ap given (e ∙ sym (ap (λ (k : ℕ). (entry_for table k).holds s) q)) ∙ passes (reading_any kind s).tests ((entry_for table kind).holds s) positive-tests (sym p ∙ z)
