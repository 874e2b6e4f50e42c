-- The lengths of OBS and LOG, as their layouts have them, by document 01's numbers.
use mathlib.Core.Path.{◌≡◌, refl, sym, ap, ap₂, ◌∙◌}
use mathlib.Core.Bool.{Bool, true, false, ◌&&◌}
use Prim.Native.Nat.{ℕ, ◌+◌, ◌-◌, ◌*◌, ◌/◌, ◌%◌, ◌≤◌}
use native.Mathlib.Nat.{div-add-mod', mul-add-mod_self_right, mul-mod_left}
use native.Mathlib.Omega.{arith}
use lib.Dec.{eqb, leb}
use borrow.Author.Tests.{eqb-true, eq-eqb, leb-true, le-leb}
use Rattle.observation.specs.Edition.{fitting, first}
use Rattle.logs.specs.Log.{log_length}
use Rattle.payloads.specs.Checks.{obs_long, log_long}
use Rattle.payloads.proofs.Entries.{both}

-- two tests that follow from each other are the same
same_test : (t u : Bool) → (t ≡ true → u ≡ true) → (u ≡ true → t ≡ true) → t ≡ u
same_test true u to from = sym (to refl)
same_test false true to from = from refl
same_test false false to from = refl

pub obs_length : (n : ℕ) → fitting first n ≡ obs_long n
obs_length n = same_test (fitting first n) (obs_long n) to from
  where
    to : fitting first n ≡ true → obs_long n ≡ true
    to h =
        let k = (n - 7) / 16 in
        let a = both (leb 7 n) (eqb ((n - 7) % 16) 0 && leb k 15) h in
        let b = both (eqb ((n - 7) % 16) 0) (leb k 15) a.1 in
        let head : 7 ≤ n = leb-true 7 n a.0 in
        let whole : (n - 7) % 16 ≡ 0 = eqb-true ((n - 7) % 16) 0 b.0 in
        let few : k ≤ 15 = leb-true k 15 b.1 in
        let split : k * 16 + (n - 7) % 16 ≡ n - 7 = div-add-mod' (n - 7) 16 in
        let is : n ≡ k * 16 + 7 = omega arith in
        let most : n ≤ 247 = omega arith in
        ap₂ ◌&&◌ (eq-eqb (n % 16) 7 (ap (λ (m : ℕ). m % 16) is ∙ mul-add-mod_self_right k 16 7)) (le-leb n 247 most)

    from : obs_long n ≡ true → fitting first n ≡ true
    from h =
        let a = both (eqb (n % 16) 7) (leb n 247) h in
        let rest : n % 16 ≡ 7 = eqb-true (n % 16) 7 a.0 in
        let most : n ≤ 247 = leb-true n 247 a.1 in
        let split : n / 16 * 16 + n % 16 ≡ n = div-add-mod' n 16 in
        let head : 7 ≤ n = omega arith in
        let is : n - 7 ≡ n / 16 * 16 = omega arith in
        let again : (n - 7) / 16 * 16 + (n - 7) % 16 ≡ n - 7 = div-add-mod' (n - 7) 16 in
        let few : (n - 7) / 16 ≤ 15 = omega arith in
        let whole : (n - 7) % 16 ≡ 0 = ap (λ (m : ℕ). m % 16) is ∙ mul-mod_left (n / 16) 16 in
        ap₂ ◌&&◌ (le-leb 7 n head) (ap₂ ◌&&◌ (eq-eqb ((n - 7) % 16) 0 whole) (le-leb ((n - 7) / 16) 15 few))

pub log_length_lem : (n : ℕ) → log_length n ≡ log_long n
log_length_lem n =
    same_test (log_length n) (log_long n)
    (λ h. let a = both (leb 1 n) (leb (n - 1) 254) h in ap₂ ◌&&◌ a.0 (le-leb n 255 (omega (arith, leb-true (n - 1) 254 a.1))))
    (λ h. let a = both (leb 1 n) (leb n 255) h in ap₂ ◌&&◌ a.0 (le-leb (n - 1) 254 (omega (arith, leb-true n 255 a.1))))
