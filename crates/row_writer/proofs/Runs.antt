-- Two runs of formats over one row of numbers, as code takes them: the second gets the numbers and the bytes that the first leaves.
use mathlib.Core.Path.{◌≡◌, sym, ap, ◌∙◌}
use mathlib.Core.Bool.{Bool, true, false, ◌&&◌}
use mathlib.Core.List.{List, ◌++◌}
use Prim.Native.Nat.{ℕ, ◌+◌, ◌-◌, ◌≤◌}
use native.Mathlib.Nat.{zero-add, add-zero}
use native.Mathlib.Omega.{arith}
use lib.ListN.{length, take, drop}
use lib.Seq.{sets, sets-eq, take_at}
use Rattle.wire.specs.Value.{Format}
use Rattle.wire.proofs.Lent.{lent_from, lent_all}
use Rattle.formats.specs.Digits.{size_of, run_fits, run_stored}
use Rattle.formats.proofs.Narrow.{fits_joined, stored_joined, fits_drop, stored_drop, length_run, run_lent}

-- the front of a buffer in which so many bytes were stored
pub front_sets : (bs buf : List ℕ) (n : ℕ) → length bs ≡ n → n ≤ length buf → take n (sets buf 0 bs) ≡ bs
front_sets bs buf n e h = ap (take n) (sets-eq bs buf 0 (omega arith)) ∙ take_at bs (drop (0 + length bs) buf) n e

module _ (ks js : List Format) (ns : List ℕ) {n : ℕ} (counted : n ≡ length ks) where
  rest : lent_from n ns ≡ drop (length ks) ns
  rest = lent_all n ns ∙ ap (λ (k : ℕ). drop k ns) counted

  index : length ks + 0 ≡ 0 + length ks
  index = add-zero (length ks) ∙ sym (zero-add (length ks))

  pub fit_both : {a r : Bool} → a ≡ run_fits ks ns 0 → a ≡ true → r ≡ run_fits js (lent_from n ns) 0 → r ≡ run_fits (ks ++ js) ns 0
  fit_both p e q =
      q ∙ ap (λ (s : List ℕ). run_fits js s 0) rest ∙ fits_drop (length ks) ns js 0 ∙ ap (run_fits js ns) index
      ∙ ap (λ (t : Bool). t && run_fits js ns (0 + length ks)) (sym e ∙ p)
      ∙ sym (fits_joined js ns ks 0)

  pub fit_not : {a : Bool} → a ≡ run_fits ks ns 0 → a ≡ false → false ≡ run_fits (ks ++ js) ns 0
  fit_not p e = ap (λ (t : Bool). t && run_fits js ns (0 + length ks)) (sym e ∙ p) ∙ sym (fits_joined js ns ks 0)

  pub packed : (buf : List ℕ) {at : ℕ} {first t : List ℕ} → at ≡ size_of ks → size_of ks + size_of js ≤ length buf → first ≡ run_stored ks ns 0 buf 0
      → t ≡ run_stored js (lent_from n ns) 0 (lent_from at first) 0
      → take at first ++ (t ++ drop (length first - at) (drop at first)) ≡ run_stored (ks ++ js) ns 0 buf 0
  packed buf {at} {first} e room p q =
      let long : length first ≡ length buf = ap length p ∙ length_run ns ks 0 buf 0 in
      let off : at ≡ 0 + size_of ks = e ∙ sym (zero-add (size_of ks)) in
      run_lent ns js (length ks + 0) first at (omega arith) (q ∙ ap (λ (s : List ℕ). run_stored js s 0 (lent_from at first) 0) rest ∙ stored_drop (length ks) ns js 0 (lent_from at first) 0)
      ∙ (λ i. run_stored js ns (index i) (p i) (off i))
      ∙ sym (stored_joined js ns ks 0 buf 0)
