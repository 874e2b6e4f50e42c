-- What is left to store of a text, while it is put into a buffer piece by piece.
use Rattle.std.proofs.Common.{◌≡◌, ℕ, ◌+◌, ◌%◌, ◌^◌, ◌<◌, ◌≤◌, List, [], ◌++◌, length, sym, refl, ap, ◌∙◌, subst, ap₂, append-nil, arith, length-append}
use lib.Seq.{sets, length-sets}
use Rattle.wire.specs.Number.{bytes_stored}
use Rattle.wire.proofs.Numbers.{sets-append}
use Rattle.wire.proofs.Stored.{bytes_sets, length-bytes_stored}

-- rest, stored from `at` on, ends at `end` and makes the goal; where the text may have no room, that is said for P alone
pub record Pending (P : Type 0) (goal : List ℕ) (end : ℕ) (buf : List ℕ) (at : ℕ) (rest : List ℕ) : Type 0 where
  pub place : at + length rest ≡ end
  pub size : length buf ≡ length goal
  pub text : P → sets buf at rest ≡ goal

pub pending_begun : (P : Type 0) (buf : List ℕ) (at : ℕ) (text : List ℕ) → Pending P (sets buf at text) (at + length text) buf at text
pending_begun P buf at text = record { place = refl; size = sym (length-sets buf at text); text = λ p. refl }

module _ {P : Type 0} {goal : List ℕ} {end : ℕ} {buf : List ℕ} {at : ℕ} where
  -- a piece is stored where it has room, and its end is a sum that could wrap
  pub pending_stored : (piece rest : List ℕ) {after : List ℕ} {to : ℕ} → Pending P goal end buf at (piece ++ rest) → end < 2 ^ 64 → (P → end ≤ length goal)
      → after ≡ bytes_stored piece buf at → to ≡ (at + length piece) % 2 ^ 64 → Pending P goal end after to rest
  pending_stored piece rest {after} {to} p small room e q =
      let both = length-append piece rest in
      let there : to ≡ at + length piece = omega (arith, q, p.place, both) in
      record {
        place = omega (arith, there, p.place, both);
        size = ap length e ∙ length-bytes_stored piece buf at ∙ p.size;
        text = λ (h : P).
            let fits = bytes_sets piece buf at (omega (arith, room h, p.size, p.place, both)) in
            ap₂ (λ (t : List ℕ) (i : ℕ). sets t i rest) (e ∙ fits) there ∙ sym (sets-append buf at piece rest) ∙ p.text h;
      }

  -- nothing is left
  pub pending_done : Pending P goal end buf at [] → (at ≡ end) × (P → buf ≡ goal)
  pending_done p = (omega (arith, p.place), p.text)

-- a piece that is all that is left
pub pending_last : {P : Type 0} {goal : List ℕ} {end : ℕ} {buf : List ℕ} {at : ℕ} (piece : List ℕ) → Pending P goal end buf at piece → Pending P goal end buf at (piece ++ [])
pending_last {P} {goal} {end} {buf} {at} piece p = subst (Pending P goal end buf at) (sym (append-nil piece)) p
