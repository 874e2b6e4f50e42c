-- The loop that copies bytes into a buffer.
use mathlib.Core.Path.{◌≡◌, sym, ap, ◌∙◌}
use mathlib.Core.List.{List}
use Prim.Native.Nat.{ℕ, suc, ◌+◌, ◌≤◌, ◌<◌, zero-le}
use native.Mathlib.Nat.{add-zero}
use native.Mathlib.Numerals.{add-one}
use native.Mathlib.Omega.{arith}
use lib.ListN.{length, get_or, drop, set, drop_of_length-le}
use lib.Seq.{sets, drop-cons, length-sets}

module _ (at : ℕ) (start bytes : List ℕ) where
  -- buf is what start has become once i bytes are copied: those left, stored from there on, make what all make of the start
  abbrev pub Copied : List ℕ → ℕ → Type 0
  Copied buf i = (i ≤ length bytes) × (sets buf (at + i) (drop i bytes) ≡ sets start at bytes)

  pub copied_none : Copied start 0
  copied_none = (zero-le, rw add-zero)

  module _ (buf : List ℕ) (i : ℕ) (inv : Copied buf i) where
    pub copied_more : i < length bytes → Copied (set buf (at + i) (get_or bytes i 0)) (i + 1)
    copied_more h =
        let next : at + (i + 1) ≡ suc (at + i) = omega arith in
        (omega arith, rw (next, add-one) (sym (ap (sets buf (at + i)) (drop-cons bytes i 0 h)) ∙ inv.1))

    pub copied_all : length bytes ≤ i → buf ≡ sets start at bytes
    copied_all h = sym (ap (sets buf (at + i)) (drop_of_length-le bytes h)) ∙ inv.1

    pub copied_length : length buf ≡ length start
    copied_length = sym (length-sets buf (at + i) (drop i bytes)) ∙ ap length inv.1 ∙ length-sets start at bytes
