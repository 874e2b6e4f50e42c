-- A store takes the lowest bytes of a number only.
use mathlib.Core.Path.{◌≡◌, refl, sym, ap, ◌∙◌}
use mathlib.Core.Bool.{Bool, true, false, cond}
use mathlib.Core.List.{List}
use Prim.Native.Nat.{ℕ, ◌+◌, ◌%◌, ◌/◌, ◌^◌}
use native.Mathlib.Nat.{add-zero}
use lib.Dec.{leb}
use lib.ListN.{length}
use Rattle.wire.specs.Number.{bytes_of, stored_at}
use Rattle.wire.proofs.Numbers.{stored_halves, stored_nowhere}

-- no bytes stored
nothing : (n : ℕ) (s : List ℕ) (at : ℕ) → s ≡ stored_at 0 n s at
unfolding stored_at bytes_of
nothing n s at = alike (leb (at + 0) (length s))
  where
    alike : (t : Bool) → s ≡ cond t s s
    alike true = refl
    alike false = refl

pub cut : (w n : ℕ) (s : List ℕ) (at : ℕ) → stored_at w (n % 256 ^ w) s at ≡ stored_at w n s at
cut w n s at = by (leb (at + w) (length s)) refl
  where
    by : (t : Bool) → leb (at + w) (length s) ≡ t → stored_at w (n % 256 ^ w) s at ≡ stored_at w n s at
    by true e =
        stored_halves w 0 n s at (ap (λ (v : ℕ). leb (at + v) (length s)) (add-zero w) ∙ e) refl (nothing (n / 256 ^ w) (stored_at w (n % 256 ^ w) s at) (at + w))
        ∙ ap (λ (v : ℕ). stored_at v n s at) (add-zero w)
    by false e = sym (stored_nowhere w (n % 256 ^ w) s at e) ∙ stored_nowhere w n s at e
