-- Both round trips and the refusals, once for every message.
use mathlib.Core.Path.{◌≡◌, refl, sym, ap, ◌∙◌, subst⁻¹}
use mathlib.Core.Bool.{true, false}
use mathlib.Core.List.{List}
use mathlib.Core.Logic.{◌↔◌, inl, inr}
use Prim.Native.Nat.{ℕ}
use lib.ListN.{length}
use borrow.Author.Tests.{eqb-false}
use Rattle.wire.specs.Number.{Bytes}
use Rattle.layouts.specs.Layout.{Body, HeldBody, SettledBody, allowed_body, few_enough, body_bits, LengthOf, encode_body, decode_body, Sound}
use Rattle.layouts.specs.Description.{Description, inside, reading, read_as}
use Rattle.refusals.specs.Refusals.{refused, given, FirstFails}
use Rattle.layouts.proofs.Layouts.{again_body, again_body_bits, again_body_settled, allowed_again_body, lengths_true, lengths_of, lengths_false, no_length, size_fits, length-encode_body, decode_encode_body, encode_decode_body, decode_body_settled, decode_few}
use Rattle.refusals.proofs.Ordered.{exactly_first, exactly_all}

module _ {R : Type 0} (d : Description R) where
  -- ---- reading, by cases

  module _ (s : List ℕ) where
    read_22 : (LengthOf d.layout (length s) → ⊥) → read_as d s ≡ refused 22
    unfolding read_as
    read_22 e = rw (lengths_false d.layout (length s) e)

    read_23 : LengthOf d.layout (length s) → allowed_body d.layout (decode_body d.layout s) ≡ false → read_as d s ≡ refused 23
    unfolding read_as
    read_23 e a = rw (lengths_true d.layout (length s) e, a)

    read_given : LengthOf d.layout (length s) → allowed_body d.layout (decode_body d.layout s) ≡ true → read_as d s ≡ given (inside d s)
    unfolding read_as
    read_given e a = rw (lengths_true d.layout (length s) e, a)

    -- a payload is refused exactly when one of its cases holds, by the first
    pub exactly_22 : (read_as d s ≡ refused 22) ↔ (LengthOf d.layout (length s) → ⊥)
    unfolding read_as
    exactly_22 = (λ r. only ((exactly_first (inside d s) (reading d s).tests 22).0 r), read_22)
      where
        only : FirstFails (reading d s).tests 22 → LengthOf d.layout (length s) → ⊥
        only (inl f) = no_length d.layout (length s) f.0
        only (inr (t, inl f)) = absurd (eqb-false 22 23 refl f.1)
        only (inr (t, inr f)) = absurd f.1

    pub exactly_23 : (read_as d s ≡ refused 23) ↔ (LengthOf d.layout (length s) × (allowed_body d.layout (decode_body d.layout s) ≡ false))
    unfolding read_as
    exactly_23 = (λ r. only ((exactly_first (inside d s) (reading d s).tests 23).0 r), λ c. read_23 c.0 c.1)
      where
        only : FirstFails (reading d s).tests 23 → LengthOf d.layout (length s) × (allowed_body d.layout (decode_body d.layout s) ≡ false)
        only (inl f) = absurd (eqb-false 23 22 refl f.1)
        only (inr (t, inl f)) = (lengths_of d.layout (length s) t, f.0)
        only (inr (t, inr f)) = absurd f.1

    -- the body of what was read is the body decoded
    body_inside : (r : R) → r ≡ inside d s → d.row r ≡ decode_body d.layout s
    body_inside r e = ap d.row e ∙ d.row_make (decode_body d.layout s)

    accepted : (r : R) → read_as d s ≡ given r
        → LengthOf d.layout (length s) × (allowed_body d.layout (decode_body d.layout s) ≡ true) × (d.row r ≡ decode_body d.layout s)
    unfolding read_as
    accepted r g =
        let a = (exactly_all (inside d s) (reading d s).tests r).0 g in
        (lengths_of d.layout (length s) a.0.0, a.0.1.0, body_inside r (sym a.1))

  -- ---- both ways

  -- an accepted payload is within the ranges and the most, and its bytes written again are the same
  pub writes_back : (s : List ℕ) (r : R) → Bytes s → read_as d s ≡ given r
      → (allowed_body d.layout (d.row r) ≡ true) × (few_enough d.layout (d.row r) ≡ true) × (encode_body d.layout (d.row r) ≡ s)
  writes_back s r h g =
      let a = accepted s r g in (
        ap (allowed_body d.layout) a.2 ∙ a.1,
        ap (few_enough d.layout) a.2 ∙ decode_few d.layout s a.0,
        ap (encode_body d.layout) a.2 ∙ encode_decode_body d.layout s h a.0,
      )

  -- what is read is settled
  pub read_settled : (s : List ℕ) (r : R) → Bytes s → read_as d s ≡ given r → SettledBody d.layout (d.row r)
  read_settled s r h g = subst⁻¹ (SettledBody d.layout) (accepted s r g).2 (decode_body_settled d.layout s h)

  module _ (sound : Sound d.layout) (r : R) (held : HeldBody d.layout (d.row r)) (a : allowed_body d.layout (d.row r) ≡ true) (few : few_enough d.layout (d.row r) ≡ true) where
    abbrev again : Body d.layout
    again = again_body d.layout (d.row r)

    reads_again : read_as d (encode_body d.layout (d.row r)) ≡ given (d.make again)
    reads_again =
        let b = encode_body d.layout (d.row r) in
        let back : decode_body d.layout b ≡ again = decode_encode_body d.layout (d.row r) sound held a in
        read_given b (subst⁻¹ (LengthOf d.layout) (length-encode_body d.layout (d.row r)) (size_fits d.layout (d.row r) sound few)) (ap (allowed_body d.layout) back ∙ allowed_again_body d.layout (d.row r) held ∙ a)
        ∙ ap (λ (v : Body d.layout). given (d.make v)) back

    -- a record written reads back bit for bit
    pub reads_back : (q : R) × (read_as d (encode_body d.layout (d.row r)) ≡ given q) × (body_bits d.layout (d.row q) ≡ body_bits d.layout (d.row r))
    reads_back = (
      d.make again,
      reads_again,
      ap (body_bits d.layout) (d.row_make again) ∙ again_body_bits d.layout (d.row r) held,
    )

    -- and one such as reading makes comes back the same
    pub reads_same : SettledBody d.layout (d.row r) → read_as d (encode_body d.layout (d.row r)) ≡ given r
    reads_same e = reads_again ∙ ap given (ap d.make (again_body_settled d.layout (d.row r) e) ∙ d.make_row r)

  -- ---- as code answers: r is what it took from the bytes

  pub gives_22 : (s : List ℕ) → (LengthOf d.layout (length s) → ⊥) → refused 22 ≡ read_as d s
  gives_22 s e = sym (read_22 s e)

  module _ (s : List ℕ) (r : R) (e : LengthOf d.layout (length s)) (taken : r ≡ inside d s) where
    pub gives_23 : allowed_body d.layout (d.row r) ≡ false → refused 23 ≡ read_as d s
    gives_23 a = sym (read_23 s e (ap (allowed_body d.layout) (sym (body_inside s r taken)) ∙ a))

    pub gives : allowed_body d.layout (d.row r) ≡ true → given r ≡ read_as d s
    gives a = ap given taken ∙ sym (read_given s e (ap (allowed_body d.layout) (sym (body_inside s r taken)) ∙ a))
