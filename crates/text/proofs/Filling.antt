-- A text put into a buffer from its last piece to its first: what the loops of `put_digits` and `put_fields` keep.
use Rattle.std.proofs.Common.{◌≡◌, ℕ, suc, ◌+◌, ◌-◌, ◌≤◌, List, [], ◌∷◌, ◌++◌, length, set, sym, refl, ap, ◌∙◌, arith, length-append}
use lib.Seq.{sets, length-sets, set_comm}
use Rattle.wire.proofs.Numbers.{sets-append}

-- a store behind a run of stores may come first
set_first : (s : List ℕ) (i : ℕ) (xs : List ℕ) (j v : ℕ) → i + length xs ≤ j → set (sets s i xs) j v ≡ sets (set s j v) i xs
set_first s i [] j v h = refl
set_first s i (x ∷ xs) j v h =
    set_first (set s i x) (suc i) xs j v (omega arith)
    ∙ ap (λ (t : List ℕ). sets t (suc i) xs) (set_comm s i j x v (λ e. omega (arith, e)))

-- and so may a run of them
sets_first : (s : List ℕ) (i : ℕ) (xs : List ℕ) (j : ℕ) (ys : List ℕ) → i + length xs ≤ j → sets (sets s i xs) j ys ≡ sets (sets s j ys) i xs
sets_first s i xs j [] h = refl
sets_first s i xs j (y ∷ ys) h =
    ap (λ (t : List ℕ). sets t (suc j) ys) (set_first s i xs j y h) ∙ sets_first (set s j y) i xs (suc j) ys (omega arith)

pub last_first : (s : List ℕ) (i : ℕ) (xs ys : List ℕ) → sets s i (xs ++ ys) ≡ sets (sets s (i + length xs) ys) i xs
last_first s i xs ys = sets-append s i xs ys ∙ sets_first s i xs (i + length xs) ys (omega arith)

-- what is left ends at `end`; stored from `start` on it makes the goal
pub record Filling (start : ℕ) (goal buf : List ℕ) (end : ℕ) (left : List ℕ) : Type 0 where
  pub place : end ≡ start + length left
  pub inside : end ≤ length goal
  pub text : sets buf start left ≡ goal

pub filling_begun : (buf : List ℕ) (end : ℕ) (text : List ℕ) → length text ≤ end → end ≤ length buf
    → Filling (end - length text) (sets buf (end - length text) text) buf end text
filling_begun buf end text h g =
    record { place = omega arith; inside = omega (arith, length-sets buf (end - length text) text); text = refl }

module _ {start : ℕ} {goal buf : List ℕ} {end : ℕ} {left : List ℕ} where
  pub filling_length : Filling start goal buf end left → length buf ≡ length goal
  filling_length f = sym (length-sets buf start left) ∙ ap length f.text

  -- the last piece is stored, and what stands before it is left
  pub filling_more : {all : List ℕ} (piece : List ℕ) → all ≡ left ++ piece → Filling start goal buf end all
      → {after : List ℕ} {to : ℕ} → to ≡ end - length piece → after ≡ sets buf to piece → Filling start goal after to left
  filling_more piece e f {after} {to} here put =
      let both = ap length e ∙ length-append left piece in
      let seam : to ≡ start + length left = omega (arith, here, f.place, both) in
      record {
        place = seam;
        inside = omega (arith, here, f.inside);
        text = ap (λ (t : List ℕ). sets t start left) (put ∙ ap (λ (j : ℕ). sets buf j piece) seam)
            ∙ sym (last_first buf start left piece)
            ∙ ap (sets buf start) (sym e)
            ∙ f.text;
      }

pub filling_done : {start : ℕ} {goal buf : List ℕ} {end : ℕ} → Filling start goal buf end [] → (end ≡ start) × (buf ≡ goal)
filling_done f = (omega (arith, f.place), f.text)
