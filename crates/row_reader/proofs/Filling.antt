-- A run read into the front of a row, and what some rest of the bytes gives read into the part of the row after it, which is lent.
use mathlib.Core.Path.{◌≡◌, refl, sym, ap, ap₂, ◌∙◌}
use mathlib.Core.List.{List, [], ◌∷◌, ◌++◌, append_assoc, append-nil}
use Prim.Native.Nat.{ℕ, ◌+◌, ◌-◌, ◌/◌, ◌≤◌, ◌<◌}
use native.Mathlib.Nat.{zero-add, not-suc-le-zero}
use native.Mathlib.Omega.{arith}
use lib.ListN.{length, take, drop, set, length-append, length-drop, drop_of_length-le}
use lib.Seq.{sets-eq, take_at, drop_at, drop-drop}
use borrow.Author.Tests.{eq-eqb, ne_eqb}
use Rattle.wire.specs.Number.{bytes_stored}
use Rattle.wire.proofs.Stored.{bytes_sets}
use Rattle.wire.proofs.Lent.{lent_from, back_from, lent_all, lent_length}
use Rattle.padded.specs.Padded.{before_zero, from_zero}
use Rattle.padded.proofs.Texts.{length-split}
use Rattle.formats.specs.Digits.{formats_by, size_of, numbers_at, text_digit}
use Rattle.formats.proofs.Rows.{length-numbers}
use Rattle.row_reader.specs.ReadRow.{beginning}
use Rattle.row_reader.specs.Inner.{run_then, text_numbers, tail_in}

-- numbers that have room, stored in a row's front
pub stored_front : (ns row : List ℕ) → length ns ≤ length row → bytes_stored ns row 0 ≡ beginning ns row
stored_front ns row h =
    let room : 0 + length ns ≤ length row = omega arith in
    bytes_sets ns row 0 room ∙ sets-eq ns row 0 room ∙ ap (λ (k : ℕ). ns ++ drop k row) (zero-add (length ns))

-- and some more of them in what is lent after it
back_after : (ns ms row : List ℕ) (n : ℕ) → length ns ≡ n → {l t : List ℕ} → l ≡ beginning ns row → t ≡ beginning ms (lent_from n l) → back_from n l t ≡ beginning (ns ++ ms) row
back_after ns ms row n e {l} {t} p q =
    let after : drop n l ≡ drop n row = ap (drop n) p ∙ drop_at ns (drop (length ns) row) n e ∙ ap (λ (k : ℕ). drop k row) e in
    let past : length (drop n l) ≤ length l - n = rw length-drop (omega arith) in
    let none : drop (length l - n) (drop n l) ≡ [] = drop_of_length-le (drop n l) past in
    let far : n + length ms ≡ length (ns ++ ms) = omega (arith, length-append ns ms) in
    let more : t ≡ ms ++ drop (length (ns ++ ms)) row
    = q ∙ ap (λ (u : List ℕ). ms ++ drop (length ms) u) (lent_all n l ∙ after)
    ∙ ap (λ (u : List ℕ). ms ++ u) (drop-drop (length ms) n row ∙ ap (λ (k : ℕ). drop k row) far) in
    ap₂ (λ (u v : List ℕ). u ++ (t ++ v)) (ap (take n) p ∙ take_at ns (drop (length ns) row) n e) none
    ∙ ap (λ (u : List ℕ). ns ++ u) (append-nil t ∙ more)
    ∙ sym (append_assoc ns ms (drop (length (ns ++ ms)) row))

module _ (digits : ℕ) (rest : List ℕ → List ℕ) (s row : List ℕ) (room : length (run_then digits rest s) ≤ length row) {n at : ℕ} {l : List ℕ} (counted : n ≡ length (formats_by digits)) (sized : at ≡ size_of (formats_by digits)) (read : l ≡ bytes_stored (numbers_at (formats_by digits) s 0) row 0) where
  abbrev ns : List ℕ
  ns = numbers_at (formats_by digits) s 0

  many : length ns ≡ n
  many = length-numbers (formats_by digits) s 0 ∙ sym counted

  abbrev left : List ℕ
  left = rest (drop (size_of (formats_by digits)) s)

  enough : n + length left ≤ length row
  enough = omega (arith, room, many, length-append ns left)

  front : l ≡ beginning ns row
  front = read ∙ stored_front ns row (omega (arith, enough, many))

  long : length l ≡ length row
  long = ap length front ∙ length-append ns (drop (length ns) row) ∙ omega (arith, length-drop (length ns) row, enough, many)

  lent_rest : rest (lent_from at s) ≡ left
  lent_rest = ap rest (lent_all at s ∙ ap (λ (k : ℕ). drop k s) sized)

  pub has_start : n ≤ length l
  has_start = omega (arith, enough, long)

  pub lent_room : length (rest (lent_from at s)) ≤ length (lent_from n l)
  lent_room = rw (lent_rest, lent_length n l) (omega (arith, enough, long))

  pub run_then_lem : {t : List ℕ} → t ≡ beginning (rest (lent_from at s)) (lent_from n l) → back_from n l t ≡ beginning (run_then digits rest s) row
  run_then_lem e = back_after ns left row n many front (e ∙ ap (λ (ms : List ℕ). beginning ms (lent_from n l)) lent_rest)

-- ---- how often a run is repeated, in the front of a row

pub no_tail : (each : ℕ) (s : List ℕ) → each ≡ 0 → tail_in each s ≡ []
no_tail each s none = rw (eq-eqb each 0 none)

pub text_tail : (each : ℕ) (s : List ℕ) → each ≡ text_digit → tail_in each s ≡ text_numbers s
text_tail each s text = rw text

pub one_tail : (each : ℕ) (s : List ℕ) → (each ≡ 0 → ⊥) → (each ≡ text_digit → ⊥) → tail_in each s ≡ length s / size_of (formats_by each) ∷ []
one_tail each s some other = rw (ne_eqb each 0 some, ne_eqb each text_digit other)

pub tail_unset : (each : ℕ) (s row : List ℕ) → each ≡ 0 → row ≡ beginning (tail_in each s) row
tail_unset each s row none = sym (ap (λ (ns : List ℕ). beginning ns row) (no_tail each s none))

-- a text's two numbers, one after the other
module _ (s row : List ℕ) where
  pub text_set : {n : ℕ} → 2 ≤ length row → n ≡ length (before_zero s) → set (set row 0 n) 1 (length s - n) ≡ beginning (text_numbers s) row
  text_set {n} room e =
      let rest : length s - n ≡ length (from_zero s) = omega (arith, length-split s) in
      ap₂ (λ (n m : ℕ). set (set row 0 n) 1 m) e rest ∙ front row room
    where
      front : {n m : ℕ} (row : List ℕ) → 2 ≤ length row → set (set row 0 n) 1 m ≡ n ∷ m ∷ drop 2 row
      front [] h = absurd (omega arith)
      front (x ∷ []) h = absurd (omega arith)
      front (x ∷ y ∷ row) h = refl

module _ (each : ℕ) (s row : List ℕ) (room : length (tail_in each s) ≤ length row) where
  pub text_room : each ≡ text_digit → 2 ≤ length row
  text_room text = omega (arith, room, ap length (text_tail each s text))

module _ (each : ℕ) (s row : List ℕ) (some : each ≡ 0 → ⊥) (other : each ≡ text_digit → ⊥) (room : length (tail_in each s) ≤ length row) where
  pub tail_room : 0 < length row
  tail_room = omega (arith, room, ap length (one_tail each s some other))

  pub tail_set : {n : ℕ} → n ≡ size_of (formats_by each) → set row 0 (length s / n) ≡ beginning (tail_in each s) row
  tail_set e = ap (λ (k : ℕ). set row 0 (length s / k)) e ∙ front row tail_room ∙ sym (ap (λ (ns : List ℕ). beginning ns row) (one_tail each s some other))
    where
      front : {v : ℕ} (row : List ℕ) → 0 < length row → set row 0 v ≡ v ∷ drop 1 row
      front [] h = absurd (not-suc-le-zero h)
      front (x ∷ row) h = refl
