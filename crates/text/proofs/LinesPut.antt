-- Lines: their lengths, and their fields one number more at a time.
use Rattle.std.proofs.Common.{◌≡◌, ℕ, suc, ◌+◌, ◌-◌, ◌*◌, ◌%◌, ◌^◌, ◌<◌, ◌≤◌, List, [], ◌∷◌, ◌++◌, length, get_or, take, set, sym, refl, ap, ◌∙◌, subst, ap₂, append_assoc, append-nil, arith, length-append, take_all, take-suc}
use mathlib.Core.Path.{subst⁻¹}
use lib.Seq.{sets}
use Rattle.wire.specs.Number.{bytes_stored}
use Rattle.wire.proofs.Stored.{bytes_sets, bytes_nowhere}
use Rattle.text.specs.Decimal.{decimal}
use Rattle.text.specs.Line.{fields, line}
use Rattle.text.proofs.Filling.{last_first, Filling, filling_begun, filling_length, filling_more}

pub length_fields : (n : ℕ) (ns : List ℕ) → length (fields (n ∷ ns)) ≡ length (decimal n) + 1 + length (fields ns)
unfolding fields
length_fields n ns = omega (arith, length-append (decimal n) (fields ns))

pub length-line : (letter : ℕ) (ns : List ℕ) → length (line letter ns) ≡ length (fields ns) + 2
unfolding line
length-line letter ns = omega (arith, length-append (fields ns) (10 ∷ []))

line_stored : (letter : ℕ) (ns buf : List ℕ) (at : ℕ) → sets (set buf at letter) (suc at) (fields ns ++ 10 ∷ []) ≡ sets buf at (line letter ns)
unfolding line
line_stored letter ns buf at = refl

-- ---- one number more

fields_append : (xs ys : List ℕ) → fields (xs ++ ys) ≡ fields xs ++ fields ys
unfolding fields
fields_append [] ys = refl
fields_append (x ∷ xs) ys =
    ap (λ (r : List ℕ). 32 ∷ decimal x ++ r) (fields_append xs ys) ∙ sym (append_assoc (32 ∷ decimal x) (fields xs) (fields ys))

module _ (ns : List ℕ) (i : ℕ) (h : i < length ns) where
  fields_more : fields (take (suc i) ns) ≡ fields (take i ns) ++ 32 ∷ decimal (get_or ns i 0)
  unfolding fields
  fields_more =
      ap fields (take-suc ns i 0 h)
      ∙ fields_append (take i ns) (get_or ns i 0 ∷ [])
      ∙ ap (λ (r : List ℕ). fields (take i ns) ++ 32 ∷ r) (append-nil (decimal (get_or ns i 0)))

  longer : length (fields (take (suc i) ns)) ≡ length (fields (take i ns)) + (length (decimal (get_or ns i 0)) + 1)
  longer = omega (arith, ap length fields_more, length-append (fields (take i ns)) (32 ∷ decimal (get_or ns i 0)))

-- ---- the length, summed number by number

pub record Summing (ns : List ℕ) (n i : ℕ) : Type 0 where
  pub most : n ≤ 2 + 21 * i
  pub whole : n ≡ length (fields (take i ns)) + 2

pub summing_begun : (ns : List ℕ) → Summing ns 2 0
unfolding fields
summing_begun ns = record { most = omega arith; whole = refl }

module _ (ns : List ℕ) {n i : ℕ} (k : Summing ns n i) where
  pub summing_more : {d : ℕ} → i < length ns → d ≡ length (decimal (get_or ns i 0)) → d ≤ 20 → Summing ns (n + (d + 1)) (i + 1)
  summing_more {d} h e few =
      let one : i + 1 ≡ suc i = omega arith in
      record {
        most = omega (arith, k.most, few, e);
        whole = omega (arith, k.whole, longer ns i h, e, ap (λ (j : ℕ). length (fields (take j ns))) one);
      }

-- ---- the fields, stored before an end

module _ (buf : List ℕ) (end : ℕ) (ns : List ℕ) where
  -- those of the first i numbers are left, and end at `to`
  abbrev pub Left : List ℕ → ℕ → ℕ → Type 0
  Left after to i =
      let start = end - length (fields ns) in
      (i ≤ length ns) × Filling start (sets buf start (fields ns)) after to (fields (take i ns))

  pub left_begun : {i : ℕ} → length (fields ns) ≤ end → end ≤ length buf → i ≡ length ns → Left buf end i
  left_begun {i} room fits all =
      let whole = take_all i ns (omega (arith, all)) in (
        omega (arith, all),
        subst⁻¹ (λ (r : List ℕ). Filling (end - length (fields ns)) (sets buf (end - length (fields ns)) (fields ns)) buf end (fields r)) whole (filling_begun buf end (fields ns) room fits),
      )

  module _ {after : List ℕ} {to i : ℕ} (k : Left after to i) where
    -- the last of them has room, and is put
    pub left_room : 0 < i → (length (decimal (get_or ns (i - 1) 0)) + 1 ≤ to) × (to ≤ length after)
    left_room some =
        let one : i ≡ suc (i - 1) = omega arith in
        let more = ap (λ (j : ℕ). length (fields (take j ns))) one ∙ longer ns (i - 1) (omega (arith, k.0)) in
        (omega (arith, k.1.place, more), omega (arith, k.1.inside, filling_length k.1))

    pub left_more : 0 < i → {next : List ℕ} {at : ℕ} → at ≡ to - (length (decimal (get_or ns (i - 1) 0)) + 1)
        → next ≡ sets after (to - (length (decimal (get_or ns (i - 1) 0)) + 1)) (32 ∷ decimal (get_or ns (i - 1) 0)) → Left next at (i - 1)
    left_more some {next} {at} here e =
        let n = get_or ns (i - 1) 0 in
        let one : i ≡ suc (i - 1) = omega arith in
        let all = ap (λ (j : ℕ). fields (take j ns)) one ∙ fields_more ns (i - 1) (omega (arith, k.0)) in
        (omega (arith, k.0), filling_more (32 ∷ decimal n) all k.1 (omega (arith, here)) (e ∙ ap (λ (j : ℕ). sets after j (32 ∷ decimal n)) (sym here)))

    pub left_none : i ≤ 0 → after ≡ sets buf (end - length (fields ns)) (fields ns)
    unfolding fields
    left_none h =
        let none : i ≡ 0 = omega arith in
        subst (λ (j : ℕ). sets after (end - length (fields ns)) (fields (take j ns)) ≡ sets buf (end - length (fields ns)) (fields ns)) none k.1.text

-- ---- a whole line

module _ (letter : ℕ) (ns buf : List ℕ) (at : ℕ) {n end : ℕ} (size : n ≡ length (fields ns) + 2) (past : end ≡ (at + n) % 2 ^ 64) where
  -- what is answered, and the buffer after it
  abbrev pub Put : List ℕ → Type 0
  Put after = (end ≡ (at + length (line letter ns)) % 2 ^ 64) × (after ≡ bytes_stored (line letter ns) buf at)

  long : n ≡ length (line letter ns)
  long = size ∙ sym (length-line letter ns)

  ended : end ≡ (at + length (line letter ns)) % 2 ^ 64
  ended = past ∙ ap (λ (k : ℕ). (at + k) % 2 ^ 64) long

  pub line_unfit : length buf < at + n → Put buf
  line_unfit h = (ended, sym (bytes_nowhere (line letter ns) buf at (omega (arith, h, long))))

  module _ (small : length buf < 2 ^ 64) (h : at + n ≤ length buf) where
    -- it ends there, with nothing wrapped
    pub line_end : end ≡ at + n
    line_end = omega (arith, past)

    pub line_fits : {after : List ℕ} → after ≡ sets (set (set buf at letter) (end - 1) 10) (end - 1 - length (fields ns)) (fields ns) → Put after
    line_fits e =
        let last : end - 1 ≡ suc at + length (fields ns) = omega (arith, line_end, size) in
        let behind : end - 1 - length (fields ns) ≡ suc at = omega (arith, last) in (
          ended,
          e
              ∙ ap₂ (λ (j k : ℕ). sets (set (set buf at letter) j 10) k (fields ns)) last behind
              ∙ sym (last_first (set buf at letter) (suc at) (fields ns) (10 ∷ []))
              ∙ line_stored letter ns buf at
              ∙ sym (bytes_sets (line letter ns) buf at (omega (arith, h, long))),
        )
