-- What only private contracts cite: what the digits of a shape make of a payload. One number for each field; of what is repeated to the end, how
-- often; of a text, its length and that of the zeros after it. That this is what the type's layout says is proved (proofs/Shaped.antt).
use Rattle.std.specs.Prelude.{ℕ, ◌/◌, cond, List, [], ◌∷◌, ◌++◌, eqb, length, drop}
use Rattle.padded.specs.Padded.{before_zero, from_zero}
use Rattle.formats.specs.Digits.{formats_by, size_of, numbers_at, text_digit}
use Rattle.formats.specs.declared.Shape.{Shape}

-- the numbers of a run, then what some rest makes of the bytes after it
abbrev pub run_then : ℕ → (List ℕ → List ℕ) → List ℕ → List ℕ
run_then digits rest s = numbers_at (formats_by digits) s 0 ++ rest (drop (size_of (formats_by digits)) s)

-- how long a text is, and how many bytes stand after it
abbrev pub text_numbers : List ℕ → List ℕ
text_numbers s = length (before_zero s) ∷ length (from_zero s) ∷ []

-- how often a run's bytes are repeated, or the numbers of a text
abbrev pub tail_in : ℕ → List ℕ → List ℕ
tail_in each s = cond (eqb each 0) [] (cond (eqb each text_digit) (text_numbers s) (length s / size_of (formats_by each) ∷ []))

abbrev pub rest_in : ℕ → ℕ → List ℕ → List ℕ
rest_in more each = run_then more (tail_in each)

abbrev pub row_in : Shape → List ℕ → List ℕ
row_in shape = run_then shape.head (rest_in shape.more shape.each)
