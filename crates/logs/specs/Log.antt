-- LOG, 0x0401: level u8, then a text, which ends before the first zero after the level; from there on every byte is zero. 1 to 255 bytes.
-- Document 02, P1.
use Rattle.std.specs.Prelude.{ℕ, refl, Bool, List, [], ◌∷◌, length, drop}
use Rattle.padded.specs.Padded.{before_zero, from_zero, all_zero, zeros}
use Rattle.wire.specs.Value.{u8}
use Rattle.layouts.specs.Field.{any}
use Rattle.layouts.specs.Layout.{then, text, lengths}
use Rattle.layouts.specs.Description.{Description, inside, reading}
use Rattle.refusals.specs.Refusals.{Answer, Call, reply}
use Rattle.logs.specs.declared.log.Log.{Log}

-- what a LOG payload holds; the padding are the bytes after the text, which have to be zero
pub record Logged : Type 0 where
  pub level : ℕ
  pub text : List ℕ
  pub padding : List ℕ

abbrev pub log : Description Logged
log = record {
  kind = 0x0401;
  layout = then (any u8 ∷ []) (text 254);
  row = λ r. ((r.level, tt), (r.text, r.padding));
  make = λ v. record { level = v.0.0; text = v.1.0; padding = v.1.1 };
  row_make = λ v. refl;
  make_row = λ r. refl;
}

-- ---- read: 22, then 23, as every message

-- the text as that part of the payload
abbrev pub text_in : List ℕ → List ℕ
text_in s = before_zero (drop 1 s)

-- of a whole LOG the code shows the level, and how long the text and the padding are
abbrev pub shown : Logged → Log
shown r = record { level = r.level; length = length r.text; padding = length r.padding }

abbrev pub reading_log : List ℕ → Call Log
reading_log s = record { tests = (reading log s).tests; value = shown (inside log s) }

unfoldable pub read_log : List ℕ → Answer Log
read_log s = reply (reading_log s)

-- the two tests, as document 01's table has them: n is the length of a payload; nothing but zeros stands after the text
abbrev pub log_length : ℕ → Bool
log_length = lengths log.layout

abbrev pub log_padded : List ℕ → Bool
log_padded s = all_zero (from_zero (drop 1 s))

-- ---- written: 23, 31, 32, as every message

-- what is handed in: a level, a text and how many zeros
abbrev pub logged : ℕ → List ℕ → ℕ → Logged
logged level words n = record { level = level; text = words; padding = zeros n }
