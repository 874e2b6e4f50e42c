-- A field as a number of 64 bits, by its format; which types are written from a row.
use mathlib.Core.Path.{◌≡◌, refl, sym, ap}
use mathlib.Core.Bool.{Bool, true, false, cond}
use Prim.Native.Nat.{ℕ, ◌+◌, ◌^◌, ◌<◌}
use lib.Dec.{ltb}
use mir.Syntax.{w16, w64}
use mir.Val.{to_z, of_z}
use mir.ValLaws.{to_z_pos}
use borrow.Author.Tests.{ltb-true, ltb-false, leb-true}
use Rattle.wire.specs.Number.{number_at}
use Rattle.wire.proofs.Numbers.{number_lt}
use Rattle.wire.proofs.Doubles.{bits_double_of}
use Rattle.payloads.specs.Payloads.{entry_for}
use Rattle.rows_back.specs.FieldRows.{widened16, row_types, AllWritten, FieldRows}
use Rattle.rows_back.proofs.OneRead.{extended, widens}

widens_16 : (n : ℕ) → n < 2 ^ 16 → of_z w64 (to_z w16 n) ≡ widened16 n
widens_16 n h = by (ltb n 0x8000) refl
  where
    by : (t : Bool) → ltb n 0x8000 ≡ t → of_z w64 (to_z w16 n) ≡ cond t n (n + 0xffffffffffff0000)
    by true e = ap (of_z w64) (to_z_pos w16 n (ltb-true n 0x8000 e))
    by false e = sym (extended w16 n (leb-true (2 ^ 16) (2 ^ 64) refl) (ltb-false n 0x8000 e) h)

written : AllWritten row_types
unfolding entry_for
written = (
  refl,
  (refl, (refl, (refl, (refl, (refl, (refl, (refl, (refl, (refl, (refl, (refl, (refl, (refl, (refl, (refl, (refl, (refl, (refl, (refl, (refl, (refl, tt))))))))))))))))))))),
)

pub field_rows : FieldRows
field_rows = record {
  shown_u8 = λ s at. refl;
  shown_u16 = λ s at. refl;
  shown_u32 = λ s at. refl;
  shown_s16 = λ s at bytes. widens_16 (number_at 2 s at) (number_lt 2 s at bytes);
  shown_s32 = λ s at bytes. widens (number_at 4 s at) (number_lt 4 s at bytes);
  shown_double = λ s at bytes. bits_double_of (number_at 8 s at) (number_lt 8 s at bytes);
  takes_u8 = λ n. refl;
  takes_u16 = λ n. refl;
  takes_u32 = λ n. refl;
  takes_s16 = λ n. refl;
  takes_s32 = λ n. refl;
  takes_double = λ n. refl;
  written = written;
}
