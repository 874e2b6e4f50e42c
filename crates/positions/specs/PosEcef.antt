-- POS_ECEF, 0x0200: the position, Earth centred, in m.
use Rattle.std.specs.Prelude.{refl, [], ◌∷◌}
use Rattle.std.specs.Int.{w8}
use Rattle.wire.specs.Value.{u8, u16, u32, double}
use Rattle.layouts.specs.Field.{any, ranged}
use Rattle.layouts.specs.Layout.{run}
use Rattle.layouts.specs.Description.{Description, Fixed, fixed_run}
use Rattle.flags.specs.Range.{fix_up_to}
use Rattle.positions.specs.declared.pos_ecef.PosEcef.{PosEcef}

abbrev pub pos_ecef : Description PosEcef
pos_ecef = record {
  kind = 0x0200;
  layout = run (any u32 ∷ any double ∷ any double ∷ any double ∷ any u16 ∷ any u8 ∷ ranged w8 (fix_up_to 2) ∷ []);
  row = λ r. (r.tow, (r.x, (r.y, (r.z, (r.accuracy, (r.n_sats, (r.flags, tt)))))));
  make = λ v. record { tow = v.0; x = v.1.0; y = v.1.1.0; z = v.1.1.1.0; accuracy = v.1.1.1.1.0; n_sats = v.1.1.1.1.1.0; flags = v.1.1.1.1.1.1.0 };
  row_make = λ v. refl;
  make_row = λ r. refl;
}

-- it has no part that repeats
pub fixed : Fixed pos_ecef 0x0200 32
fixed = fixed_run pos_ecef refl
