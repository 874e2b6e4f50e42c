-- BASELINE_ECEF, 0x0202, in mm, and VEL_ECEF, 0x0204, in mm/s: one layout, two meanings.
use Rattle.std.specs.Prelude.{refl, [], ◌∷◌}
use Rattle.std.specs.Int.{w8}
use Rattle.wire.specs.Value.{u8, u16, u32, s32}
use Rattle.layouts.specs.Field.{any, ranged}
use Rattle.layouts.specs.Layout.{run}
use Rattle.layouts.specs.Description.{Description, Fixed, fixed_run}
use Rattle.flags.specs.Range.{fix_up_to}
use Rattle.baselines.specs.declared.ecef.EcefVector.{EcefVector}

abbrev pub baseline_ecef : Description EcefVector
baseline_ecef = record {
  kind = 0x0202;
  layout = run (any u32 ∷ any s32 ∷ any s32 ∷ any s32 ∷ any u16 ∷ any u8 ∷ ranged w8 (fix_up_to 1) ∷ []);
  row = λ r. (r.tow, (r.x, (r.y, (r.z, (r.accuracy, (r.n_sats, (r.flags, tt)))))));
  make = λ v. record { tow = v.0; x = v.1.0; y = v.1.1.0; z = v.1.1.1.0; accuracy = v.1.1.1.1.0; n_sats = v.1.1.1.1.1.0; flags = v.1.1.1.1.1.1.0 };
  row_make = λ v. refl;
  make_row = λ r. refl;
}

-- record and row as above
abbrev pub vel_ecef : Description EcefVector
vel_ecef = record {
  kind = 0x0204;
  layout = run (any u32 ∷ any s32 ∷ any s32 ∷ any s32 ∷ any u16 ∷ any u8 ∷ any u8 ∷ []);
  row = baseline_ecef.row;
  make = baseline_ecef.make;
  row_make = baseline_ecef.row_make;
  make_row = baseline_ecef.make_row;
}

-- neither has a part that repeats
pub baseline_fixed : Fixed baseline_ecef 0x0202 20
baseline_fixed = fixed_run baseline_ecef refl

pub vel_fixed : Fixed vel_ecef 0x0204 20
vel_fixed = fixed_run vel_ecef refl
