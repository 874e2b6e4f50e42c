-- BASELINE_NED, 0x0203, in mm, and VEL_NED, 0x0205, in mm/s: one layout, two meanings.
use Rattle.std.specs.Prelude.{refl, [], ◌∷◌}
use Rattle.std.specs.Int.{w8}
use Rattle.wire.specs.Value.{u8, u16, u32, s32}
use Rattle.layouts.specs.Field.{any, ranged}
use Rattle.layouts.specs.Layout.{run}
use Rattle.layouts.specs.Description.{Description, Fixed, fixed_run}
use Rattle.flags.specs.Range.{fix_up_to}
use Rattle.baselines.specs.declared.ned.NedVector.{NedVector}

abbrev pub baseline_ned : Description NedVector
baseline_ned = record {
  kind = 0x0203;
  layout = run (any u32 ∷ any s32 ∷ any s32 ∷ any s32 ∷ any u16 ∷ any u16 ∷ any u8 ∷ ranged w8 (fix_up_to 1) ∷ []);
  row = λ r. (r.tow, (r.n, (r.e, (r.d, (r.h_accuracy, (r.v_accuracy, (r.n_sats, (r.flags, tt))))))));
  make = λ v. record { tow = v.0; n = v.1.0; e = v.1.1.0; d = v.1.1.1.0; h_accuracy = v.1.1.1.1.0; v_accuracy = v.1.1.1.1.1.0; n_sats = v.1.1.1.1.1.1.0; flags = v.1.1.1.1.1.1.1.0 };
  row_make = λ v. refl;
  make_row = λ r. refl;
}

-- record and row as above
abbrev pub vel_ned : Description NedVector
vel_ned = record {
  kind = 0x0205;
  layout = run (any u32 ∷ any s32 ∷ any s32 ∷ any s32 ∷ any u16 ∷ any u16 ∷ any u8 ∷ any u8 ∷ []);
  row = baseline_ned.row;
  make = baseline_ned.make;
  row_make = baseline_ned.row_make;
  make_row = baseline_ned.make_row;
}

-- neither has a part that repeats
pub baseline_fixed : Fixed baseline_ned 0x0203 22
baseline_fixed = fixed_run baseline_ned refl

pub vel_fixed : Fixed vel_ned 0x0205 22
vel_fixed = fixed_run vel_ned refl
