-- BASELINE_HEADING, 0x0207: the heading from base to rover, in 1/1000 degree.
use Rattle.std.specs.Prelude.{refl, [], ◌∷◌}
use Rattle.std.specs.Int.{w8}
use Rattle.wire.specs.Value.{u8, u32}
use Rattle.layouts.specs.Field.{any, ranged}
use Rattle.layouts.specs.Layout.{run}
use Rattle.layouts.specs.Description.{Description, Fixed, fixed_run}
use Rattle.flags.specs.Range.{fix_up_to}
use Rattle.baselines.specs.declared.heading.BaselineHeading.{BaselineHeading}

abbrev pub baseline_heading : Description BaselineHeading
baseline_heading = record {
  kind = 0x0207;
  layout = run (any u32 ∷ any u32 ∷ any u8 ∷ ranged w8 (fix_up_to 1) ∷ []);
  row = λ r. (r.tow, (r.heading, (r.n_sats, (r.flags, tt))));
  make = λ v. record { tow = v.0; heading = v.1.0; n_sats = v.1.1.0; flags = v.1.1.1.0 };
  row_make = λ v. refl;
  make_row = λ r. refl;
}

-- it has no part that repeats
pub fixed : Fixed baseline_heading 0x0207 10
fixed = fixed_run baseline_heading refl
