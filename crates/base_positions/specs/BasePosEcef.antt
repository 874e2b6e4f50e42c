-- BASE_POS_ECEF, 0x0048: the base station, Earth centred, in m.
use Rattle.std.specs.Prelude.{refl, [], ◌∷◌}
use Rattle.wire.specs.Value.{double}
use Rattle.layouts.specs.Field.{any}
use Rattle.layouts.specs.Layout.{run}
use Rattle.layouts.specs.Description.{Description, Fixed, fixed_run}
use Rattle.base_positions.specs.declared.base_pos_ecef.BasePosEcef.{BasePosEcef}

abbrev pub base_pos_ecef : Description BasePosEcef
base_pos_ecef = record {
  kind = 0x0048;
  layout = run (any double ∷ any double ∷ any double ∷ []);
  row = λ r. (r.x, (r.y, (r.z, tt)));
  make = λ v. record { x = v.0; y = v.1.0; z = v.1.1.0 };
  row_make = λ v. refl;
  make_row = λ r. refl;
}

-- it has no part that repeats
pub fixed : Fixed base_pos_ecef 0x0048 24
fixed = fixed_run base_pos_ecef refl
