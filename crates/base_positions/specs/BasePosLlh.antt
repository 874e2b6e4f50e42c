-- BASE_POS_LLH, 0x0044: the base station, in degrees and m.
use Rattle.std.specs.Prelude.{refl, [], ◌∷◌}
use Rattle.wire.specs.Value.{double}
use Rattle.layouts.specs.Field.{any}
use Rattle.layouts.specs.Layout.{run}
use Rattle.layouts.specs.Description.{Description, Fixed, fixed_run}
use Rattle.base_positions.specs.declared.base_pos_llh.BasePosLlh.{BasePosLlh}

abbrev pub base_pos_llh : Description BasePosLlh
base_pos_llh = record {
  kind = 0x0044;
  layout = run (any double ∷ any double ∷ any double ∷ []);
  row = λ r. (r.lat, (r.lon, (r.height, tt)));
  make = λ v. record { lat = v.0; lon = v.1.0; height = v.1.1.0 };
  row_make = λ v. refl;
  make_row = λ r. refl;
}

-- it has no part that repeats
pub fixed : Fixed base_pos_llh 0x0044 24
fixed = fixed_run base_pos_llh refl
