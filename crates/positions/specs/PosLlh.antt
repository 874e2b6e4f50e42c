-- POS_LLH, 0x0201: the geodetic position, in degrees and m.
use Rattle.std.specs.Prelude.{refl, [], ◌∷◌}
use Rattle.std.specs.Int.{w8}
use Rattle.wire.specs.Value.{u8, u16, u32, double}
use Rattle.layouts.specs.Field.{any, ranged}
use Rattle.layouts.specs.Layout.{run}
use Rattle.layouts.specs.Description.{Description, Fixed, fixed_run}
use Rattle.flags.specs.Range.{fix_up_to}
use Rattle.positions.specs.declared.pos_llh.PosLlh.{PosLlh}

abbrev pub pos_llh : Description PosLlh
pos_llh = record {
  kind = 0x0201;
  layout = run (any u32 ∷ any double ∷ any double ∷ any double ∷ any u16 ∷ any u16 ∷ any u8 ∷ ranged w8 (fix_up_to 2) ∷ []);
  row = λ r. (r.tow, (r.lat, (r.lon, (r.height, (r.h_accuracy, (r.v_accuracy, (r.n_sats, (r.flags, tt))))))));
  make = λ v. record { tow = v.0; lat = v.1.0; lon = v.1.1.0; height = v.1.1.1.0; h_accuracy = v.1.1.1.1.0; v_accuracy = v.1.1.1.1.1.0; n_sats = v.1.1.1.1.1.1.0; flags = v.1.1.1.1.1.1.1.0 };
  row_make = λ v. refl;
  make_row = λ r. refl;
}

-- it has no part that repeats
pub fixed : Fixed pos_llh 0x0201 34
fixed = fixed_run pos_llh refl
