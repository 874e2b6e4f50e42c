-- GPS_TIME, 0x0100: the GPS time.
use Rattle.std.specs.Prelude.{refl, [], ◌∷◌}
use Rattle.std.specs.Int.{w32}
use Rattle.wire.specs.Value.{u8, u16, u32}
use Rattle.layouts.specs.Field.{any, ranged_signed}
use Rattle.layouts.specs.Layout.{run}
use Rattle.layouts.specs.Description.{Description, Fixed, fixed_run}
use Rattle.flags.specs.Range.{in_ns}
use Rattle.time_and_dops.specs.declared.gps_time.GpsTime.{GpsTime}

abbrev pub gps_time : Description GpsTime
gps_time = record {
  kind = 0x0100;
  layout = run (any u16 ∷ any u32 ∷ ranged_signed w32 in_ns ∷ any u8 ∷ []);
  row = λ r. (r.wn, (r.tow, (r.ns, (r.flags, tt))));
  make = λ v. record { wn = v.0; tow = v.1.0; ns = v.1.1.0; flags = v.1.1.1.0 };
  row_make = λ v. refl;
  make_row = λ r. refl;
}

-- it has no part that repeats
pub fixed : Fixed gps_time 0x0100 11
fixed = fixed_run gps_time refl
