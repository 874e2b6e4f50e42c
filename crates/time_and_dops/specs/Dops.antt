-- DOPS, 0x0206: dilutions of precision, in 1/100.
use Rattle.std.specs.Prelude.{refl, [], ◌∷◌}
use Rattle.wire.specs.Value.{u16, u32}
use Rattle.layouts.specs.Field.{any}
use Rattle.layouts.specs.Layout.{run}
use Rattle.layouts.specs.Description.{Description, Fixed, fixed_run}
use Rattle.time_and_dops.specs.declared.dops.Dops.{Dops}

abbrev pub dops : Description Dops
dops = record {
  kind = 0x0206;
  layout = run (any u32 ∷ any u16 ∷ any u16 ∷ any u16 ∷ any u16 ∷ any u16 ∷ []);
  row = λ r. (r.tow, (r.gdop, (r.pdop, (r.tdop, (r.hdop, (r.vdop, tt))))));
  make = λ v. record { tow = v.0; gdop = v.1.0; pdop = v.1.1.0; tdop = v.1.1.1.0; hdop = v.1.1.1.1.0; vdop = v.1.1.1.1.1.0 };
  row_make = λ v. refl;
  make_row = λ r. refl;
}

-- it has no part that repeats
pub fixed : Fixed dops 0x0206 14
fixed = fixed_run dops refl
