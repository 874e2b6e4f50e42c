-- A time, as messages carry it: ms of the GPS week, and the week.
use Rattle.std.specs.Prelude.{refl, [], ◌∷◌}
use Rattle.wire.specs.Value.{u16, u32}
use Rattle.layouts.specs.Field.{any}
use Rattle.layouts.specs.Description.{Part}
use Rattle.parts.specs.declared.time_of_week.TimeOfWeek.{TimeOfWeek}

abbrev pub time_of_week : Part TimeOfWeek
time_of_week = record {
  fields = any u32 ∷ any u16 ∷ [];
  row = λ r. (r.tow, (r.wn, tt));
  make = λ v. record { tow = v.0; wn = v.1.0 };
  row_make = λ v. refl;
  make_row = λ r. refl;
}
