-- STARTUP, 0xFF00: the device has started.
use Rattle.std.specs.Prelude.{refl, [], ◌∷◌}
use Rattle.wire.specs.Value.{u32}
use Rattle.layouts.specs.Field.{any}
use Rattle.layouts.specs.Layout.{run}
use Rattle.layouts.specs.Description.{Description, Fixed, fixed_run}
use Rattle.system.specs.declared.startup.Startup.{Startup}

abbrev pub startup : Description Startup
startup = record {
  kind = 0xff00;
  layout = run (any u32 ∷ []);
  row = λ r. (r.reserved, tt);
  make = λ v. record { reserved = v.0 };
  row_make = λ v. refl;
  make_row = λ r. refl;
}

-- it has no part that repeats
pub fixed : Fixed startup 0xff00 4
fixed = fixed_run startup refl
