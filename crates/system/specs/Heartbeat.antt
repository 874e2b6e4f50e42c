-- HEARTBEAT, 0xFFFF: the device runs, with its status flags.
use Rattle.std.specs.Prelude.{refl, [], ◌∷◌}
use Rattle.wire.specs.Value.{u32}
use Rattle.layouts.specs.Field.{any}
use Rattle.layouts.specs.Layout.{run}
use Rattle.layouts.specs.Description.{Description, Fixed, fixed_run}
use Rattle.system.specs.declared.heartbeat.Heartbeat.{Heartbeat}

abbrev pub heartbeat : Description Heartbeat
heartbeat = record {
  kind = 0xffff;
  layout = run (any u32 ∷ []);
  row = λ r. (r.flags, tt);
  make = λ v. record { flags = v.0 };
  row_make = λ v. refl;
  make_row = λ r. refl;
}

-- it has no part that repeats
pub fixed : Fixed heartbeat 0xffff 4
fixed = fixed_run heartbeat refl
