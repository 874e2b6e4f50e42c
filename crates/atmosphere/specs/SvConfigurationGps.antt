-- SV_CONFIGURATION_GPS, 0x0091, 10 bytes: which satellites send L2C, satellite 1 in the lowest bit.
use Rattle.std.specs.Prelude.{refl, [], ◌∷◌}
use Rattle.wire.specs.Value.{u32}
use Rattle.layouts.specs.Field.{any}
use Rattle.layouts.specs.Description.{Description, Fixed, fixed_run}
use Rattle.layouts.specs.Together.{loose, both, named, message}
use Rattle.parts.specs.TimeOfWeek.{time_of_week}
use Rattle.atmosphere.specs.declared.sv_configuration_gps.SvConfigurationGps.{SvConfigurationGps}

abbrev pub sv_configuration_gps : Description SvConfigurationGps
sv_configuration_gps =
    message 0x0091
    (named (both time_of_week (loose (any u32 ∷ []))) (λ r. (r.t_nmct, (r.l2c_mask, tt))) (λ a. record { t_nmct = a.0; l2c_mask = a.1.0 }) (λ a. refl) (λ r. refl))

-- it has no part that repeats
pub fixed : Fixed sv_configuration_gps 0x0091 10
fixed = fixed_run sv_configuration_gps refl
