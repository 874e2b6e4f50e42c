-- EPHEMERIS_GLO, 0x0083, 112 bytes: the carrier's relative deviation, the correction to the satellite's time (s), where it is and how it moves.
use Rattle.std.specs.Prelude.{refl, [], ◌∷◌}
use Rattle.wire.specs.Value.{double}
use Rattle.layouts.specs.Field.{any}
use Rattle.layouts.specs.Description.{Description, Fixed, fixed_run}
use Rattle.layouts.specs.Together.{loose, both, named, message}
use Rattle.parts.specs.Common.{common}
use Rattle.orbits.specs.Motion.{motion}
use Rattle.orbits.specs.declared.ephemeris_glo.EphemerisGlo.{EphemerisGlo}

abbrev pub ephemeris_glo : Description EphemerisGlo
ephemeris_glo =
    message 0x0083
    (named (both common (both (loose (any double ∷ any double ∷ [])) motion))
    (λ r. (r.common, ((r.gamma, (r.tau, tt)), r.motion)))
    (λ a. record { common = a.0; gamma = a.1.0.0; tau = a.1.0.1.0; motion = a.1.1 })
    (λ a. refl)
    (λ r. refl))

-- it has no part that repeats
pub fixed : Fixed ephemeris_glo 0x0083 112
fixed = fixed_run ephemeris_glo refl
