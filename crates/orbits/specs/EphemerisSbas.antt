-- EPHEMERIS_SBAS, 0x0082, 112 bytes: where the satellite is and how it moves, and its clock's offset (s) and drift (s/s).
use Rattle.std.specs.Prelude.{refl, [], ◌∷◌}
use Rattle.wire.specs.Value.{double}
use Rattle.layouts.specs.Field.{any}
use Rattle.layouts.specs.Description.{Description, Fixed, fixed_run}
use Rattle.layouts.specs.Together.{loose, both, named, message}
use Rattle.parts.specs.Common.{common}
use Rattle.orbits.specs.Motion.{motion}
use Rattle.orbits.specs.declared.ephemeris_sbas.EphemerisSbas.{EphemerisSbas}

abbrev pub ephemeris_sbas : Description EphemerisSbas
ephemeris_sbas =
    message 0x0082
    (named (both common (both motion (loose (any double ∷ any double ∷ []))))
    (λ r. (r.common, (r.motion, (r.a_gf0, (r.a_gf1, tt)))))
    (λ a. record { common = a.0; motion = a.1.0; a_gf0 = a.1.1.0; a_gf1 = a.1.1.1.0 })
    (λ a. refl)
    (λ r. refl))

-- it has no part that repeats
pub fixed : Fixed ephemeris_sbas 0x0082 112
fixed = fixed_run ephemeris_sbas refl
