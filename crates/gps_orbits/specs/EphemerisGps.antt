-- EPHEMERIS_GPS, 0x0081, 185 bytes: the orbit by its elements, and the clock.
use Rattle.std.specs.Prelude.{refl, [], ◌∷◌}
use Rattle.wire.specs.Value.{u8, u16, double}
use Rattle.layouts.specs.Field.{any}
use Rattle.layouts.specs.Description.{Description, Fixed, Part, fixed_run}
use Rattle.layouts.specs.Together.{loose, both, named, message}
use Rattle.parts.specs.TimeOfWeek.{time_of_week}
use Rattle.parts.specs.Common.{common}
use Rattle.gps_orbits.specs.declared.elements.Harmonics.{Harmonics}
use Rattle.gps_orbits.specs.declared.elements.Ellipse.{Ellipse}
use Rattle.gps_orbits.specs.declared.elements.Plane.{Plane}
use Rattle.gps_orbits.specs.declared.clock.Clock.{Clock}
use Rattle.gps_orbits.specs.declared.ephemeris_gps.EphemerisGps.{EphemerisGps}

-- amplitudes of the sine and cosine corrections to the radius (m), the argument of latitude and the inclination (rad)
abbrev pub harmonics : Part Harmonics
harmonics = record {
  fields = any double ∷ any double ∷ any double ∷ any double ∷ any double ∷ any double ∷ [];
  row = λ r. (r.c_rs, (r.c_rc, (r.c_uc, (r.c_us, (r.c_ic, (r.c_is, tt))))));
  make = λ v. record { c_rs = v.0; c_rc = v.1.0; c_uc = v.1.1.0; c_us = v.1.1.1.0; c_ic = v.1.1.1.1.0; c_is = v.1.1.1.1.1.0 };
  row_make = λ v. refl;
  make_row = λ r. refl;
}

-- mean motion difference (rad/s), mean anomaly (rad), eccentricity, square root of the semi-major axis (m^(1/2))
abbrev pub ellipse : Part Ellipse
ellipse = record {
  fields = any double ∷ any double ∷ any double ∷ any double ∷ [];
  row = λ r. (r.dn, (r.m0, (r.ecc, (r.sqrta, tt))));
  make = λ v. record { dn = v.0; m0 = v.1.0; ecc = v.1.1.0; sqrta = v.1.1.1.0 };
  row_make = λ v. refl;
  make_row = λ r. refl;
}

-- longitude of the ascending node and its rate, argument of perigee, inclination and its rate (rad, rad/s)
abbrev pub plane : Part Plane
plane = record {
  fields = any double ∷ any double ∷ any double ∷ any double ∷ any double ∷ [];
  row = λ r. (r.omega0, (r.omegadot, (r.w, (r.inc, (r.inc_dot, tt)))));
  make = λ v. record { omega0 = v.0; omegadot = v.1.0; w = v.1.1.0; inc = v.1.1.1.0; inc_dot = v.1.1.1.1.0 };
  row_make = λ v. refl;
  make_row = λ r. refl;
}

-- the clock's bias, drift and rate of drift (s, s/s, s/s^2) at its time
abbrev pub clock : Part Clock
clock =
    named (both (loose (any double ∷ any double ∷ any double ∷ [])) time_of_week)
    (λ r. ((r.af0, (r.af1, (r.af2, tt))), r.toc))
    (λ a. record { af0 = a.0.0; af1 = a.0.1.0; af2 = a.0.1.1.0; toc = a.1 })
    (λ a. refl)
    (λ r. refl)

-- tgd (s) stands alone before the harmonics; the issues of the orbit's and of the clock's data are last
abbrev pub ephemeris_gps : Description EphemerisGps
ephemeris_gps =
    message 0x0081
    (named (both common (both (loose (any double ∷ [])) (both harmonics (both ellipse (both plane (both clock (loose (any u8 ∷ any u16 ∷ []))))))))
    (λ r. (r.common, ((r.tgd, tt), (r.harmonics, (r.ellipse, (r.plane, (r.clock, (r.iode, (r.iodc, tt)))))))))
    (λ a. record { common = a.0; tgd = a.1.0.0; harmonics = a.1.1.0; ellipse = a.1.1.1.0; plane = a.1.1.1.1.0; clock = a.1.1.1.1.1.0; iode = a.1.1.1.1.1.1.0; iodc = a.1.1.1.1.1.1.1.0 })
    (λ a. refl)
    (λ r. refl))

-- it has no part that repeats
pub fixed : Fixed ephemeris_gps 0x0081 185
fixed = fixed_run ephemeris_gps refl
