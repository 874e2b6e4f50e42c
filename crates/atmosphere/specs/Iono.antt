-- IONO, 0x0090, 70 bytes: two polynomials of the ionospheric model, alpha and beta.
use Rattle.std.specs.Prelude.{refl, [], ◌∷◌}
use Rattle.wire.specs.Value.{double}
use Rattle.layouts.specs.Field.{any}
use Rattle.layouts.specs.Description.{Description, Fixed, Part, fixed_run}
use Rattle.layouts.specs.Together.{both, named, message}
use Rattle.parts.specs.TimeOfWeek.{time_of_week}
use Rattle.atmosphere.specs.declared.iono.Cubic.{Cubic}
use Rattle.atmosphere.specs.declared.iono.Iono.{Iono}

-- 003's a0 to a3, and b0 to b3: in s, and by powers of a semi-circle
abbrev pub cubic : Part Cubic
cubic = record {
  fields = any double ∷ any double ∷ any double ∷ any double ∷ [];
  row = λ r. (r.c0, (r.c1, (r.c2, (r.c3, tt))));
  make = λ v. record { c0 = v.0; c1 = v.1.0; c2 = v.1.1.0; c3 = v.1.1.1.0 };
  row_make = λ v. refl;
  make_row = λ r. refl;
}

abbrev pub iono : Description Iono
iono =
    message 0x0090
    (named (both time_of_week (both cubic cubic)) (λ r. (r.t_nmct, (r.a, r.b))) (λ v. record { t_nmct = v.0; a = v.1.0; b = v.1.1 }) (λ a. refl) (λ r. refl))

-- it has no part that repeats
pub fixed : Fixed iono 0x0090 70
fixed = fixed_run iono refl
