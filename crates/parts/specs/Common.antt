-- What every ephemeris begins with, 24 bytes: the satellite, the time of ephemeris, accuracy in m, fit interval in s, valid, health. No field has a
-- range.
use Rattle.std.specs.Prelude.{refl, [], ◌∷◌}
use Rattle.wire.specs.Value.{u8, u16, u32, double}
use Rattle.layouts.specs.Field.{any}
use Rattle.layouts.specs.Description.{Part}
use Rattle.layouts.specs.Together.{loose, both, named}
use Rattle.parts.specs.declared.satellite.Satellite.{Satellite}
use Rattle.parts.specs.TimeOfWeek.{time_of_week}
use Rattle.parts.specs.declared.common.EphemerisCommon.{EphemerisCommon}

-- constellation-specific number; constellation, band and code of the signal; reserved
abbrev pub satellite : Part Satellite
satellite = record {
  fields = any u16 ∷ any u8 ∷ any u8 ∷ [];
  row = λ r. (r.sat, (r.code, (r.reserved, tt)));
  make = λ v. record { sat = v.0; code = v.1.0; reserved = v.1.1.0 };
  row_make = λ v. refl;
  make_row = λ r. refl;
}

abbrev pub common : Part EphemerisCommon
common =
    named (both satellite (both time_of_week (loose (any double ∷ any u32 ∷ any u8 ∷ any u8 ∷ []))))
    (λ r. (r.sid, (r.toe, (r.ura, (r.fit_interval, (r.valid, (r.health, tt)))))))
    (λ a. record { sid = a.0; toe = a.1.0; ura = a.1.1.0; fit_interval = a.1.1.1.0; valid = a.1.1.1.1.0; health = a.1.1.1.1.1.0 })
    (λ a. refl)
    (λ r. refl)
