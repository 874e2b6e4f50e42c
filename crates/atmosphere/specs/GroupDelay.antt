-- GROUP_DELAY, 0x0092, 14 bytes: a satellite's group delays, signed, in 2^-35 s, and which of them are valid.
use Rattle.std.specs.Prelude.{refl, [], ◌∷◌}
use Rattle.wire.specs.Value.{u8, s16}
use Rattle.layouts.specs.Field.{any}
use Rattle.layouts.specs.Description.{Description, Fixed, fixed_run}
use Rattle.layouts.specs.Together.{loose, both, named, message}
use Rattle.parts.specs.TimeOfWeek.{time_of_week}
use Rattle.atmosphere.specs.declared.group_delay.GroupDelay.{GroupDelay}

abbrev pub group_delay : Description GroupDelay
group_delay =
    message 0x0092
    (named (both time_of_week (loose (any u8 ∷ any u8 ∷ any s16 ∷ any s16 ∷ any s16 ∷ [])))
    (λ r. (r.t_op, (r.prn, (r.valid, (r.tgd, (r.isc_l1ca, (r.isc_l2c, tt)))))))
    (λ a. record { t_op = a.0; prn = a.1.0; valid = a.1.1.0; tgd = a.1.1.1.0; isc_l1ca = a.1.1.1.1.0; isc_l2c = a.1.1.1.1.1.0 })
    (λ a. refl)
    (λ r. refl))

-- it has no part that repeats
pub fixed : Fixed group_delay 0x0092 14
fixed = fixed_run group_delay refl
