-- Position in m, velocity in m/s and acceleration in m/s^2 of a satellite, 72 bytes.
use Rattle.std.specs.Prelude.{refl, [], ◌∷◌}
use Rattle.wire.specs.Value.{double}
use Rattle.layouts.specs.Field.{any}
use Rattle.layouts.specs.Description.{Part}
use Rattle.layouts.specs.Together.{both, named}
use Rattle.orbits.specs.declared.motion.Vector.{Vector}
use Rattle.orbits.specs.declared.motion.Motion.{Motion}

-- 003's double[3]
abbrev pub vector : Part Vector
vector = record {
  fields = any double ∷ any double ∷ any double ∷ [];
  row = λ r. (r.x, (r.y, (r.z, tt)));
  make = λ v. record { x = v.0; y = v.1.0; z = v.1.1.0 };
  row_make = λ v. refl;
  make_row = λ r. refl;
}

abbrev pub motion : Part Motion
motion = named (both vector (both vector vector)) (λ r. (r.pos, (r.vel, r.acc))) (λ a. record { pos = a.0; vel = a.1.0; acc = a.1.1 }) (λ a. refl) (λ r. refl)
