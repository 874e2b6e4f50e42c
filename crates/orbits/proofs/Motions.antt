-- A motion at an offset is three vectors, one after the other.
use Prim.Native.Nat.{ℕ, ◌+◌}
use mathlib.Core.Path.{◌≡◌, ap, ◌∙◌}
use mathlib.Core.List.{List}
use Rattle.layouts.specs.Together.{taken_at, put_at, both}
use Rattle.layouts.proofs.Together.{taken_both, put_both}
use Rattle.orbits.specs.Motion.{vector, motion}
use Rattle.orbits.specs.declared.motion.Motion.{Motion}

module _ (s : List ℕ) (at : ℕ) where
  pub taken_motion : taken_at motion s at ≡ record { pos = taken_at vector s at; vel = taken_at vector s (at + 24); acc = taken_at vector s (at + 24 + 24) }
  taken_motion =
      let whole = taken_both vector (both vector vector) s at in
      let rest = taken_both vector vector s (at + 24) in
      ap (λ v. record { pos = v.0; vel = v.1.0; acc = v.1.1 }) whole ∙ ap (λ v. record { pos = taken_at vector s at; vel = v.0; acc = v.1 }) rest

  pub put_motion : (r : Motion) → put_at motion r s at ≡ put_at vector r.acc (put_at vector r.vel (put_at vector r.pos s at) (at + 24)) (at + 24 + 24)
  put_motion r = put_both vector (both vector vector) (r.pos, (r.vel, r.acc)) s at ∙ put_both vector vector (r.vel, r.acc) (put_at vector r.pos s at) (at + 24)
