-- The carrier phase in 1/256 cycle: 256 × L.i + L.f, signed.
use Rattle.std.specs.Prelude.{◌-◌, ◌/◌, ◌%◌, Bool, ◌&&◌, [], ◌∷◌, ℤ, pos, negsuc, neg_ℤ, ◌+ℤ◌, ◌*ℤ◌}
use Rattle.std.specs.Int.Signed.{le_z}
use Rattle.refusals.specs.Refusals.{Answer, Call, reply}
use Rattle.phases.specs.declared.phase.Phase.{Phase}

abbrev pub phase_of : Phase → ℤ
phase_of p = pos 256 *ℤ p.l_i +ℤ pos p.l_f

-- from -549755813888 to 549755813887
abbrev pub in_phase : ℤ → Bool
in_phase z = le_z (neg_ℤ (pos 549755813888)) z && le_z z (pos 549755813887)

-- the one pair: L.i rounds down, so that L.f is never negative
abbrev pub parts_of : ℤ → Phase
parts_of (pos n) = record { l_i = pos (n / 256); l_f = n % 256 }
parts_of (negsuc n) = record { l_i = negsuc (n / 256); l_f = 255 - n % 256 }

-- 33 outside the range
abbrev pub reading_phase : ℤ → Call Phase
reading_phase z = record { tests = (in_phase z, 33) ∷ []; value = parts_of z }

unfoldable pub read_phase : ℤ → Answer Phase
read_phase z = reply (reading_phase z)
