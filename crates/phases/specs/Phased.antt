-- What a call hands back, and what it leaves in the two numbers that it is lent for the parts of a phase: 33, or the one pair.
use Rattle.std.specs.Prelude.{ℕ, ℤ}
use Rattle.refusals.specs.Refusals.{leaves, zero_or}
use Rattle.phases.specs.Phase.{read_phase}

abbrev pub parts_number : ℤ → ℕ
parts_number phase = zero_or (read_phase phase)

-- the whole cycles, or what stood there
abbrev pub cycles_after : ℤ → ℤ → ℤ
cycles_after phase before = leaves (λ p was. p.l_i) (read_phase phase) before

-- the 256ths, or what stood there
abbrev pub parts_after : ℤ → ℕ → ℕ
parts_after phase before = leaves (λ p was. p.l_f) (read_phase phase) before
