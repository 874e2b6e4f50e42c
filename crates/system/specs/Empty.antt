-- SETTINGS_SAVE, 0x00A1, and READ_BY_INDEX_DONE, 0x00A6: no payload.
use Rattle.std.specs.Prelude.{ℕ, refl, []}
use Rattle.layouts.specs.Layout.{run}
use Rattle.layouts.specs.Description.{Description, Fixed, fixed_run}

-- there is one record with no fields
abbrev pub empty : ℕ → Description (Unit {0})
empty kind = record { kind = kind; layout = run []; row = λ r. tt; make = λ v. tt; row_make = λ v. refl; make_row = λ r. refl }

abbrev pub settings_save : Description (Unit {0})
settings_save = empty 0x00a1

abbrev pub read_by_index_done : Description (Unit {0})
read_by_index_done = empty 0x00a6

-- it has no part that repeats
pub fixed : (kind : ℕ) → Fixed (empty kind) kind 0
fixed kind = fixed_run (empty kind) refl
