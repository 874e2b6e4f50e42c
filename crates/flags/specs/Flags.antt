-- What the flags of a position, a baseline and the heading mean (003, section 6.2, Status flags). The fix modes of the two positions differ;
-- those of the baselines and the heading are alike.
use Rattle.std.specs.Prelude.{ℕ, ◌%◌, Bool, cond, eqb}
use Rattle.wire.specs.Number.{flag_at}
use Rattle.flags.specs.declared.flags.Fix.{Fix}
use Rattle.flags.specs.declared.flags.Fix.TheVariants.{SinglePoint, Float, Fixed, Reserved}

-- the value of a fix mode from 0 on; what the table leaves out is reserved
unfoldable pub chosen : ℕ → Fix → Fix → Fix → Fix
chosen mode zeroth first second = cond (eqb mode 0) zeroth (cond (eqb mode 1) first (cond (eqb mode 2) second Reserved))

-- the fix mode is the low three bits; POS_ECEF: 1 is float and 2 is fixed
abbrev pub ecef_fix : ℕ → Fix
ecef_fix flags = chosen (flags % 8) SinglePoint Float Fixed

-- POS_LLH: 1 is fixed and 2 is float
abbrev pub llh_fix : ℕ → Fix
llh_fix flags = chosen (flags % 8) SinglePoint Fixed Float

-- both baselines and the heading: 0 is float and 1 is fixed
abbrev pub baseline_fix : ℕ → Fix
baseline_fix flags = chosen (flags % 8) Float Fixed Reserved

-- RAIM availability and repair: bits 3 and 4, in POS_LLH bits 4 and 5, where bit 3 is the height mode
abbrev pub raim_available : ℕ → Bool
raim_available flags = flag_at flags 3

abbrev pub raim_repaired : ℕ → Bool
raim_repaired flags = flag_at flags 4

abbrev pub llh_above_sea : ℕ → Bool
llh_above_sea flags = flag_at flags 3

abbrev pub llh_raim_available : ℕ → Bool
llh_raim_available flags = flag_at flags 4

abbrev pub llh_raim_repaired : ℕ → Bool
llh_raim_repaired flags = flag_at flags 5
