-- What the functions that read one flag of a message answer: 21 for a type that has no such flag, then the flag by that message's own table.
use Rattle.std.specs.Prelude.{ℕ, Bool, true, false, cond, ◌||◌, [], ◌∷◌, eqb, Option, None, Some}
use Rattle.refusals.specs.Refusals.{Answer, as_number, Call, reply}
use Rattle.flags.specs.Flags.{ecef_fix, llh_fix, baseline_fix, raim_available, raim_repaired, llh_above_sea, llh_raim_available, llh_raim_repaired}
use Rattle.baselines.specs.Ecef.{baseline_ecef}
use Rattle.baselines.specs.Heading.{baseline_heading}
use Rattle.baselines.specs.Ned.{baseline_ned}
use Rattle.positions.specs.PosEcef.{pos_ecef}
use Rattle.positions.specs.PosLlh.{pos_llh}
use Rattle.flags.specs.declared.flags.Fix.{Fix}
use Rattle.flags.specs.declared.flags.Fix.TheVariants.{SinglePoint, Float, Fixed, Reserved}
use Rattle.flag_numbers.specs.declared.flagging.Table.{Table}
use Rattle.flag_numbers.specs.declared.flagging.Table.TheVariants.{Ecef, Llh, Baseline}

-- ---- whose flags a type has

abbrev pub is_baseline : ℕ → Bool
is_baseline kind = eqb kind baseline_ecef.kind || (eqb kind baseline_ned.kind || eqb kind baseline_heading.kind)

unfoldable pub table_for : ℕ → Option Table
table_for kind = cond (eqb kind pos_ecef.kind) (Some Ecef) (cond (eqb kind pos_llh.kind) (Some Llh) (cond (is_baseline kind) (Some Baseline) None))

abbrev pub is_table : Option Table → Bool
is_table (Some t) = true
is_table None = false

-- ---- the flags of a table; of no table they are never given

abbrev pub fix_by : Option Table → ℕ → Fix
fix_by (Some Ecef) = ecef_fix
fix_by (Some Llh) = llh_fix
fix_by (Some Baseline) = baseline_fix
fix_by None = λ flags. Reserved

-- a flag of RAIM has a place of its own in POS_LLH, and one in all others
abbrev pub raim_by : Option Table → Bool → Bool → Bool
raim_by (Some Ecef) llh other = other
raim_by (Some Llh) llh other = llh
raim_by (Some Baseline) llh other = other
raim_by None llh other = other

-- ---- as numbers

-- 3 is a mode that the table leaves out
abbrev pub fix_number : Fix → ℕ
fix_number SinglePoint = 0
fix_number Float = 1
fix_number Fixed = 2
fix_number Reserved = 3

abbrev pub bit_number : Bool → ℕ
bit_number false = 0
bit_number true = 1

-- ---- the answers

-- 21
abbrev pub flagging : {A : Type 0} → Bool → A → Call A
flagging has x = record { tests = (has, 21) ∷ []; value = x }

-- of a table
abbrev pub fix_in : Option Table → ℕ → Answer Fix
fix_in t flags = reply (flagging (is_table t) (fix_by t flags))

abbrev pub raim_in : Option Table → Bool → Bool → Answer Bool
raim_in t llh other = reply (flagging (is_table t) (raim_by t llh other))

-- of a type
abbrev pub fix_asked : ℕ → ℕ → Answer Fix
fix_asked kind flags = fix_in (table_for kind) flags

abbrev pub available_asked : ℕ → ℕ → Answer Bool
available_asked kind flags = raim_in (table_for kind) (llh_raim_available flags) (raim_available flags)

abbrev pub repaired_asked : ℕ → ℕ → Answer Bool
repaired_asked kind flags = raim_in (table_for kind) (llh_raim_repaired flags) (raim_repaired flags)

-- only a POS_LLH says what its height is above
abbrev pub above_sea_asked : ℕ → ℕ → Answer Bool
above_sea_asked kind flags = reply (flagging (eqb kind pos_llh.kind) (llh_above_sea flags))

-- the same as numbers
abbrev pub fix_answer : ℕ → ℕ → ℕ
fix_answer kind flags = as_number fix_number (fix_asked kind flags)

abbrev pub available_answer : ℕ → ℕ → ℕ
available_answer kind flags = as_number bit_number (available_asked kind flags)

abbrev pub repaired_answer : ℕ → ℕ → ℕ
repaired_answer kind flags = as_number bit_number (repaired_asked kind flags)

abbrev pub above_sea_answer : ℕ → ℕ → ℕ
above_sea_answer kind flags = as_number bit_number (above_sea_asked kind flags)
