-- `wire::double::Double::of_bits` meets its contract, by cases on the pattern.
-- 0.0 / 0.0 is the NaN
use mathlib.Core.Path.{sym, ◌∙◌}
use lib.Ieee.{div, of_bits}
use Rattle.wire.proofs.Doubles.{of_nan, of_number, fails}
use Rattle.wire.proofs.double.Double.of_bits.Goals as goal

pub returns-then-is_nan_pattern : goal.returns-then-is_nan_pattern
unfolding div of_bits
returns-then-is_nan_pattern c = sym (of_nan c.args.n (sym c.is_nan_pattern.ensures ∙ c.if-is_nan_pattern.true))

pub float_from_bits-result : goal.float_from_bits-result
float_from_bits-result c = fails (sym c.is_nan_pattern.ensures ∙ c.if-is_nan_pattern.false)

pub returns : goal.returns
returns c = sym (of_number c.args.n (sym c.is_nan_pattern.ensures ∙ c.if-is_nan_pattern.false))
