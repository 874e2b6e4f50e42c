-- `wire::double::Double::bits` meets its contract, by cases on the value and on the pattern beside it.
use mathlib.Core.Path.{sym, ◌∙◌}
use Rattle.wire.proofs.Doubles.{equals_itself, differs_from_self, fails, bits_of_number, bits_of_nan, bits_of_other_nan}
use Rattle.wire.proofs.double.Double.bits.Goals as goal

pub float_to_bits-result : goal.float_to_bits-result
float_to_bits-result c = fails (equals_itself c.args.self.value c.if-value.true)

pub returns-then-value : goal.returns-then-value
returns-then-value c = sym (bits_of_number c.args.self (equals_itself c.args.self.value c.if-value.true))

pub returns-then-is_nan_pattern : goal.returns-then-is_nan_pattern
returns-then-is_nan_pattern c =
    let d = c.args.self in
    sym (bits_of_nan d (differs_from_self d.value c.if-value.false) (sym c.is_nan_pattern.ensures ∙ c.if-is_nan_pattern.true))

pub returns : goal.returns
returns c =
    let d = c.args.self in
    sym (bits_of_other_nan d (differs_from_self d.value c.if-value.false) (sym c.is_nan_pattern.ensures ∙ c.if-is_nan_pattern.false))
