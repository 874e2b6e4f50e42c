-- `wire::double::is_nan_pattern` meets its contract: the logic's own law of NaN patterns.
use mathlib.Core.Path.{sym}
use lib.Ieee.{binary64}
use lib.Ieee.Bits.{nan_bits_above}
use Rattle.wire.proofs.double.is_nan_pattern.Goals as goal

pub returns : goal.returns
returns c = sym (nan_bits_above binary64 c.args.n)
