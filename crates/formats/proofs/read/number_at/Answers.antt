-- `formats::read::number_at` meets its contract: a double's bits come back as they are.
use mathlib.Core.Path.{◌≡◌, sym, ap, ◌∙◌}
use mathlib.Core.List.{List}
use Prim.Native.Nat.{ℕ}
use lib.Dec.{lit≤}
use mir.Syntax.{w16, w32}
use Rattle.wire.specs.Number.{number_at}
use Rattle.wire.specs.Value.{Format, value_at}
use Rattle.wire.proofs.Numbers.{number_lt}
use Rattle.wire.proofs.Doubles.{bits_double_of}
use Rattle.formats.specs.Wide.{wide_of}
use Rattle.formats.specs.Digits.{format_by}
use Rattle.formats.proofs.Extended.{extended}
use Rattle.formats.proofs.Formats.{otherwise}
use Rattle.formats.proofs.read.number_at.Goals as goal

abbrev wide : List ℕ → ℕ → Format → ℕ
wide s at k = wide_of k (value_at k s at)

-- a number at a digit that is known
at_digit : (s : List ℕ) (at : ℕ) {d k r : ℕ} → r ≡ wide s at (format_by k) → d ≡ k → r ≡ wide s at (format_by d)
at_digit s at e p = e ∙ sym (ap (λ (d : ℕ). wide s at (format_by d)) p)

pub returns-in-1 : goal.returns-in-1
returns-in-1 c = let a = c.args in at_digit a.s.now a.at c.read.ensures c.in-1.is

pub returns-in-2 : goal.returns-in-2
returns-in-2 c = let a = c.args in at_digit a.s.now a.at c.read-in-2.ensures c.in-2.is

pub returns-in-4 : goal.returns-in-4
returns-in-4 c = let a = c.args in at_digit a.s.now a.at c.read-in-4.ensures c.in-4.is

pub returns-in-10 : goal.returns-in-10
returns-in-10 c =
    let a = c.args in
    at_digit a.s.now a.at (extended w16 (lit≤ tt) c.read-in-10.type_inv c.cast_unsigned.ensures c.read-in-10.ensures) c.in-10.is

pub returns-in-12 : goal.returns-in-12
returns-in-12 c =
    let a = c.args in
    at_digit a.s.now a.at (extended w32 (lit≤ tt) c.read-in-12.type_inv c.cast_unsigned-in-12.ensures c.read-in-12.ensures) c.in-12.is

pub returns-in_default : goal.returns-in_default
returns-in_default c =
    let a = c.args in
    let n = number_at 8 a.s.now a.at in
    c.read-in_default.ensures
    ∙ sym (bits_double_of n (number_lt 8 a.s.now a.at (λ i. (c.shared_slice_known-1.given i).fits)))
    ∙ sym (ap (wide a.s.now a.at) (otherwise a.digit c.in_default.in_default-own.rest.0.0.0.0.1 c.in_default.in_default-own.rest.0.0.0.1 c.in_default.in_default-own.rest.0.0.1 c.in_default.in_default-own.rest.0.1 c.in_default.in_default-own.rest.1))
