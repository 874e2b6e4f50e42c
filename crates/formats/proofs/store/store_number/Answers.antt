-- `formats::store::store_number` meets its contract.
use mathlib.Core.Path.{refl, sym, ap, ◌∙◌}
use mathlib.Core.Logic.{inl, inr}
use mathlib.Core.List.{List}
use Prim.Native.Nat.{ℕ}
use Rattle.wire.specs.Number.{stored_at}
use Rattle.wire.specs.Value.{width}
use Rattle.formats.specs.Digits.{format_by}
use Rattle.formats.proofs.Formats.{either, otherwise}
use Rattle.formats.proofs.Cut.{cut}
use Rattle.formats.proofs.store.store_number.Goals as goal

abbrev by : ℕ → List ℕ → ℕ → ℕ → List ℕ
by n buf at d = stored_at (width (format_by d)) n buf at

pub returns-in-1 : goal.returns-in-1
returns-in-1 c =
    let a = c.args in
    c.store.ensures
    ∙ cut 1 a.n a.buf.now a.at
    ∙ sym (ap (by a.n a.buf.now a.at) c.in-1.is)

pub returns-in-2 : goal.returns-in-2
returns-in-2 c =
    let a = c.args in
    c.store-in-2.ensures
    ∙ cut 2 a.n a.buf.now a.at
    ∙ sym (either (by a.n a.buf.now a.at) 2 10 refl refl c.in-2.is)

pub returns-in-4 : goal.returns-in-4
returns-in-4 c =
    let a = c.args in
    c.store-in-4.ensures
    ∙ cut 4 a.n a.buf.now a.at
    ∙ sym (either (by a.n a.buf.now a.at) 4 12 refl refl c.in-4.is)

pub returns-in_default : goal.returns-in_default
returns-in_default c =
    let a = c.args in
    let double = otherwise a.digit c.in_default.in_default-own.rest.0.0.1 (λ e. c.in_default.in_default-own.rest.0.1 (inl e)) (λ e. c.in_default.in_default-own.rest.1 (inl e)) (λ e. c.in_default.in_default-own.rest.0.1 (inr e)) (λ e. c.in_default.in_default-own.rest.1 (inr e)) in
    c.store-in_default.ensures ∙ sym (ap (λ k. stored_at (width k) a.n a.buf.now a.at) double)
