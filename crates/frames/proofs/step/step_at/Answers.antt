-- `frames::step::step_at` meets its contract: each return is one of the five lines.
use Rattle.std.proofs.Common.{ℕ, ◌+◌, sym, ◌∙◌, ap₂, arith}
use Rattle.frames.specs.declared.step.Step.TheVariants.{Found}
use Rattle.frames.specs.Decides.{found, bad, cut, headless, junk, finished, size}
use Rattle.frames.proofs.Steps.{only, summed}
use Rattle.frames.proofs.step.step_at.Goals as goal

pub returns-then-s-at : goal.returns-then-s-at
returns-then-s-at c =
    let a = c.args in
    only a.s.now a.at (finished c.if-s-at.true)

pub returns-then-s-at-ne85 : goal.returns-then-s-at-ne85
returns-then-s-at-ne85 c =
    let a = c.args in
    only a.s.now a.at (junk c.if-s-at.false c.if-s-at-ne85.true)

pub returns-then-left-lt6 : goal.returns-then-left-lt6
returns-then-left-lt6 c =
    let a = c.args in
    only a.s.now a.at (headless c.if-s-at.false c.if-s-at-ne85.false c.if-left-lt6.true)

pub overflow_cast-n : goal.overflow_cast-n
overflow_cast-n c = omega (arith, c.shared_slice_known-3-1.given (c.args.at + 5))

pub overflow_add-n : goal.overflow_add-n
overflow_add-n c = omega (arith, c.shared_slice_known-3-1.given (c.args.at + 5))

pub returns-then-left-n : goal.returns-then-left-n
returns-then-left-n c =
    let a = c.args in
    only a.s.now a.at (cut c.if-s-at-ne85.false c.if-left-lt6.false (omega arith))

pub returns-then-crc-read : goal.returns-then-crc-read
returns-then-crc-read c =
    let a = c.args in
    let same = summed a.s.now a.at c.crc.ensures in
    only a.s.now a.at (bad c.if-s-at-ne85.false (omega (arith, c.if-left-n.false)) (λ e. c.if-crc-read.true (same ∙ e ∙ sym c.read.ensures)))

pub returns : goal.returns
returns c =
    let a = c.args in
    let same = summed a.s.now a.at c.crc.ensures in
    ap₂ (λ (k n : ℕ). Found (record { at = a.at; kind = k; sender = n; length = size a.s.now a.at })) c.read-2.ensures c.read-3.ensures
    ∙ only a.s.now a.at (found c.if-s-at-ne85.false c.if-left-n.false (sym same ∙ c.if-crc-read.false ∙ c.read.ensures))
