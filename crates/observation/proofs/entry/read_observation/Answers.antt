-- `observation::entry::read_observation` meets its contract: the observation is decoded of its own bytes.
use mathlib.Core.Path.{◌≡◌, sym, ap, ◌∙◌}
use mathlib.Core.Bool.{true}
use Prim.Native.Nat.{ℕ, ◌+◌, ◌-◌}
use native.Mathlib.Omega.{arith}
use lib.ListN.{length, take, drop}
use Rattle.std.proofs.Common.{rules}
use Rattle.layouts.specs.Field.{decode}
use Rattle.refusals.specs.Refusals.{given}
use Rattle.layouts.proofs.Fields.{decode_drop, decode_take}
use Rattle.observation.specs.Edition.{start_of, fitting, observation, first}
use Rattle.observation.proofs.ObsReading.{entry_given}
use Rattle.observation.proofs.entry.read_observation.Goals as goal

pub returns-then-i-s : goal.returns-then-i-s
returns-then-i-s c =
    let a = c.args in
    let start = start_of first a.i in
    let size : start + 16 - start ≡ 16 = omega arith in
    let fits : fitting first (length a.s.now) ≡ true = search rules in
    let there = ap (λ (n : ℕ). decode observation.fields (take n (drop start a.s.now)) 0) size
    ∙ decode_take observation.fields (drop start a.s.now)
    ∙ sym (decode_drop observation.fields a.s.now start) in
    ap given (c.take.ensures ∙ ap observation.make there) ∙ sym (entry_given first a.s.now a.i fits c.if-i-s.true)
