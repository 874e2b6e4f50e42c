-- `index::extending::fill` meets its contract: an entry for each frame, until reading stops.
use Rattle.std.proofs.Common.{◌<◌, length, set, sym, ◌∙◌, subst, arith}
use Rattle.index.specs.Index.{frames_from}
use Rattle.index.specs.declared.entry.Entry.{Entry}
use Rattle.index.specs.declared.index.Index.{Index}
use Rattle.index.proofs.Filled.{Filling, onward, begins, placed, fewer, goes_on, stops_at}
use Rattle.index.proofs.extending.fill.Goals as goal

pub loop-f-init : goal.loop-f-init
loop-f-init c = let a = c.args in begins a.capture.now (omega arith) a.index.now a.entries.now c.requires.inside c.requires.room

pub bounds-entries-index : goal.bounds-entries-index
bounds-entries-index c =
    let a = c.args in
    placed a.capture.now (omega arith) a.index.now a.entries.now c.loop-f.index c.loop-f.entries c.loop-f.invariant (sym c.after.ensures ∙ c.in-Frame.is)

pub loop-f-smaller : goal.loop-f-smaller
loop-f-smaller c =
    let a = c.args in
    let s = a.capture.now in
    let e = sym c.after.ensures ∙ c.in-Frame.is in
    subst (λ (y : Index). length (frames_from s y.reached) < length (frames_from s c.loop-f.index.reached)) (sym c.tally.ensures)
    (fewer s (omega arith) a.index.now a.entries.now c.loop-f.index c.loop-f.entries c.loop-f.invariant e)

pub loop-f-preserved : goal.loop-f-preserved
loop-f-preserved c =
    let a = c.args in
    let y = c.loop-f.index in
    let now = c.loop-f.entries in
    let e = sym c.after.ensures ∙ c.in-Frame.is in
    subst (λ (z : Index). Filling a.capture.now a.index.now a.entries.now z (set now y.held c.of.result)) (sym c.tally.ensures)
    (subst (λ (d : Entry). Filling a.capture.now a.index.now a.entries.now (onward y c.in-Frame.f c.in-Frame.c.at) (set now y.held d)) (sym c.of.ensures)
    (goes_on a.capture.now (omega arith) a.index.now a.entries.now y now c.loop-f.invariant e))

pub returns-in-End : goal.returns-in-End
returns-in-End c =
    let a = c.args in
    let both = stops_at a.capture.now (omega arith) a.index.now a.entries.now c.loop-f.index c.loop-f.entries c.loop-f.invariant (sym c.after.ensures) c.in-End.is in
    record { index_after = both.0; entries_after = both.1 }
