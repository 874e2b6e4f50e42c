-- `payloads::check::tested` meets its contract, check by check.
use mathlib.Core.Path.{◌≡◌, sym, ap, ◌∙◌}
use mathlib.Core.Bool.{Bool, true}
use mathlib.Core.List.{List}
use Prim.Native.Nat.{ℕ}
use mir.Syntax.{w32}
use lib.Dec.{eqb}
use lib.ListN.{length}
use Rattle.refusals.specs.Refusals.{Answer, ordered}
use Rattle.wire.proofs.Signed.{came_back}
use Rattle.flags.specs.Range.{in_ns, fix_up_to}
use Rattle.payloads.specs.Checks.{log_long, ns_inside, mode_inside, tests, tests_by}
use Rattle.payloads.specs.declared.check.Check.{Check}
use Rattle.payloads.proofs.Lengths.{obs_length, log_length_lem}
use Rattle.payloads.proofs.check.tested.Goals as goal

-- by the check that was met
as_met : (s : List ℕ) {a : Answer (Unit {0})} {k x : Check} → a ≡ ordered (tests_by x s) tt → k ≡ x → a ≡ ordered (tests_by k s) tt
as_met s p q = p ∙ ap (λ (k : Check). ordered (tests_by k s) tt) (sym q)

inside_as : (fits : Bool) {a : Answer (Unit {0})} {t u : Bool} → a ≡ ordered (tests fits t) tt → t ≡ u → a ≡ ordered (tests fits u) tt
inside_as fits p q = p ∙ ap (λ (t : Bool). ordered (tests fits t) tt) q

fits_as : (inside : Bool) {a : Answer (Unit {0})} {t u : Bool} → a ≡ ordered (tests t inside) tt → t ≡ u → a ≡ ordered (tests u inside) tt
fits_as inside p q = p ∙ ap (λ (t : Bool). ordered (tests t inside) tt) q

pub returns-in-Length : goal.returns-in-Length
returns-in-Length c = as_met c.args.s.now c.tested_for.ensures c.in-Length.is

pub returns-in-Ns : goal.returns-in-Ns
unfolding in_ns
returns-in-Ns c =
    let s = c.args.s.now in
    as_met s (inside_as (eqb (length s) c.in-Ns.n) c.tested_for-in-Ns.ensures (c.ns_allowed.ensures ∙ ap ns_inside (came_back w32 c.read.type_inv c.read.ensures))) c.in-Ns.is

pub returns-in-Fix : goal.returns-in-Fix
unfolding fix_up_to
returns-in-Fix c =
    let s = c.args.s.now in
    as_met s (inside_as (eqb (length s) c.in-Fix.n) c.tested_for-in-Fix.ensures (c.fix_allowed.ensures ∙ ap (mode_inside _) c.read-in-Fix.ensures)) c.in-Fix.is

pub returns-in-Obs : goal.returns-in-Obs
returns-in-Obs c =
    let s = c.args.s.now in
    as_met s (fits_as true c.tested_for-in-Obs.ensures (c.is_obs_length.ensures ∙ obs_length (length s))) c.in-Obs.is

pub returns-in-Log : goal.returns-in-Log
returns-in-Log c =
    let s = c.args.s.now in
    let long = fits_as c.log_padded.result c.tested_for-in-Log.ensures (c.is_log_length.ensures ∙ log_length_lem (length s)) in
    as_met s (inside_as (log_long (length s)) long c.log_padded.ensures) c.in-Log.is
