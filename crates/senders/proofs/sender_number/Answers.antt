-- `senders::sender_number` meets its contract, by the sender that is given and the type.
use mathlib.Core.Path.{◌≡◌, ap}
use mathlib.Core.Bool.{Bool, true, false, cond}
use borrow.Author.Tests.{ne_eqb}
use Rattle.senders.specs.Senders.{obeyed_from42, carried}
use Rattle.senders.proofs.Carrying.{as_given, unnamed}
use Rattle.senders.proofs.sender_number.Goals as goal
use Rattle.senders.proofs.sender_number.Goals.{In-None}

-- none is given: the type decides
by_type : (at : In-None) (t : Bool) → let a = at.args in
    obeyed_from42 a.kind ≡ t → cond t 0x42 a.writer.own ≡ carried a.kind a.writer
by_type at t e = let a = at.args in unnamed a.kind a.writer t at.in-None.is e

pub returns-in-Some : goal.returns-in-Some
returns-in-Some c = let a = c.args in as_given a.kind a.writer c.in-Some.is

pub returns-in-161 : goal.returns-in-161
returns-in-161 c = by_type (goal.at.returns-in-161 c).In-None true (ap obeyed_from42 c.in-161.is)

pub returns-in-162 : goal.returns-in-162
returns-in-162 c = by_type (goal.at.returns-in-162 c).In-None true (ap obeyed_from42 c.in-162.is)

pub returns-in_default : goal.returns-in_default
returns-in_default c = by_type (goal.at.returns-in_default c).In-None false (rw (ne_eqb _ _ c.in_default.in_default-own.rest.0.1, ne_eqb _ _ c.in_default.in_default-own.rest.1))
