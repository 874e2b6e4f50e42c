-- `payloads::place::place_of` meets its contract.
use Rattle.std.proofs.Common.{sym, ap, ◌∙◌}
use Rattle.payloads.specs.Places.{placed_for}
use Rattle.payloads.proofs.TypesFound.{has_number, not_placed, placed}
use Rattle.payloads.proofs.place.place_of.Goals as goal

pub returns-in-Ok : goal.returns-in-Ok
returns-in-Ok c = placed c.in-Ok.message ∙ sym (ap placed_for (has_number c.args.kind c.message_type.ensures c.in-Ok.is))

pub returns-in-Err : goal.returns-in-Err
returns-in-Err c = not_placed c.args.kind c.message_type.ensures c.in-Err.is
