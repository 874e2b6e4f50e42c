-- `payloads::shape::shape_of` meets its contract: by the message of the number, and without one by no entry.
use mathlib.Core.Path.{sym, ap, ◌∙◌}
use Rattle.formats.specs.Digits.{shape_of}
use Rattle.payloads.specs.Payloads.{Entry, shape_for}
use Rattle.payloads.proofs.TypesFound.{has_number, has_no_entry}
use Rattle.payloads.proofs.shape.shape_of.Goals as goal

pub returns-in-Ok : goal.returns-in-Ok
returns-in-Ok c = c.shape_of_type.ensures ∙ sym (ap shape_for (has_number c.args.kind c.message_type.ensures c.in-Ok.is))

pub returns-in-Err : goal.returns-in-Err
returns-in-Err c = c.digits.ensures ∙ sym (ap (λ (m : Entry). shape_of m.layout) (has_no_entry c.args.kind c.message_type.ensures c.in-Err.is))
