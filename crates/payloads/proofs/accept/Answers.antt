-- `payloads::accept` meets its contract: by the check of the message's type.
use Rattle.std.proofs.Common.{Some, ap}
use Rattle.refusals.specs.Refusals.{zero_or}
use Rattle.payloads.specs.Types.{type_number}
use Rattle.payloads.proofs.Agreed.{numbered}
use Rattle.payloads.proofs.accept.Goals as goal

pub returns : goal.returns
returns c =
    let a = c.args in
    numbered (type_number a.message) a.payload.now {k = Some c.check_of.result} (ap zero_or c.tested.ensures) c.check_of.ensures
