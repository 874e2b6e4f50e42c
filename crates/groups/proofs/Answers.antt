-- What a step answers, test by test.
use Rattle.std.proofs.Common.{◌≡◌, true, false, Option, Some, None}
use Rattle.refusals.specs.Refusals.{refused, given, reply}
use Rattle.wire.specs.Number.{flag_at}
use Rattle.packets.specs.Packet.{same_key}
use Rattle.packets.specs.declared.packet.Packet.{Packet}
use Rattle.groups.specs.Group.{begun, added, stepped, stepping}
use Rattle.groups.specs.declared.grouping.Part.{Part}

module _ (p : Packet) {group : Option Part} where
  pub at_idle : None ≡ group → given (begun p) ≡ reply (stepping group p)
  unfolding stepped
  at_idle g = rw (← g)

  module _ (part : Part) (g : Some part ≡ group) where
    pub at_other : same_key part.key p.key ≡ false → given (begun p) ≡ reply (stepping group p)
    unfolding stepped
    at_other e = rw (← g, e)

    pub at_copy : same_key part.key p.key ≡ true → flag_at part.come p.counter ≡ true → refused 47 ≡ reply (stepping group p)
    at_copy e f = rw (← g, e, f)

    pub at_new : same_key part.key p.key ≡ true → flag_at part.come p.counter ≡ false → given (added part p) ≡ reply (stepping group p)
    unfolding stepped
    at_new e f = rw (← g, e, f)
