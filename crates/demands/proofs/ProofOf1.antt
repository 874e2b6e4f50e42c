-- Demand 1 holds.
use mathlib.Core.Path.{refl, ap}
use Prim.Native.Nat.{ℕ}
use Rattle.wire.proofs.Stored.{bytes_nowhere}
use Rattle.refusals.proofs.Ordered.{exactly_first, exactly_all}
use Rattle.obs_reader.specs.declared.ObsReader.{ObsReader}
use Rattle.obs_reader.proofs.OneQuestion.{stays}
use Rattle.epochs.proofs.Feeding.{refused_keeps}
use Rattle.captures.proofs.Captures.{collated_refused}
use Rattle.demands.specs.Demand1.{Demand1}
use Rattle.demands.proofs.Ordering.{order, linked_order, indexes_order}
use Rattle.demands.proofs.OffTheCall.{apart, alone, read_off}
use Rattle.demands.proofs.Nobody.{nobody_listed}

pub demand_1 : Demand1
demand_1 = record {
  refused_by_number = record {
    in_order = λ A c. (exactly_first c.value c.tests, exactly_all c.value c.tests);
    told_apart = λ A number c. apart c number;
    order = order;
    linked_order = linked_order;
    index_order = indexes_order;
  };
  writes_nothing = record { left_alone = λ A B put c. alone c put; unfit_bytes = bytes_nowhere };
  read_off = read_off;
  moves_no_state = record {
    refused_frame = λ c x n e. refused_keeps c x e;
    refused_reader = λ r n e. ap {B = ObsReader} (λ (i : ℕ). record { kind = r.kind; payload = r.payload; at = i }) (stays r.kind r.payload.now r.at e);
    refused_roster = nobody_listed;
    refused_capture = λ s roster refuses. collated_refused s roster refl refuses;
  };
}
