-- A well-formed observation frame and its packet, number by number; and what is reported of an epoch.
use mathlib.Core.Path.{◌≡◌, refl, sym, ap, ◌∙◌, subst}
use mathlib.Core.Bool.{not}
use mathlib.Core.List.{List, ◌++◌}
use mathlib.Core.Logic.{◌↔◌}
use Prim.Native.Nat.{ℕ, ◌-◌, ◌/◌}
use native.Mathlib.Omega.{arith}
use lib.Dec.{eqb}
use lib.ListN.{length}
use borrow.Author.Tests.{eqb-true, eqb-false, ltb-true, not-true, eq-eqb, ne_eqb, lt-ltb}
use Rattle.refusals.specs.Refusals.{given}
use Rattle.refusals.proofs.Ordered.{exactly_all}
use Rattle.layouts.proofs.Layouts.{lengths_true, lengths_of}
use Rattle.frames.specs.Frame.{Content}
use Rattle.observation.specs.Edition.{obs, first, is_obs}
use Rattle.packets.specs.Packet.{packet_in, shape, numbering}
use Rattle.packets.specs.declared.packet.Packet.{Packet}
use Rattle.epochs.specs.Epoch.{own_packet, EndsEpoch}
use Rattle.epochs.specs.declared.collating.Report.{Report}
use Rattle.demands.specs.Demand2.{WellFormed, Reported}

module _ (x : Content) where
  abbrev s : List ℕ
  s = x.payload

  module _ {p : Packet} (e : own_packet x ≡ given p) where
    same_packet : packet_in s ≡ p
    same_packet = ((exactly_all (packet_in s) (shape x.kind s ++ numbering (packet_in s)) p).0 e).1

    tested : WellFormed x (packet_in s)
    unfolding shape numbering packet_in is_obs
    tested =
        let passes = ((exactly_all (packet_in s) (shape x.kind s ++ numbering (packet_in s)) p).0 e).0 in
        let long = lengths_of (obs first).layout (length s) passes.1.0 in
        record {
          kind = eqb-true x.kind 0x0049 passes.0;
          size = omega (arith, long);
          few = omega (arith, long);
          tow = refl;
          wn = refl;
          n = refl;
          counter = refl;
          some = omega (arith, eqb-false (packet_in s).key.n 0 (not-true (eqb (packet_in s).key.n 0) passes.1.1.0));
          below = ltb-true (packet_in s).counter (packet_in s).key.n passes.1.1.1.0;
        }

    pub as_formed : WellFormed x p
    as_formed = subst (WellFormed x) same_packet tested

  module _ {p : Packet} (w : WellFormed x p) where
    counted : (length s - 7) / 16 ≡ p.observations
    counted = omega (arith, w.size)

    is_packet : packet_in s ≡ p
    unfolding packet_in
    is_packet i = record {
      key = record { tow = sym w.tow i; wn = sym w.wn i; n = sym w.n i };
      counter = sym w.counter i;
      observations = counted i;
    }

    pub is_own : own_packet x ≡ given p
    unfolding shape numbering packet_in is_obs
    is_own =
        (exactly_all (packet_in s) (shape x.kind s ++ numbering (packet_in s)) p).1 (
          (
            eq-eqb x.kind 0x0049 w.kind,
            (
              lengths_true (obs first).layout (length s) (omega (arith, w.size, w.few)),
              (ap not (ne_eqb (packet_in s).key.n 0 (λ e. omega (arith, w.some, w.n, e))), (lt-ltb (packet_in s).counter (packet_in s).key.n (omega (arith, w.below, w.counter, w.n)), tt)),
            ),
          ),
          is_packet,
        )

pub well_formed : (x : Content) (p : Packet) → (own_packet x ≡ given p) ↔ WellFormed x p
well_formed x p = (as_formed x, is_own x)

pub report_numbers : (roster : List ℕ) (xs : List Content) (x : Content) (e : Report) → EndsEpoch roster xs x e → Reported x e
report_numbers roster xs x e ends =
    let w = as_formed x ends.formed in
    record {
      sender = ap (λ (r : Report). r.sender) ends.report;
      wn = ap (λ (r : Report). r.wn) ends.report ∙ w.wn;
      tow = ap (λ (r : Report). r.tow) ends.report ∙ w.tow;
      n = ap (λ (r : Report). r.n) ends.report ∙ w.n;
    }
