-- An epoch of two packets: the second ends it where the first was heard, and ends nothing by itself.
use mathlib.Core.Path.{◌≡◌, refl, sym, ap, subst}
use mathlib.Core.Bool.{true, false≢true}
use mathlib.Core.List.{List, [], ◌∷◌}
use Prim.Native.Nat.{ℕ}
use borrow.Author.Tests.{eq-eqb}
use Rattle.wire.specs.Number.{number_at}
use Rattle.refusals.specs.Refusals.{given, Answer}
use Rattle.refusals.proofs.Distinct.{same_given}
use Rattle.observation.specs.Edition.{is_obs}
use Rattle.packets.specs.Packet.{packet_in, shape, numbering, same_key}
use Rattle.packets.specs.declared.packet.Packet.{Packet}
use Rattle.groups.specs.InWords.{has, has_all, group_at, observations_in, EpochEnds}
use Rattle.epochs.specs.Search.{names}
use Rattle.epochs.specs.Epoch.{own_packet, kept, history_of, EndsEpoch}
use Rattle.epochs.specs.declared.collating.Report.{Report}
use Rattle.examples.specs.Examples.{packet_from}

-- n is 2, and there are no observations
abbrev numbered : ℕ → Packet
numbered i = record { key = record { tow = 0; wn = 0; n = 2 }; counter = i; observations = 0 }

abbrev pub both_of : ℕ → Report
both_of s = record { sender = s; wn = 0; tow = 0; n = 2; observations = 0 }

module _ (s : ℕ) where
  first_is : own_packet (packet_from s 0x20) ≡ given (numbered 0)
  unfolding number_at is_obs packet_in shape numbering
  first_is = refl

  second_is : own_packet (packet_from s 0x21) ≡ given (numbered 1)
  unfolding number_at is_obs packet_in shape numbering
  second_is = refl

  heard_first : history_of s (packet_from s 0x20 ∷ []) ≡ numbered 0 ∷ []
  unfolding history_of
  heard_first = rw (eq-eqb s s refl) (ap (λ (a : Answer Packet). kept a []) first_is)

  both_come : EpochEnds (numbered 1) (numbered 0 ∷ []) 0
  unfolding has has_all group_at observations_in same_key
  both_come = record { all_come = refl; sum = refl }

  module _ (roster : List ℕ) (listed : names roster s ≡ true) where
    pub second_ends : EndsEpoch roster (packet_from s 0x20 ∷ []) (packet_from s 0x21) (both_of s)
    second_ends = record {
      packet = numbered 1;
      total = 0;
      listed = listed;
      formed = second_is;
      ends = subst (λ (past : List Packet). EpochEnds (numbered 1) past 0) (sym heard_first) both_come;
      report = refl;
    }

  pub second_alone : (roster : List ℕ) → EndsEpoch roster [] (packet_from s 0x21) (both_of s) → ⊥
  unfolding history_of has has_all group_at
  second_alone roster w =
      let same : w.packet ≡ numbered 1 = same_given w.formed second_is in
      false≢true (subst (λ (p : Packet). EpochEnds p [] w.total) same w.ends).all_come
