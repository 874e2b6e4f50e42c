-- What a report's numbers are at most, whatever the state: those of its fields' widths.
use Prim.Native.Nat.{◌^◌, ◌≤◌, ◌<◌}
use native.Mathlib.Omega.{arith}
use lib.ListN.{get_or}
use Rattle.wire.specs.Number.{Bytes}
use Rattle.frames.specs.Frame.{Content}
use Rattle.packets.specs.declared.packet.Packet.{Packet}
use Rattle.packets.proofs.Recognitions.{formed, n_small, time_small}
use Rattle.groups.specs.Group.{stepped}
use Rattle.groups.specs.declared.grouping.Part.{Part}
use Rattle.std.specs.Prelude.{Option}
use Rattle.std.specs.Prelude.{ℕ, Option, Some, None}
use Rattle.groups.specs.declared.grouping.Stepped.{Stepped}
use Rattle.groups.proofs.StepCases.{step_cases}
use Rattle.epochs.specs.Collator.{idle, outcome, fed_frame}
use Rattle.epochs.specs.declared.collating.Collator.{Collator}
use Rattle.epochs.specs.declared.collating.Report.{Report}
use Rattle.epochs.specs.Fed.{Fed}
use Rattle.epochs.specs.Happened.{Happened}
use Rattle.epochs.specs.Happened as H
use Rattle.epochs.proofs.Feeding.{by_placing}

pub record Small (e : Report) : Type 0 where
  pub sender : e.sender < 65536
  pub wn : e.wn < 65536
  pub tow : e.tow < 2 ^ 32
  pub n : e.n ≤ 15
  pub observations : e.observations < 65536

-- an epoch, if it came to one, is small
abbrev pub SmallIn : Happened → Type 0
SmallIn (H.Refused n) = Unit {0}
SmallIn H.Taken = Unit {0}
SmallIn (H.Epoch e) = Small e

-- ---- the sum

abbrev Within : Option ℕ → Type 0
Within None = Unit {0}
Within (Some total) = total < 65536

stepped_within : (group : Option Part) (p : Packet) → p.observations ≤ 15 → Within (stepped group p).ended
stepped_within group p few = step_cases (λ (s : Stepped). Within s.ended) p (λ total h. h (omega arith)) (λ come total c h. tt) group

-- ---- the report

pub report_small : (c : Collator) (x : Content) → Bytes x.payload → x.sender < 65536 → SmallIn (fed_frame c x).happened
report_small c x bytes s = by_placing c x (λ (f : Fed). SmallIn f.happened) (λ n. tt) λ i p seat own.
    let run = (get_or c.places i idle).group in
    ended p (time_small x.kind x.payload own bytes) (n_small x.kind x.payload own bytes)
    (stepped run p).ended (stepped_within run p (formed x.kind x.payload own).few)
  where
    ended : (p : Packet) → (p.key.tow < 2 ^ 32) × (p.key.wn < 65536) → p.key.n ≤ 15 → (e : Option ℕ) → Within e → SmallIn (outcome x.sender p e)
    ended p time n None w = tt
    ended p time n (Some total) w = record { sender = s; wn = time.1; tow = time.0; n = n; observations = w }
