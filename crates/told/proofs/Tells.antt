-- What a call of `feed` tells of a frame is what comes of it at the collator that the bytes stand for.
use mathlib.Core.Path.{◌≡◌, refl, sym, ap, ◌∙◌}
use mathlib.Core.List.{List, [], ◌∷◌}
use mathlib.Core.Logic.{inl, inr}
use Prim.Native.Nat.{ℕ, ◌≤◌, ◌<◌}
use native.Mathlib.Omega.{arith}
use lib.ListN.{length}
use borrow.Author.Tests.{eq-eqb, ne_eqb}
use Rattle.wire.specs.Number.{Bytes}
use Rattle.refusals.specs.Refusals.{refused, given, Answer, Tests, FirstFails, reply}
use Rattle.layouts.specs.Field.{Row, decode}
use Rattle.layouts.proofs.Fields.{length-row}
use Rattle.refusals.proofs.Ordered.{exactly_first}
use Rattle.frames.specs.Frame.{Content}
use Rattle.packets.specs.Packet.{shape, numbering}
use Rattle.epochs.specs.Collator.{Move, feeding, moved, fed_frame}
use Rattle.epochs.proofs.Feeding.{never_refuses}
use Rattle.epochs.specs.declared.collating.Collator.{Collator}
use Rattle.epochs.specs.declared.collating.Report.{Report}
use Rattle.epochs.specs.Happened.{Happened}
use Rattle.epochs.specs.Happened as H
use Rattle.places.specs.State.{state_size, slot, slot_fields, slot_at, slot_of, state_in}
use Rattle.states.specs.Feed.{report_fields, report_size, report_row, happened_number, happened_stored, move_in, FedIn, came_out, fed_in}
use Rattle.told.specs.Told.{told_by, told}
use Rattle.lent_rows.proofs.Parts.{stored_front}
use Rattle.states.proofs.Feeds.{feeds, report_back}

-- ---- a refusal is none of 0 and 1

abbrev From : ℕ → Tests → Type 0
From k [] = Unit {0}
From k (t ∷ ts) = (k ≤ t.1) × From k ts

first_from : (k : ℕ) (ts : Tests) {n : ℕ} → From k ts → FirstFails ts n → k ≤ n
first_from k [] {n = n} h e = elim e [ ]
first_from k (t ∷ ts) h (inl f) = omega (arith, h.0, f.1)
first_from k (t ∷ ts) h (inr f) = first_from k ts h.1 f.1

refused_from : (c : Collator) (x : Content) {n : ℕ} → (fed_frame c x).happened ≡ H.Refused n → 2 ≤ n
unfolding fed_frame shape numbering
refused_from c x {n} = by (reply (feeding c x)) refl
  where
    by : (a : Answer Move) → reply (feeding c x) ≡ a → (moved c a).happened ≡ H.Refused n → 2 ≤ n
    by (refused m) q e =
        let same : m ≡ n = cc in
        let from = first_from 22 (feeding c x).tests (omega arith, (omega arith, (omega arith, (omega arith, (omega arith, (omega arith, tt)))))) ((exactly_first (feeding c x).value (feeding c x).tests m).0 q) in
        omega (arith, from)
    by (given m) q e = absurd (never_refuses c x q e)

-- ---- the three numbers

module _ (answer : ℕ) (report : List ℕ) where
  tells_taken : answer ≡ 0 → told_by answer report ≡ H.Taken
  tells_taken e = rw (eq-eqb answer 0 e)

  tells_epoch : {r : Report} → answer ≡ 1 → decode report_fields report 0 ≡ report_row r → told_by answer report ≡ H.Epoch r
  tells_epoch e q =
      rw (ne_eqb answer 0 (λ z. omega arith), eq-eqb answer 1 e)
      (ap (λ (v : Row report_fields). H.Epoch (record { sender = v.0; wn = v.1.0; tow = v.1.1.0; n = v.1.1.1.0; observations = v.1.1.1.1.0 })) q)

  tells_refused : {n : ℕ} → answer ≡ n → 2 ≤ n → told_by answer report ≡ H.Refused n
  tells_refused e h = rw (ne_eqb answer 0 (λ z. omega arith), ne_eqb answer 1 (λ z. omega arith)) (ap (λ (n : ℕ). H.Refused n) e)

-- ---- a frame

module _ (s : List ℕ) (x : Content) (report : List ℕ) (room : report_size ≤ length report) where
  -- lent bytes keep their length
  abbrev KeptLong : FedIn → Type 0
  KeptLong out = (length out.state ≡ length s) × (length out.report ≡ length report)

  length-happened : (h : Happened) → length (happened_stored h report) ≡ length report
  length-happened (H.Refused n) = refl
  length-happened H.Taken = refl
  length-happened (H.Epoch e) = ap length (sym (stored_front report_fields _ report room)) ∙ length-row report_fields _ report 0

  pub lengths : KeptLong (fed_in s x report)
  unfolding fed_in
  lengths = by (move_in s (length report) x)
    where
      by : (a : Answer Move) → KeptLong (came_out s report a)
      by (refused n) = (refl, refl)
      by (given m) = (length-row slot_fields (slot.row (slot_of m.place)) s (slot_at m.seat), length-happened m.happened)

  module _ (long : state_size ≤ length s) (bytes : Bytes x.payload) (small : x.sender < 65536) where
    pub tells : told (fed_in s x report) ≡ (fed_frame (state_in s) x).happened
    tells = by (fed_frame (state_in s) x).happened refl
      where
        by : (h : Happened) → (fed_frame (state_in s) x).happened ≡ h → told (fed_in s x report) ≡ h
        by (H.Refused n) e =
            tells_refused (fed_in s x report).answer (fed_in s x report).report ((feeds s x report long room bytes).answer ∙ ap happened_number e) (refused_from (state_in s) x e)
        by H.Taken e = tells_taken (fed_in s x report).answer (fed_in s x report).report ((feeds s x report long room bytes).answer ∙ ap happened_number e)
        by (H.Epoch r) e =
            tells_epoch (fed_in s x report).answer (fed_in s x report).report ((feeds s x report long room bytes).answer ∙ ap happened_number e)
            (report_back s x report long room bytes small e)
