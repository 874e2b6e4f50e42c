-- A frame fed to a collator in bytes: what `feed` answers, case by case, and that it is what the collator does that the bytes stand for.
use mathlib.Core.Path.{◌≡◌, refl, sym, ap, ◌∙◌, subst}
use mathlib.Core.List.{List}
use Prim.Native.Nat.{ℕ, ◌^◌, ◌≤◌, ◌<◌}
use native.Mathlib.Omega.{arith}
use lib.ListN.{length, get_or, length-take}
use borrow.Author.Tests.{le-leb, lt-leb}
use Rattle.wire.specs.Number.{Bytes}
use Rattle.refusals.specs.Refusals.{refused, given, Answer, mapped, reply}
use Rattle.layouts.specs.Field.{decode}
use Rattle.wire.specs.Tabulated.{tabulated}
use Rattle.wire.proofs.Tables.{tabulated_at}
use Rattle.frames.specs.Frame.{Content}
use Rattle.packets.specs.declared.packet.Packet.{Packet}
use Rattle.packets.proofs.Recognitions.{formed, n_small, time_small}
use Rattle.groups.specs.Group.{stepped, stepping}
use Rattle.groups.specs.declared.grouping.Stepped.{Stepped}
use Rattle.groups.specs.declared.grouping.Part.{Part}
use Rattle.std.specs.Prelude.{Option}
use Rattle.groups.proofs.StepCases.{step_cases}
use Rattle.epochs.specs.Collator.{for_place, idle, came_to, Move, move_to, feeding, moved, roster_of, fed_frame}
use Rattle.epochs.specs.declared.collating.Place.{Place}
use Rattle.epochs.specs.declared.collating.Report.{Report}
use Rattle.epochs.specs.Fed.{Fed}
use Rattle.epochs.specs.Happened.{Happened}
use Rattle.epochs.specs.Happened as H
use Rattle.epochs.proofs.Placings.{placed, placed_below}
use Rattle.epochs.proofs.Feeding.{replied_refused, replied_for, replied_moves}
use Rattle.epochs.proofs.Reports.{SmallIn, Small, report_small}
use Rattle.places.specs.State.{state_size, place_in, state_in}
use Rattle.states.specs.Feed.{report_fields, report_size, report_row, happened_number, happened_stored, move_in, FedIn, came_out, fed_in, step_in, place_left}
use Rattle.lent_rows.proofs.Parts.{stored_front, decode_stored}
use Rattle.places.proofs.States.{SmallGroup, state_place}

-- the place of a packet is one of the eight
pub eight : (s : List ℕ) (x : Content) {i : ℕ} {p : Packet} → for_place (roster_of (state_in s)) x ≡ given (i, p) → i < 8
unfolding tabulated
eight s x e = omega (arith, simp length-take at (placed_below (roster_of (state_in s)) x e))

module _ (s : List ℕ) (x : Content) (report : List ℕ) where
  -- an answer, a state and a report as they have to be
  abbrev pub Out : ℕ → List ℕ → List ℕ → Type 0
  Out n t u = (n ≡ (fed_in s x report).answer) × ((t ≡ (fed_in s x report).state) × (u ≡ (fed_in s x report).report))

  pub came : {a : Answer Move} → move_in s (length report) x ≡ a → Out (came_out s report a).answer (came_out s report a).state (came_out s report a).report
  unfolding fed_in
  came e =
      let out = ap (came_out s report) (sym e) in
      (ap (λ (o : FedIn). o.answer) out, (ap (λ (o : FedIn). o.state) out, ap (λ (o : FedIn). o.report) out))

  pub state_short : length s < state_size → move_in s (length report) x ≡ refused 32
  unfolding move_in
  state_short h = rw (lt-leb state_size (length s) h)

  module _ (long : state_size ≤ length s) where
    pub report_short : length report < report_size → move_in s (length report) x ≡ refused 32
    unfolding move_in
    report_short h = rw (le-leb state_size (length s) long, lt-leb report_size (length report) h)

    module _ (room : report_size ≤ length report) where
      -- with room for both the frame is what it is to the collator
      pub as_collator : move_in s (length report) x ≡ reply (feeding (state_in s) x)
      unfolding move_in
      as_collator = rw (le-leb state_size (length s) long, le-leb report_size (length report) room)

      pub came_refused : {n : ℕ} → for_place (roster_of (state_in s)) x ≡ refused n → Out n s report
      came_refused e = came (as_collator ∙ replied_refused (state_in s) x e)

      -- a packet, from the calls that take it
      pub came_taken : {i : ℕ} {p : Packet} {y : Happened} {n : ℕ} {t u : List ℕ} → for_place (roster_of (state_in s)) x ≡ given (i, p)
          → y ≡ came_to x.sender p (step_in s i p) → t ≡ place_left s i (step_in s i p) → n ≡ happened_number y → u ≡ happened_stored y report → Out n t u
      came_taken {i} {p} e q r v w =
          let own : get_or (tabulated (place_in s) 8) i idle ≡ place_in s i = tabulated_at (place_in s) 8 i idle (eight s x e) in
          let here : move_in s (length report) x ≡ mapped (move_to x.sender i p) (step_in s i p)
          = as_collator ∙ replied_for (state_in s) x e ∙ ap (λ (place : Place). mapped (move_to x.sender i p) (reply (stepping place.group p))) own in
          let out = came here in
          let same = by (step_in s i p) in (
            v ∙ ap happened_number q ∙ ap (λ (o : FedIn). o.answer) same ∙ out.0,
            (r ∙ ap (λ (o : FedIn). o.state) same ∙ out.1.0, w ∙ ap (λ (y : Happened). happened_stored y report) q ∙ ap (λ (o : FedIn). o.report) same ∙ out.1.1),
          )
        where
          by : (a : Answer Stepped)
              → record { state = place_left s i a; report = happened_stored (came_to x.sender p a) report; answer = happened_number (came_to x.sender p a) }
              ≡ came_out s report (mapped (move_to x.sender i p) a)
          by (refused n) = refl
          by (given y) = refl

-- ---- tied to the collator

-- a packet whose numbers are small leaves a group whose numbers are
pub record SmallPacket (p : Packet) : Type 0 where
  pub tow : p.key.tow < 2 ^ 32
  pub wn : p.key.wn < 65536
  pub n : p.key.n < 256
  pub observations : p.observations < 65536

pub stepped_small : (p : Packet) → SmallPacket p → (group : Option Part) → SmallGroup (stepped group p).group
stepped_small p small =
    step_cases (λ (s : Stepped). SmallGroup s.group) p (λ total h. tt)
    (λ come total c h. record { tow = small.tow; wn = small.wn; n = small.n; come = c; total = h small.observations })

-- what came out of the bytes is what came out of the collator
pub record Tied (out : FedIn) (f : Fed) (report : List ℕ) : Type 0 where
  pub state : state_in out.state ≡ f.collator
  pub answer : out.answer ≡ happened_number f.happened
  pub reported : out.report ≡ happened_stored f.happened report

module _ (s : List ℕ) (x : Content) (report : List ℕ) (long : state_size ≤ length s) (room : report_size ≤ length report) (bytes : Bytes x.payload) where
  -- feeding the bytes is feeding the collator that they stand for
  pub feeds : Tied (fed_in s x report) (fed_frame (state_in s) x) report
  unfolding fed_in fed_frame
  feeds = subst (λ (a : Answer Move). Tied (came_out s report a) (fed_frame (state_in s) x) report) (sym (as_collator s x report long room)) (by (reply (feeding (state_in s) x)) refl)
    where
      small : {i : ℕ} {p : Packet} → for_place (roster_of (state_in s)) x ≡ given (i, p) → SmallPacket p
      small e =
          let own = (placed (roster_of (state_in s)) x e).1 in
          let time = time_small x.kind x.payload own bytes in
          let n = n_small x.kind x.payload own bytes in
          record { tow = time.0; wn = time.1; n = omega arith; observations = omega (arith, (formed x.kind x.payload own).few) }

      by : (a : Answer Move) → reply (feeding (state_in s) x) ≡ a → Tied (came_out s report a) (moved (state_in s) a) report
      by (refused n) e = record { state = refl; answer = refl; reported = refl }
      by (given m) e =
          let w = replied_moves (state_in s) x e in
          let i = w.0 in
          let p = w.1 in
          let h : i < 8 = eight s x w.2 in
          let group = (get_or (state_in s).places i idle).group in
          record {
            state =
                ap (λ (m : Move). state_in (came_out s report (given m)).state) w.3
                ∙ state_place s long i h (record { group = (stepped group p).group }) (stepped_small p (small w.2) group)
                ∙ ap (λ (m : Move). (moved (state_in s) (given m)).collator) (sym w.3);
            answer = refl;
            reported = refl;
          }

  -- an epoch's report is read back as it is
  pub report_back : {e : Report} → x.sender < 65536 → (fed_frame (state_in s) x).happened ≡ H.Epoch e → decode report_fields (fed_in s x report).report 0 ≡ report_row e
  report_back {e} h q =
      let small : Small e = subst SmallIn q (report_small (state_in s) x bytes h) in
      let n : e.n < 256 = omega (arith, small.n) in
      ap (λ (t : List ℕ). decode report_fields t 0) (feeds.reported ∙ ap (λ (y : Happened). happened_stored y report) q ∙ sym (stored_front report_fields (report_row e) report room))
      ∙ decode_stored report_fields (report_row e) report 0 (omega arith)
      (record { fits = small.sender }, (record { fits = small.wn }, (record { fits = small.tow }, (record { fits = n }, (record { fits = small.observations }, tt)))))
      (refl, (refl, (refl, (refl, (refl, tt)))))
