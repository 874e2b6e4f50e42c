-- What feeding a frame does, by what the frame is: a refusal leaves the state as it was, a report leaves its sender's place idle, and no place of
-- another sender is touched.
use mathlib.Core.Path.{◌≡◌, refl, sym, ap, ap₂, ◌∙◌, subst}
use mathlib.Core.List.{List, [], ◌∷◌}
use mathlib.Core.Logic.{◌⊎◌, inl, inr}
use Prim.Native.Nat.{ℕ, zero, suc}
use native.Mathlib.Omega.{arith}
use lib.ListN.{get_or, set}
use lib.Seq.{get_or-set_other}
use borrow.Author.Tests.{ne_eqb}
use Rattle.refusals.specs.Refusals.{refused, given, Answer, mapped, ordered, reply}
use Rattle.refusals.proofs.Distinct.{same_given, never_both}
use Rattle.refusals.proofs.Ordered.{exactly_all}
use Rattle.refusals.proofs.Joined.{and_then, ordered_joined, ordered_mapped}
use Rattle.frames.specs.Frame.{Content}
use Rattle.packets.specs.declared.packet.Packet.{Packet}
use Rattle.groups.specs.Group.{stepped, stepping}
use Rattle.groups.specs.declared.grouping.Part.{Part}
use Rattle.std.specs.Prelude.{Option}
use Rattle.std.specs.Prelude.{Option, Some, None}
use Rattle.groups.specs.declared.grouping.Stepped.{Stepped}
use Rattle.groups.proofs.StepCases.{whole_rests}
use Rattle.epochs.specs.Search.{seat_of}
use Rattle.epochs.specs.Collator.{own_place, placing, idle, outcome, for_place, Move, move_to, feeding, moved, roster_of, fed_frame}
use Rattle.epochs.specs.Epoch.{own_packet, report_in, reports_of}
use Rattle.epochs.specs.declared.collating.Place.{Place}
use Rattle.epochs.specs.declared.collating.Collator.{Collator}
use Rattle.epochs.specs.declared.collating.Report.{Report}
use Rattle.epochs.specs.Fed.{Fed}
use Rattle.epochs.specs.Happened.{Happened}
use Rattle.epochs.specs.Happened as H
use Rattle.epochs.proofs.Searches.{same_seat, seat_named}
use Rattle.epochs.proofs.Placings.{placed}

-- a refusal and a packet taken are no epoch
pub never_refused : {n : ℕ} {r : Report} → H.Refused n ≡ H.Epoch r → ⊥
never_refused e = let z : ◌≡◌ {A = ℕ} 0 1 = cc in omega arith

pub never_taken : {r : Report} → H.Taken ≡ H.Epoch r → ⊥
never_taken e = let z : ◌≡◌ {A = ℕ} 0 1 = cc in omega arith

-- what a packet's place answers, and what is then moved
abbrev pub step_at : Collator → ℕ → Packet → Answer Stepped
step_at c i p = reply (stepping (get_or c.places i idle).group p)

abbrev pub moved_by : Collator → ℕ → ℕ → Packet → Answer Stepped → Fed
moved_by c sender i p a = moved c (mapped (move_to sender i p) a)

-- the packet's place takes it
abbrev pub taken : Collator → ℕ → ℕ → Packet → Fed
taken c sender i p = moved_by c sender i p (given (stepped (get_or c.places i idle).group p))

module _ (c : Collator) (x : Content) where
  abbrev sender : ℕ
  sender = x.sender

  abbrev step : ℕ × Packet → Answer Move
  step o = ordered (stepping (get_or c.places o.0 idle).group o.1).tests (move_to sender o.0 o.1 (stepping (get_or c.places o.0 idle).group o.1).value)

  -- the frame's own tests come first
  in_two : reply (feeding c x) ≡ and_then (for_place (roster_of c) x) (step (own_place (roster_of c) x))
  unfolding for_place
  in_two =
      let own = own_place (roster_of c) x in
      ordered_joined own (feeding c x).value (stepping (get_or c.places own.0 idle).group own.1).tests (placing (roster_of c) x).tests

  pub replied_refused : {n : ℕ} → for_place (roster_of c) x ≡ refused n → reply (feeding c x) ≡ refused n
  replied_refused e = in_two ∙ ap (λ (a : Answer (ℕ × Packet)). and_then a (step (own_place (roster_of c) x))) e

  pub replied_for : {i : ℕ} {p : Packet} → for_place (roster_of c) x ≡ given (i, p) → reply (feeding c x) ≡ mapped (move_to sender i p) (step_at c i p)
  unfolding for_place
  replied_for {i} {p} e =
      in_two
      ∙ ap (λ (a : Answer (ℕ × Packet)). and_then a (step (own_place (roster_of c) x))) e
      ∙ ap step ((exactly_all (own_place (roster_of c) x) (placing (roster_of c) x).tests (i, p)).0 e).1
      ∙ ordered_mapped (move_to sender i p) (stepping (get_or c.places i idle).group p).value (stepping (get_or c.places i idle).group p).tests

  -- what moves is the packet's own place, by its step
  pub replied_moves : {m : Move} → reply (feeding c x) ≡ given m
      → (i : ℕ) × (p : Packet) × (for_place (roster_of c) x ≡ given (i, p)) × (m ≡ move_to sender i p (stepped (get_or c.places i idle).group p))
  replied_moves {m} e = by (for_place (roster_of c) x) refl
    where
      by_step : (i : ℕ) (p : Packet) (a : Answer Stepped) → step_at c i p ≡ a → mapped (move_to sender i p) a ≡ given m → m ≡ move_to sender i p (stepped (get_or c.places i idle).group p)
      by_step i p (refused n) q h = absurd (never_both h refl)
      by_step i p (given s) q h =
          let there = (get_or c.places i idle).group in
          same_given h refl ∙ ap (move_to sender i p) (sym ((exactly_all (stepping there p).value (stepping there p).tests s).0 q).1)

      by : (a : Answer (ℕ × Packet)) → for_place (roster_of c) x ≡ a
          → (i : ℕ) × (p : Packet) × (for_place (roster_of c) x ≡ given (i, p)) × (m ≡ move_to sender i p (stepped (get_or c.places i idle).group p))
      by (refused n) q = absurd (never_both e (replied_refused q))
      by (given (i, p)) q = (i, p, q, by_step i p (step_at c i p) refl (sym (replied_for q) ∙ e))

  -- and what comes of it is no refusal: the place is taken, or an epoch
  outcome_told : (p : Packet) (e : Option ℕ) → (outcome sender p e ≡ H.Taken) ⊎ ((r : Report) × (outcome sender p e ≡ H.Epoch r))
  outcome_told p None = inl refl
  outcome_told p (Some t) = inr (_, refl)

  pub moves_told : {m : Move} → reply (feeding c x) ≡ given m → (m.happened ≡ H.Taken) ⊎ ((r : Report) × (m.happened ≡ H.Epoch r))
  moves_told {m} e =
      let w = replied_moves e in
      subst (λ (m : Move). (m.happened ≡ H.Taken) ⊎ ((r : Report) × (m.happened ≡ H.Epoch r))) (sym w.3) (outcome_told w.1 (stepped (get_or c.places w.0 idle).group w.1).ended)

  pub never_refuses : {m : Move} {n : ℕ} → reply (feeding c x) ≡ given m → m.happened ≡ H.Refused n → ⊥
  never_refuses {m} {n} e h = by (moves_told e)
    where
      by : (m.happened ≡ H.Taken) ⊎ ((r : Report) × (m.happened ≡ H.Epoch r)) → ⊥
      by (inl q) = let z : ◌≡◌ {A = ℕ} 0 1 = cc in omega arith
      by (inr q) = never_refused (sym h ∙ q.1)

  pub fed_refused : {n : ℕ} → for_place (roster_of c) x ≡ refused n → fed_frame c x ≡ record { collator = c; happened = H.Refused n }
  unfolding fed_frame
  fed_refused e = ap (moved c) (replied_refused e)

  pub fed_for : {i : ℕ} {p : Packet} → for_place (roster_of c) x ≡ given (i, p) → fed_frame c x ≡ moved_by c sender i p (step_at c i p)
  unfolding fed_frame
  fed_for e = ap (moved c) (replied_for e)

  -- the same, from a step of the place that was found apart
  pub fed_taken : {i : ℕ} {p : Packet} {s : Stepped} {h : Happened} → for_place (roster_of c) x ≡ given (i, p) → given s ≡ step_at c i p → h ≡ outcome sender p s.ended
      → record { collator = record { places = set c.places i (record { group = s.group }); roster = c.roster; count = c.count }; happened = h } ≡ fed_frame c x
  fed_taken {i} {p} {s} e q t =
      ap (λ (h : Happened). record { collator = record { places = set c.places i (record { group = s.group }); roster = c.roster; count = c.count }; happened = h }) t
      ∙ ap (moved_by c sender i p) q
      ∙ sym (fed_for e)

  -- ---- what every feeding has in common

  -- it is a refusal, or the frame's own packet at its sender's seat
  pub by_placing : (P : Fed → Type 0)
      → ((n : ℕ) → P (record { collator = c; happened = H.Refused n }))
      → ((i : ℕ) (p : Packet) → seat_of (roster_of c) sender 0 ≡ Some i → own_packet x ≡ given p → P (taken c sender i p))
      → P (fed_frame c x)
  by_placing P unchanged for = by (for_place (roster_of c) x) refl
    where
      -- a place that refuses moves nothing either
      stepping_at : (i : ℕ) (p : Packet) → P (taken c sender i p) → (a : Answer Stepped) → step_at c i p ≡ a → P (moved_by c sender i p a)
      stepping_at i p took (refused n) q = unchanged n
      stepping_at i p took (given s) q =
          let there = (get_or c.places i idle).group in
          subst (λ (s : Stepped). P (moved_by c sender i p (given s))) ((exactly_all (stepping there p).value (stepping there p).tests s).0 q).1 took

      by : (j : Answer (ℕ × Packet)) → for_place (roster_of c) x ≡ j → P (fed_frame c x)
      by (refused n) q = subst P (sym (fed_refused q)) (unchanged n)
      by (given a) q =
          subst P (sym (fed_for q)) (let w = placed (roster_of c) x q in stepping_at a.0 a.1 (for a.0 a.1 w.0 w.1) (step_at c a.0 a.1) refl)

  -- a refused frame changes no state
  pub refused_keeps : {n : ℕ} → (fed_frame c x).happened ≡ H.Refused n → (fed_frame c x).collator ≡ c
  refused_keeps {n} = by_placing (λ (f : Fed). f.happened ≡ H.Refused n → f.collator ≡ c) (λ m e. refl) (λ i p s q e. absurd (never p (stepped (get_or c.places i idle).group p).ended e))
    where
      never : (p : Packet) (e : Option ℕ) → outcome sender p e ≡ H.Refused n → ⊥
      never p None e = let z : ◌≡◌ {A = ℕ} 0 1 = cc in omega arith
      never p (Some t) e = let z : ◌≡◌ {A = ℕ} 0 1 = cc in omega arith

  -- a report leaves its sender's place idle
  pub report_rests : {r : Report} (i : ℕ) → seat_of (roster_of c) sender 0 ≡ Some i → (fed_frame c x).happened ≡ H.Epoch r
      → get_or (fed_frame c x).collator.places i idle ≡ idle
  report_rests {r} i s = by_placing (λ (f : Fed). f.happened ≡ H.Epoch r → get_or f.collator.places i idle ≡ idle) (λ n e. absurd (never_refused e)) (λ k p q own. rests k p q)
    where
      ended : (p : Packet) (e : Option ℕ) → outcome sender p e ≡ H.Epoch r → (t : ℕ) × (e ≡ Some t)
      ended p None e = absurd (never_taken e)
      ended p (Some t) e = (t, refl)

      set_idle : (ps : List Place) (i : ℕ) → get_or (set ps i idle) i idle ≡ idle
      set_idle [] i = refl
      set_idle (x ∷ ps) zero = refl
      set_idle (x ∷ ps) (suc i) = set_idle ps i

      rests : (k : ℕ) (p : Packet) → seat_of (roster_of c) sender 0 ≡ Some k → (taken c sender k p).happened ≡ H.Epoch r → get_or (taken c sender k p).collator.places i idle ≡ idle
      rests k p q e =
          let run = (get_or c.places k idle).group in
          let same : k ≡ i = same_seat (sym q ∙ s) in
          ap₂ (λ (r : Option Part) (k : ℕ). get_or (set c.places k (record { group = r })) i idle) (let w = ended p (stepped run p).ended e in whole_rests p run w.0 w.1) same
          ∙ set_idle c.places i

  -- a place is touched by its own sender only
  pub others_keep : (j : ℕ) → (get_or (roster_of c) j 0 ≡ sender → ⊥) → get_or (fed_frame c x).collator.places j idle ≡ get_or c.places j idle
  others_keep j other = by_placing (λ (f : Fed). get_or f.collator.places j idle ≡ get_or c.places j idle) (λ n. refl) (λ i p s q. keeps i p s)
    where
      keeps : (i : ℕ) (p : Packet) → seat_of (roster_of c) sender 0 ≡ Some i → get_or (taken c sender i p).collator.places j idle ≡ get_or c.places j idle
      keeps i p s =
          get_or-set_other c.places i j (record { group = (stepped (get_or c.places i idle).group p).group }) idle
          (λ e. other (ap (λ (k : ℕ). get_or (roster_of c) k 0) e ∙ seat_named (roster_of c) sender s))

  -- and the senders stay the same
  pub fed_lists : roster_of (fed_frame c x).collator ≡ roster_of c
  fed_lists = by_placing (λ (f : Fed). roster_of f.collator ≡ roster_of c) (λ n. refl) (λ i p s q. refl)

  -- what it reports is of its own sender
  pub report_own : {s : ℕ} (rs : List Report) → (sender ≡ s → ⊥) → reports_of s (report_in (fed_frame c x).happened rs) ≡ reports_of s rs
  unfolding reports_of
  report_own {s} rs other =
      by_placing (λ (f : Fed). reports_of s (report_in f.happened rs) ≡ reports_of s rs) (λ n. refl) (λ i p s q. of p (stepped (get_or c.places i idle).group p).ended)
    where
      of : (p : Packet) (e : Option ℕ) → reports_of s (report_in (outcome sender p e) rs) ≡ reports_of s rs
      of p None = refl
      of p (Some t) = rw (ne_eqb sender s other)

-- a collator of the same places does the same to them, where the frame is the same to its roster
abbrev relisted : Collator → Fed → Fed
relisted d f = record { collator = record { places = f.collator.places; roster = d.roster; count = d.count }; happened = f.happened }

module _ (places : List Place) (q r : List ℕ) (m n : ℕ) (x : Content) where
  abbrev one : Collator
  one = record { places = places; roster = q; count = m }

  abbrev other : Collator
  other = record { places = places; roster = r; count = n }

  pub fed_relisted : for_place (roster_of one) x ≡ for_place (roster_of other) x → fed_frame other x ≡ relisted other (fed_frame one x)
  fed_relisted e = by (for_place (roster_of one) x) refl
    where
      step : (i : ℕ) (p : Packet) (a : Answer Stepped) → moved_by other x.sender i p a ≡ relisted other (moved_by one x.sender i p a)
      step i p (refused k) = refl
      step i p (given s) = refl

      by : (a : Answer (ℕ × Packet)) → for_place (roster_of one) x ≡ a → fed_frame other x ≡ relisted other (fed_frame one x)
      by (refused k) h = fed_refused other x (sym e ∙ h) ∙ ap (relisted other) (sym (fed_refused one x h))
      by (given (i, p)) h = fed_for other x (sym e ∙ h) ∙ step i p (step_at one i p) ∙ ap (relisted other) (sym (fed_for one x h))
