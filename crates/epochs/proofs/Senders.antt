-- Senders do not mix: the state of a collator is one place for each listed sender, made of that sender's own packets, and a frame moves its own
-- sender's place alone. Nothing here looks inside a step.
use mathlib.Core.Path.{◌≡◌, refl, sym, ap, ◌∙◌}
use mathlib.Core.Bool.{Bool, true, false, cond}
use mathlib.Core.List.{List, [], ◌∷◌, ◌++◌, map}
use Prim.Native.Nat.{ℕ, zero, suc, ◌≤◌, ◌<◌}
use native.Mathlib.Omega.{arith}
use lib.Dec.{eqb}
use lib.ListN.{length, get_or, set, take, replicate, length-map, get_or-append}
use lib.Seq.{take-take, take-append_seam, get_or-take, take-set-lt, set-append_left}
use borrow.Author.Tests.{eqb-true, eq-eqb, ne_eqb}
use Rattle.refusals.specs.Refusals.{refused, given, Answer, mapped, reply}
use Rattle.frames.specs.Frame.{Content}
use Rattle.packets.specs.declared.packet.Packet.{Packet}
use Rattle.groups.specs.Group.{left_open, stepping, left_of}
use Rattle.groups.specs.declared.grouping.Part.{Part}
use Rattle.groups.specs.declared.grouping.Stepped.{Stepped}
use Rattle.epochs.specs.Search.{seat_of, names, repeats}
use Rattle.epochs.specs.Collator.{idle, came_to, for_place, roster_of, fed_frame, fresh}
use Rattle.epochs.specs.Epoch.{own_packet, kept, packets_of, of_sender, after}
use Rattle.std.specs.Prelude.{Some, Option}
use Rattle.epochs.specs.declared.collating.Place.{Place}
use Rattle.epochs.specs.declared.collating.Collator.{Collator}
use Rattle.epochs.specs.Happened.{Happened}
use Rattle.epochs.specs.Happened as H
use Rattle.epochs.specs.Fed.{Fed}
use Rattle.epochs.proofs.Searches.{seat_below, seat_named, seat_listed, map-others, map-seat, map_at}
use Rattle.epochs.proofs.Placings.{at, placed_listed, placed_unlisted}
use Rattle.epochs.proofs.Feeding.{moved_by, fed_refused, fed_for}

-- ---- how the laws see a collator's state

-- a sender's place after its packets, the latest first
abbrev pub place_of : List Packet → Place
place_of past = record { group = left_open past }

-- the places of a roster's senders, each after its own packets
abbrev pub places_of : List ℕ → (ℕ → List Packet) → List Place
places_of roster past = map (λ (s : ℕ). place_of (past s)) roster

-- the collator in which each listed sender has sent the packets of its past, and nothing else has left a trace
abbrev pub state_of : List ℕ → (ℕ → List Packet) → Collator
state_of roster past =
    record { places = take 8 (places_of roster past ++ replicate 8 idle); roster = take 8 (roster ++ replicate 8 0); count = length roster }

-- the packets of every sender once a frame is fed: its own sender's has one more, where it is well-formed
abbrev pub heard_by : Content → (ℕ → List Packet) → ℕ → List Packet
heard_by x past s = cond (eqb x.sender s) (kept (own_packet x) (past s)) (past s)

-- what a frame of a listed sender comes to
abbrev pub comes_to : ℕ → List Packet → Answer Packet → Happened
comes_to sender past (refused n) = H.Refused n
comes_to sender past (given p) = came_to sender p (reply (stepping (left_open past) p))

-- the places alone count
pub state_ext : (roster : List ℕ) (a b : ℕ → List Packet) → ((s : ℕ) → left_open (a s) ≡ left_open (b s)) → state_of roster a ≡ state_of roster b
state_ext roster a b e = ap (λ (group : ℕ → Option Part). record { places = take 8 (map (λ (s : ℕ). record { group = group s }) roster ++ replicate 8 idle); roster = take 8 (roster ++ replicate 8 0); count = length roster }) (λ i s. e s i)

-- the frame's own sender, and the others
heard_own : (x : Content) (past : ℕ → List Packet) → heard_by x past x.sender ≡ kept (own_packet x) (past x.sender)
heard_own x past = rw (eq-eqb x.sender x.sender refl)

heard_other : (x : Content) (past : ℕ → List Packet) (s : ℕ) → (s ≡ x.sender → ⊥) → past s ≡ heard_by x past s
heard_other x past s other = rw (ne_eqb x.sender s (λ e. other (sym e)))

module _ (roster : List ℕ) (few : length roster ≤ 8) where
  pub roster_kept : (past : ℕ → List Packet) → roster_of (state_of roster past) ≡ roster
  roster_kept past = take-take (length roster) 8 (roster ++ replicate 8 0) few ∙ take-append_seam roster (replicate 8 0)

  -- a made collator has heard nothing
  pub fresh_state : fresh roster ≡ state_of roster (λ (s : ℕ). [])
  unfolding left_open
  fresh_state = ap (λ (ps : List Place). record { places = ps; roster = take 8 (roster ++ replicate 8 0); count = length roster }) (sym (all_idle roster 8 8 (omega arith)))
    where
      all_idle : (xs : List ℕ) (m n : ℕ) → m ≤ n → take m (map (λ (s : ℕ). idle) xs ++ replicate n idle) ≡ replicate m idle
      all_idle xs zero n h = refl
      all_idle [] (suc m) zero h = absurd (omega arith)
      all_idle [] (suc m) (suc n) h = ap (λ (ps : List Place). idle ∷ ps) (all_idle [] m n (omega arith))
      all_idle (x ∷ xs) (suc m) n h = ap (λ (ps : List Place). idle ∷ ps) (all_idle xs m n (omega arith))

  module _ (once : repeats roster ≡ false) (past : ℕ → List Packet) (x : Content) where
    abbrev c : Collator
    c = state_of roster past

    at_roster : for_place (roster_of c) x ≡ for_place roster x
    at_roster = ap (λ (r : List ℕ). for_place r x) (roster_kept past)

    abbrev fed_to : List Place → Happened → Fed
    fed_to places h = record { collator = record { places = places; roster = c.roster; count = c.count }; happened = h }

    -- a frame that is refused, by itself or by its place, leaves every sender's place as it was
    unheard : left_open (past x.sender) ≡ left_open (kept (own_packet x) (past x.sender)) → c ≡ state_of roster (heard_by x past)
    unheard e = state_ext roster past (heard_by x past) (λ s. by s (eqb x.sender s) refl)
      where
        by : (s : ℕ) (t : Bool) → eqb x.sender s ≡ t → left_open (past s) ≡ left_open (cond t (kept (own_packet x) (past s)) (past s))
        by s true q = ap (λ (s : ℕ). left_open (past s)) (sym (eqb-true x.sender s q)) ∙ e ∙ ap (λ (s : ℕ). left_open (kept (own_packet x) (past s))) (eqb-true x.sender s q)
        by s false q = refl

    -- ---- a frame of a listed sender

    module _ (i : ℕ) (e : seat_of roster x.sender 0 ≡ Some i) where
      below : i < length roster
      below = omega (arith, (seat_below roster x.sender 0 e).1)

      named : get_or roster i 0 ≡ x.sender
      named = seat_named roster x.sender e

      inside : i < length (places_of roster past)
      inside = omega (arith, below, length-map roster (λ (s : ℕ). place_of (past s)))

      -- the place at its seat is that of its own packets
      own_place : get_or c.places i idle ≡ place_of (past x.sender)
      own_place =
          get_or-take 8 (places_of roster past ++ replicate 8 idle) i idle (omega (arith, below))
          ∙ get_or-append (places_of roster past) (replicate 8 idle) idle i inside
          ∙ map_at (λ (s : ℕ). place_of (past s)) roster i idle below
          ∙ ap (λ (s : ℕ). place_of (past s)) named

      -- and once it has the next packet the others are as they were
      placed_on : {p : Packet} {s : Stepped} → own_packet x ≡ given p → reply (stepping (left_open (past x.sender)) p) ≡ given s
          → set c.places i (record { group = s.group }) ≡ (state_of roster (heard_by x past)).places
      unfolding left_open
      placed_on {p} {s} q r =
          let v : Place = record { group = s.group } in
          let next : v ≡ place_of (heard_by x past x.sender)
          = ap (λ (a : Answer Stepped). record { group = left_of (left_open (past x.sender)) a }) (sym r) ∙ sym (ap place_of (heard_own x past ∙ ap (λ (a : Answer Packet). kept a (past x.sender)) q)) in
          sym (take-set-lt 8 (places_of roster past ++ replicate 8 idle) i v (omega (arith, below)))
          ∙ ap (take 8) (set-append_left (places_of roster past) (replicate 8 idle) i v inside)
          ∙ ap (λ (ps : List Place). take 8 (ps ++ replicate 8 idle))
          (ap (set (places_of roster past) i) next
          ∙ map-seat x.sender (λ y other. ap place_of (heard_other x past y other)) roster i once below named)

      -- the place's answer decides
      stepped_at : {p : Packet} → own_packet x ≡ given p → (a : Answer Stepped) → reply (stepping (left_open (past x.sender)) p) ≡ a
          → moved_by c x.sender i p a ≡ fed_to (state_of roster (heard_by x past)).places (came_to x.sender p a)
      unfolding left_open
      stepped_at {p} q (refused n) r =
          let open-still = ap (left_of (left_open (past x.sender))) (sym r) ∙ ap (λ (a : Answer Packet). left_open (kept a (past x.sender))) (sym q) in
          ap (λ (d : Collator). record { collator = d; happened = H.Refused n }) (unheard open-still)
      stepped_at {p} q (given s) r = ap (λ (ps : List Place). fed_to ps (came_to x.sender p (given s))) (placed_on q r)

      fed_at : (a : Answer Packet) → own_packet x ≡ a → fed_frame c x ≡ fed_to (state_of roster (heard_by x past)).places (comes_to x.sender (past x.sender) a)
      fed_at (refused n) q =
          fed_refused c x (at_roster ∙ placed_listed roster x e ∙ ap (mapped (at i)) q)
          ∙ ap (λ (d : Collator). record { collator = d; happened = H.Refused n }) (unheard (ap (λ (a : Answer Packet). left_open (kept a (past x.sender))) (sym q)))
      fed_at (given p) q =
          fed_for c x (at_roster ∙ placed_listed roster x e ∙ ap (mapped (at i)) q)
          ∙ ap (λ (place : Place). moved_by c x.sender i p (reply (stepping place.group p))) own_place
          ∙ stepped_at q (reply (stepping (left_open (past x.sender)) p)) refl

    pub fed_listed : names roster x.sender ≡ true
        → fed_frame c x ≡ record { collator = state_of roster (heard_by x past); happened = comes_to x.sender (past x.sender) (own_packet x) }
    fed_listed n = let seat = seat_listed roster x.sender n in fed_at seat.0 seat.1 (own_packet x) refl

    -- ---- a frame of another sender is refused, and leaves no trace

    pub fed_unlisted : names roster x.sender ≡ false
        → (n : ℕ) × (fed_frame c x ≡ record { collator = state_of roster (heard_by x past); happened = H.Refused n })
    fed_unlisted n =
        let r = placed_unlisted roster x n in
        let others : places_of roster past ≡ places_of roster (heard_by x past)
        = map-others x.sender (λ y other. ap place_of (heard_other x past y other)) roster n in (
          r.0,
          fed_refused c x (at_roster ∙ r.1)
              ∙ ap (λ (ps : List Place). fed_to (take 8 (ps ++ replicate 8 idle)) (H.Refused r.0)) others,
        )

    -- either way the state is that of each sender's own packets
    pub fed_state : (fed_frame c x).collator ≡ state_of roster (heard_by x past)
    fed_state = by (names roster x.sender) refl
      where
        by : (t : Bool) → names roster x.sender ≡ t → (fed_frame c x).collator ≡ state_of roster (heard_by x past)
        by true n = ap (λ (f : Fed). f.collator) (fed_listed n)
        by false n = ap (λ (f : Fed). f.collator) (fed_unlisted n).1

  -- ---- frames fed in order

  packets_on : (x : Content) (xs : List Content) (past : ℕ → List Packet) (s : ℕ) → packets_of (of_sender s xs) (heard_by x past s) ≡ packets_of (of_sender s (x ∷ xs)) (past s)
  unfolding packets_of of_sender
  packets_on x xs past s = by (eqb x.sender s)
    where
      by : (t : Bool) → packets_of (of_sender s xs) (cond t (kept (own_packet x) (past s)) (past s)) ≡ packets_of (cond t (x ∷ of_sender s xs) (of_sender s xs)) (past s)
      by true = refl
      by false = refl

  -- the end state is one place for each listed sender, made of that sender's own packets
  pub after_state : repeats roster ≡ false → (xs : List Content) (past : ℕ → List Packet) → after (state_of roster past) xs ≡ state_of roster (λ (s : ℕ). packets_of (of_sender s xs) (past s))
  unfolding after packets_of of_sender
  after_state once [] past = refl
  after_state once (x ∷ xs) past =
      ap (λ (c : Collator). after c xs) (fed_state once past x) ∙ after_state once xs (heard_by x past) ∙ state_ext roster _ _ (λ s. ap left_open (packets_on x xs past s))
