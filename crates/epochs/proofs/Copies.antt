-- 47 is answered exactly at a copy: no test of the frame itself has that number, and its sender's place has it for a counter that has come.
use mathlib.Core.Path.{◌≡◌, refl, sym, ap, ◌∙◌}
use mathlib.Core.Bool.{Bool, true, false}
use mathlib.Core.List.{List, ◌∷◌}
use mathlib.Core.Logic.{◌↔◌, inl, inr}
use Prim.Native.Nat.{ℕ}
use native.Mathlib.Omega.{arith}
use Rattle.refusals.specs.Refusals.{refused, given, Answer, FirstFails, mapped, reply}
use Rattle.refusals.proofs.Ordered.{exactly_first}
use Rattle.frames.specs.Frame.{Content}
use Rattle.packets.specs.Packet.{shape, numbering, AllFormed}
use Rattle.packets.specs.declared.packet.Packet.{Packet}
use Rattle.packets.proofs.Recognitions.{formed}
use Rattle.groups.specs.Group.{stepping, left_open}
use Rattle.std.specs.Prelude.{Option, Some, None}
use Rattle.groups.specs.declared.grouping.Stepped.{Stepped}
use Rattle.groups.proofs.WholeGroups.{copy_refused}
use Rattle.epochs.specs.Search.{names}
use Rattle.epochs.specs.Collator.{placing, own_place, for_place, outcome, came_to, fed_frame, made}
use Rattle.epochs.specs.Epoch.{own_packet, history_of, after, Seated, BringsCopy}
use Rattle.epochs.specs.declared.collating.Collator.{Collator}
use Rattle.epochs.specs.Happened as H
use Rattle.epochs.specs.Fed.{Fed}
use Rattle.epochs.proofs.Searches.{seat_listed}
use Rattle.epochs.proofs.Placings.{at, placed_listed, placed_unlisted}
use Rattle.epochs.proofs.Feeding.{fed_refused}
use Rattle.epochs.proofs.Senders.{state_of, comes_to, roster_kept, fed_listed}
use Rattle.epochs.proofs.Collations.{history_formed, standing}

same_refusal : {m n : ℕ} → H.Refused m ≡ H.Refused n → m ≡ n
same_refusal e = cc

never_outcome : (s : ℕ) (p : Packet) (e : Option ℕ) {n : ℕ} → outcome s p e ≡ H.Refused n → ⊥
never_outcome s p None e = let z : ◌≡◌ {A = ℕ} 0 1 = cc in omega arith
never_outcome s p (Some t) e = let z : ◌≡◌ {A = ℕ} 0 1 = cc in omega arith

-- by itself a frame is refused with 46, 22, 43, 44 or 45
never_47 : (roster : List ℕ) (x : Content) → for_place roster x ≡ refused 47 → ⊥
unfolding for_place shape numbering
never_47 roster x e = by ((exactly_first (own_place roster x) (placing roster x).tests 47).0 e)
  where
    by : FirstFails (placing roster x).tests 47 → ⊥
    by (inl f) = omega (arith, f.1)
    by (inr (t, inl f)) = omega (arith, f.1)
    by (inr (t, inr (u, inl f))) = omega (arith, f.1)
    by (inr (t, inr (u, inr (v, inl f)))) = omega (arith, f.1)
    by (inr (t, inr (u, inr (v, inr (w, inl f))))) = omega (arith, f.1)
    by (inr (t, inr (u, inr (v, inr (w, inr f))))) = f.1

module _ (roster : List ℕ) (is : Seated roster) (xs : List Content) (x : Content) where
  abbrev past : ℕ → List Packet
  past s = history_of s xs

  abbrev answer : Packet → Answer Stepped
  answer p = reply (stepping (left_open (past x.sender)) p)

  formed_on : {p : Packet} → own_packet x ≡ given p → AllFormed (p ∷ past x.sender)
  formed_on q = (formed x.kind x.payload q, history_formed x.sender xs)

  stands : (fed_frame (after (made roster).collator xs) x).happened ≡ (fed_frame (state_of roster past) x).happened
  stands = ap (λ (c : Collator). (fed_frame c x).happened) (standing roster is xs)

  listed_comes : names roster x.sender ≡ true → (fed_frame (state_of roster past) x).happened ≡ comes_to x.sender (past x.sender) (own_packet x)
  listed_comes n = ap (λ (f : Fed). f.happened) (fed_listed roster is.few is.once past x n)

  unlisted_comes : {n : ℕ} → for_place roster x ≡ refused n → (fed_frame (state_of roster past) x).happened ≡ H.Refused n
  unlisted_comes e = ap (λ (f : Fed). f.happened) (fed_refused (state_of roster past) x (ap (λ (r : List ℕ). for_place r x) (roster_kept roster is.few past) ∙ e))

  pub copy_outcome : ((fed_frame (after (made roster).collator xs) x).happened ≡ H.Refused 47) ↔ BringsCopy roster xs x
  copy_outcome = (λ h. there (names roster x.sender) refl (sym stands ∙ h), λ w. stands ∙ back w)
    where
      by_step : names roster x.sender ≡ true → (p : Packet) → own_packet x ≡ given p → (a : Answer Stepped) → answer p ≡ a → came_to x.sender p a ≡ H.Refused 47 → BringsCopy roster xs x
      by_step n p q (refused m) r h =
          record { packet = p; listed = n; formed = q; copy = (copy_refused p (past x.sender) (formed_on q)).0 (r ∙ ap refused (same_refusal h)) }
      by_step n p q (given y) r h = absurd (never_outcome x.sender p y.ended h)

      by_own : names roster x.sender ≡ true → (a : Answer Packet) → own_packet x ≡ a → comes_to x.sender (past x.sender) a ≡ H.Refused 47 → BringsCopy roster xs x
      by_own n (given p) q h = by_step n p q (answer p) refl h
      by_own n (refused m) q h =
          absurd (never_47 roster x (placed_listed roster x (seat_listed roster x.sender n).1 ∙ ap (mapped (at (seat_listed roster x.sender n).0)) (q ∙ ap refused (same_refusal h))))

      there : (t : Bool) → names roster x.sender ≡ t → (fed_frame (state_of roster past) x).happened ≡ H.Refused 47 → BringsCopy roster xs x
      there true n h = by_own n (own_packet x) refl (sym (listed_comes n) ∙ h)
      there false n h = let r = placed_unlisted roster x n in absurd (never_47 roster x (r.1 ∙ ap refused (same_refusal (sym (unlisted_comes r.1) ∙ h))))

      back : BringsCopy roster xs x → (fed_frame (state_of roster past) x).happened ≡ H.Refused 47
      back w =
          listed_comes w.listed
          ∙ ap (comes_to x.sender (past x.sender)) w.formed
          ∙ ap (came_to x.sender w.packet) ((copy_refused w.packet (past x.sender) (formed_on w.formed)).1 w.copy)
