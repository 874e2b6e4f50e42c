-- The number that a frame carries is document 02's.
use mathlib.Core.Path.{◌≡◌, refl, sym, ap, ◌∙◌}
use mathlib.Core.Bool.{Bool, true, false, cond}
use Prim.Native.Nat.{ℕ, ◌≤◌, ◌<◌}
use native.Mathlib.Omega.{arith}
use lib.Dec.{ltb, lit≤}
use borrow.Author.Tests.{ltb-true}
use Rattle.senders.specs.Senders.{obeyed_from42, carried_by, carried, HeldSender}
use Rattle.senders.specs.Carries.{NotAs42, Carries, CarriesLinked}
use Rattle.std.specs.Prelude.{Option, None, Some}
use Rattle.senders.specs.declared.Writer.{Writer}
use Rattle.senders.proofs.Numbers.{not_obeyed, linked_given, linked_none}
pub use Rattle.senders.proofs.Numbers.{carried_small}

-- by the sender that is given
pub as_given : (kind : ℕ) (w : Writer) {s : Option ℕ} → w.sender ≡ s → carried_by kind w.own s ≡ carried kind w
unfolding carried
as_given kind w e = ap (carried_by kind w.own) (sym e)

-- where none is, by the type
pub unnamed : (kind : ℕ) (w : Writer) (t : Bool) → w.sender ≡ None → obeyed_from42 kind ≡ t → cond t 0x42 w.own ≡ carried kind w
unnamed kind w t none e = ap (λ (t : Bool). cond t 0x42 w.own) (sym e) ∙ as_given kind w none

own_number : (kind own : ℕ) → NotAs42 kind → carried kind (record { own = own; sender = None }) ≡ own
unfolding carried
own_number kind own h = rw (not_obeyed kind h)

pub carries : Carries
unfolding carried
carries = record {
  own = own_number;
  request = λ own. refl;
  save = λ own. refl;
  given = λ kind own n. refl;
  apart = λ kind m n h e. sym (own_number kind m h) ∙ e ∙ own_number kind n h;
  held = λ own h. record { own = h; sender = tt };
  held_given = λ own n h k. record { own = h; sender = k };
}

-- ---- as C has it

-- a number that is below another of 16 bits
held_from : (n most : ℕ) → most ≤ 65536 → HeldSender (cond (ltb n most) (Some n) None)
held_from n most few = by (ltb n most) (ltb-true n most)
  where
    by : (t : Bool) → (t ≡ true → n < most) → HeldSender (cond t (Some n) None)
    by true h = omega (arith, h refl)
    by false h = tt

pub carries_linked : CarriesLinked
carries_linked = record {
  given = linked_given;
  own = λ kind own n h other. linked_none kind own n h ∙ carries.own kind own other;
  request = λ own n h. linked_none 0x00a2 own n h ∙ carries.request own;
  save = λ own n h. linked_none 0x00a1 own n h ∙ carries.save own;
  held = λ own n h. record { own = h; sender = held_from n _ (lit≤ tt) };
}
