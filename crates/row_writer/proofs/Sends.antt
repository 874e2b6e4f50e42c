-- What a call answers and leaves; and a payload sent: as every frame where its type takes it, else refused.
use mathlib.Core.Path.{◌≡◌, refl, sym, ap, ◌∙◌, subst}
use mathlib.Core.List.{List}
use Prim.Native.Nat.{ℕ}
use lib.ListN.{length}
use borrow.Author.Tests.{eq-eqb, ne_eqb}
use Rattle.refusals.specs.Refusals.{refused, Answer, leaves}
use Rattle.senders.specs.declared.Writer.{Writer}
use Rattle.frame_writer.specs.Writer.{planned, starting_with, framed_by, with_frame}
use Rattle.payloads.specs.Payloads.{answer_for}
use Rattle.row_writer.specs.Inner.{sent}

module _ (kind : ℕ) (by : Writer) (out : List ℕ) where
  -- the answer, and the buffer with a frame of a payload, where a call gives an answer
  abbrev pub LeftBy : List ℕ → Answer ℕ → Answer ℕ → List ℕ → Type 0
  LeftBy s a r u = (r ≡ a) × (u ≡ leaves (starting_with (framed_by kind by s)) a out)

  module _ (s : List ℕ) where
    pub left_as : (a b : Answer ℕ) {r : Answer ℕ} {u : List ℕ} → LeftBy s a r u → a ≡ b → LeftBy s b r u
    left_as a b w e = (w.0 ∙ e, w.1 ∙ ap (λ (a : Answer ℕ). leaves (starting_with (framed_by kind by s)) a out) e)

    -- a refusal leaves all as it was
    pub left_alone : {n : ℕ} (b : Answer ℕ) → b ≡ refused n → LeftBy s b (refused n) out
    left_alone {n} b e = left_as (refused n) b (refl, refl) (sym e)

    -- the same of a payload that is equal
    pub left_of : (f : List ℕ → Answer ℕ) {q : List ℕ} {r : Answer ℕ} {u : List ℕ} → q ≡ s → LeftBy q (f q) r u → LeftBy s (f s) r u
    left_of f {r = r} {u = u} e w = subst (λ (q : List ℕ). LeftBy q (f q) r u) e w

    -- the frame's writer was asked
    pub sent_on : 0 ≡ answer_for kind s → {r : Answer ℕ} {u : List ℕ} → r ≡ planned (length s) (length out) → u ≡ with_frame kind by s out
        → LeftBy s (sent kind s (length out)) r u
    unfolding sent planned with_frame
    sent_on z p q = left_as (planned (length s) (length out)) (sent kind s (length out)) (p, q) (rw (eq-eqb (answer_for kind s) 0 (sym z)))

    pub sent_not : {n : ℕ} → n ≡ answer_for kind s → (n ≡ 0 → ⊥) → LeftBy s (sent kind s (length out)) (refused 23) out
    unfolding sent
    sent_not p h = left_alone (sent kind s (length out)) (rw (ne_eqb (answer_for kind s) 0 (λ z. h (p ∙ z))))
