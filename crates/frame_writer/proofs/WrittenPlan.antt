-- What a plan answers, test by test; and an answer tells that the frame fits.
use mathlib.Core.Path.{◌≡◌, sym, ap, ◌∙◌}
use Prim.Native.Nat.{ℕ, ◌+◌, ◌≤◌, ◌<◌}
use borrow.Author.Tests.{le-leb, lt-leb, leb-true}
use Rattle.refusals.specs.Refusals.{refused, given, Answer}
use Rattle.refusals.proofs.Ordered.{exactly_all}
use Rattle.std.specs.Prelude.{Result}
use Rattle.refusals.specs.Numbers.{answer_of}
use Rattle.refusals.specs.declared.Refusal.{Refusal}
use Rattle.frame_writer.specs.Writer.{writing_frame, planned}

-- what a call answered, once its result is known
pub known : {o w : Result ℕ Refusal} {a : Answer ℕ} → answer_of o ≡ a → o ≡ w → a ≡ answer_of w
known p e = sym p ∙ ap answer_of e

module _ (n room : ℕ) where
  pub planned_31 : 255 < n → planned n room ≡ refused 31
  unfolding planned
  planned_31 h = rw (lt-leb n 255 h)

  pub planned_32 : n ≤ 255 → room < n + 8 → planned n room ≡ refused 32
  unfolding planned
  planned_32 h k = rw (le-leb n 255 h, lt-leb (n + 8) room k)

  pub planned_given : n ≤ 255 → n + 8 ≤ room → planned n room ≡ given (n + 8)
  unfolding planned
  planned_given h k = rw (le-leb n 255 h, le-leb (n + 8) room k)

  pub fits : {m : ℕ} → planned n room ≡ given m → (n ≤ 255) × (n + 8 ≤ room)
  unfolding planned
  fits {m} g = let pass = ((exactly_all (n + 8) (writing_frame n room) m).0 g).0 in (leb-true n 255 pass.0, leb-true (n + 8) room pass.1.0)
