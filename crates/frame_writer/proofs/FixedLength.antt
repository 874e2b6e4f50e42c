-- Writing a message of one length, whose type and length are numbers that the code has beside its description.
use mathlib.Core.Path.{◌≡◌, sym, ap, ap₂, ◌∙◌}
use mathlib.Core.Bool.{true}
use mathlib.Core.List.{List}
use Prim.Native.Nat.{ℕ}
use lib.ListN.{length}
use Rattle.layouts.specs.Layout.{allowed_body, body_size}
use Rattle.layouts.specs.Inner.{body_stored}
use Rattle.layouts.specs.Description.{Description, Fixed}
use Rattle.refusals.specs.Refusals.{refused, given, Answer}
use Rattle.senders.specs.declared.Writer.{Writer}
use Rattle.frame_writer.specs.Writer.{planned, sealed}
use Rattle.frame_writer.proofs.Promised.{Wrote, wrote, wrote_nothing}

module _ {R : Type 0} (d : Description R) {kind n : ℕ} (fixed : Fixed d kind n) (w : Writer) (r : R) (buf : List ℕ) where
  module _ (e : allowed_body d.layout (d.row r) ≡ true) {l : ℕ} (of_length : l ≡ n) {a : Answer ℕ} (plan : a ≡ planned l (length buf)) where
    sized : l ≡ body_size d.layout (d.row r)
    sized = of_length ∙ sym (fixed.size (d.row r))

    own : a ≡ planned (body_size d.layout (d.row r)) (length buf)
    own = plan ∙ ap (λ (m : ℕ). planned m (length buf)) sized

    -- the frame has no room
    pub left_as_it_was : {m : ℕ} → a ≡ refused m → Wrote d w r buf a buf
    left_as_it_was q = wrote_nothing d w r buf e (fixed.few (d.row r)) own (sym own ∙ q)

    -- its parts were stored, and sealed with this type and length
    pub put_and_sealed : {m k j : ℕ} {t u : List ℕ} → a ≡ given m → k ≡ kind → j ≡ n → t ≡ body_stored d.layout (d.row r) buf 6 → u ≡ sealed k w j t → Wrote d w r buf a u
    put_and_sealed {t = t} q of_kind again p s =
        wrote d w r buf e (fixed.few (d.row r)) own (sym own ∙ q) p
        (s ∙ ap₂ (λ (k m : ℕ). sealed k w m t) (of_kind ∙ sym fixed.of_kind) (again ∙ sym (fixed.size (d.row r))))
