-- What numbers tell: an answer of a cursor.
use Rattle.std.proofs.Common.{◌≡◌, cond, eqb, refl, ap, ◌∙◌, ne_eqb}
use Rattle.frames.specs.Cursors.{reached_in}
use Rattle.frames.specs.declared.cursor.Next as Next
use Rattle.frames.specs.declared.cursor.Reached.{Reached}

-- ---- an answer

abbrev answer_in : Reached → Next.Next
answer_in r =
    cond (eqb r.number 0) (Next.TheVariants.Frame r.frame r.cursor)
    (cond (eqb r.number 1) (Next.TheVariants.End r.cursor)
    (Next.TheVariants.Needs r.needed r.cursor))

same : (n : Next.Next) → answer_in (reached_in n) ≡ n
same (Next.TheVariants.Frame f c) = refl
same (Next.TheVariants.End c) = refl
same (Next.TheVariants.Needs n c) = refl

module _ (r : Reached) (n : Next.Next) (e : r ≡ reached_in n) where
  answers : answer_in r ≡ n
  answers = ap answer_in e ∙ same n

  pub tells_frame : r.number ≡ 0 → Next.TheVariants.Frame r.frame r.cursor ≡ n
  tells_frame h = rw h at answers

  pub tells_end : r.number ≡ 1 → Next.TheVariants.End r.cursor ≡ n
  tells_end h = rw h at answers

  pub tells_needs : ((Unit {0} × (r.number ≡ 0 → ⊥)) × (r.number ≡ 1 → ⊥)) → Next.TheVariants.Needs r.needed r.cursor ≡ n
  tells_needs h = rw (ne_eqb r.number 0 h.0.1, ne_eqb r.number 1 h.1) at answers
