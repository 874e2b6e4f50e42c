-- `text::put_number` meets its contract.
use Rattle.std.proofs.Common.{◌≡◌, ℕ, ◌+◌, ◌-◌, List, [], ◌∷◌, length, set, sym, ap, ◌∙◌, ap₂, arith}
use lib.Seq.{sets}
use Rattle.text.specs.Decimal.{decimal}
use Rattle.text.proofs.Filling.{last_first}
use Rattle.text.proofs.put_number.Goals as goal

pub returns : goal.returns
returns c =
    let a = c.args in
    let room = c.requires.n_len_bound in
    let at = a.end - (length (decimal a.n) + 1) in
    let here : c.put_digits-at.result - 1 ≡ at = omega (arith, c.put_digits-at.ensures.value) in
    let behind : a.end - length (decimal a.n) ≡ at + 1 = omega arith in record {
      value = here;
      buf_after = ap₂ (λ (t : List ℕ) (j : ℕ). set t j 32) (c.put_digits-at.ensures.buf_after ∙ ap (λ (j : ℕ). sets a.buf.now j (decimal a.n)) behind) here
          ∙ sym (last_first a.buf.now at (32 ∷ []) (decimal a.n));
    }
