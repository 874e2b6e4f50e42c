-- Calls of `sbp_next` while a capture grows: a row stays, and the rows of calls that go on are together that of one call.
use mathlib.Core.Path.{◌≡◌, refl, sym, ap, ◌∙◌, subst, subst⁻¹}
use mathlib.Core.Bool.{Bool, true, false, cond}
use mathlib.Core.List.{List, []}
use Prim.Native.Nat.{ℕ, ◌+◌, ◌%◌, ◌^◌, ◌≤◌, ◌<◌}
use native.Mathlib.Nat.{add-zero, mod-eq_of_lt}
use native.Mathlib.Omega.{arith}
use lib.Dec.{leb}
use lib.ListN.{length, take, drop, length-append}
use Rattle.refusals.specs.Refusals.{refused, Answer, ordered, leaves, as_number, room_for}
use Rattle.frames.specs.Step.{payload_in}
use Rattle.frames.specs.Reading.{sum_of}
use Rattle.frames.specs.Cursors.{counts_in, plus, next_of, after}
use Rattle.stays.specs.Stays.{Leads, Stands}
use Rattle.frames.specs.declared.cursor.Counts.{Counts}
use Rattle.frames.specs.declared.cursor.Cursor.{Cursor}
use Rattle.frames.specs.declared.cursor.Next as Next
use Rattle.stays.proofs.Staying.{SamePayload, Lasting, lasting}
use Rattle.lent_rows.specs.Lent.{at_front}
use Rattle.frame_rows.specs.Found.{found_size, found_fields, found_values, start_at, found_in, number_in, next_from, next_answer, next_stored}
use Rattle.frame_rows.specs.declared.reading.FoundRow.{FoundRow}
use Rattle.demands.specs.RowsStay.{open_next, open_row, Together, RowsStay}
use Rattle.demands.proofs.CountsAhead.{ahead, ahead_in, next_ahead, Bounded, bounded}

-- with counts in front a row shows the same, and counts that much more
abbrev counting : Counts → FoundRow → FoundRow
counting k r = record {
  at = r.at;
  next = r.next;
  needed = r.needed;
  junk = plus k.junk r.junk;
  bad = plus k.bad r.bad;
  short = plus k.short r.short;
  kind = r.kind;
  sender = r.sender;
  length = r.length;
}

row_ahead : (k : Counts) (n : Next.Next) → found_in (ahead_in k n) ≡ counting k (found_in n)
row_ahead k (Next.TheVariants.Frame f c) = refl
row_ahead k (Next.TheVariants.End c) = refl
row_ahead k (Next.TheVariants.Needs n c) = refl

number_ahead : (k : Counts) (n : Next.Next) → number_in (ahead_in k n) ≡ number_in n
number_ahead k (Next.TheVariants.Frame f c) = refl
number_ahead k (Next.TheVariants.End c) = refl
number_ahead k (Next.TheVariants.Needs n c) = refl

-- a row has the counts of the cursor that was handed back, and its position as `next`
row_counts : (n : Next.Next) → ((found_in n).junk ≡ (after n).junk) × ((found_in n).bad ≡ (after n).bad) × ((found_in n).short ≡ (after n).short)
row_counts (Next.TheVariants.Frame f c) = (refl, refl, refl)
row_counts (Next.TheVariants.End c) = (refl, refl, refl)
row_counts (Next.TheVariants.Needs n c) = (refl, refl, refl)

row_next : (n : Next.Next) → (found_in n).next ≡ (after n).at
row_next (Next.TheVariants.Frame f c) = refl
row_next (Next.TheVariants.End c) = refl
row_next (Next.TheVariants.Needs n c) = refl

together : (m n : Next.Next) → sum_of (counts_in (after m)) + sum_of (counts_in (after n)) < 2 ^ 64 → Together (found_in m) (found_in n) (counting (counts_in (after m)) (found_in n))
together m n l =
    let one = row_counts m in
    let other = row_counts n in
    record {
      at = refl;
      next = refl;
      needed = refl;
      junk = sum (found_in n).junk one.0 (omega (arith, other.0));
      bad = sum (found_in n).bad one.1 (omega (arith, other.1));
      short = sum (found_in n).short one.2 (omega (arith, other.2));
      kind = refl;
      sender = refl;
      length = refl;
    }
  where
    sum : {a k : ℕ} (b : ℕ) → a ≡ k → k + b < 2 ^ 64 → a + b ≡ plus k b
    sum b e l = ap (λ (x : ℕ). x + b) e ∙ sym (mod-eq_of_lt l)

module _ (s t : List ℕ) (leads : Leads s t) (small : length t < 2 ^ 64) where
  longer : length s ≤ length t
  longer = omega (arith, ap length leads.1, length-append s leads.0)

  s_small : length s < 2 ^ 64
  s_small = omega (arith, longer)

  module _ (at : ℕ) where
    lasts : Lasting s t (start_at at true) (open_next s at)
    lasts = lasting s t leads small (start_at at true) refl

    -- ---- a frame that was shown

    same_found : number_in (open_next s at) ≡ 0 → open_next t at ≡ open_next s at
    same_found = by (open_next s at) refl
      where
        by : (n : Next.Next) → open_next s at ≡ n → number_in n ≡ 0 → open_next t at ≡ open_next s at
        by (Next.TheVariants.Frame f d) e z = subst (Stands t (start_at at true)) e lasts.stands ∙ sym e
        by (Next.TheVariants.End d) e z = absurd (omega arith)
        by (Next.TheVariants.Needs n d) e z = absurd (omega arith)

    same_payload : number_in (open_next s at) ≡ 0 → take (open_row s at).length (drop ((open_row s at).at + 6) t) ≡ take (open_row s at).length (drop ((open_row s at).at + 6) s)
    unfolding payload_in
    same_payload = by (open_next s at) lasts.payload
      where
        by : (n : Next.Next) → SamePayload s t n → number_in n ≡ 0 → take (found_in n).length (drop ((found_in n).at + 6) t) ≡ take (found_in n).length (drop ((found_in n).at + 6) s)
        by (Next.TheVariants.Frame f d) p z = p
        by (Next.TheVariants.End d) p z = absurd (omega arith)
        by (Next.TheVariants.Needs n d) p z = absurd (omega arith)

    -- an answer of 0 is a frame's
    number_0 : (room : ℕ) → next_answer s at true room ≡ 0 → number_in (open_next s at) ≡ 0
    unfolding next_from
    number_0 room = by (leb found_size room)
      where
        by : (t : Bool) → as_number number_in (cond t (ordered [] (open_next s at)) (refused 32)) ≡ 0 → number_in (open_next s at) ≡ 0
        by true e = e
        by false e = absurd (omega arith)

    same_from : (room : ℕ) → open_next t at ≡ open_next s at → next_from t at true room ≡ next_from s at true room
    unfolding next_from
    same_from room q = ap (ordered (room_for found_size room)) q

    same_row : (buf : List ℕ) → next_answer s at true (length buf) ≡ 0 → (next_answer t at true (length buf) ≡ 0) × (next_stored t at true buf ≡ next_stored s at true buf)
    same_row buf e =
        let same = same_from (length buf) (same_found (number_0 (length buf) e)) in
        (ap (as_number number_in) same ∙ e, ap (λ (a : Answer Next.Next). leaves (λ x. at_front found_fields (found_values (found_in x))) a buf) same)

    -- ---- where none was shown

    module _ (inside : at ≤ length s) (none : number_in (open_next s at) ≡ 0 → ⊥) where
      abbrev d : Cursor
      d = after (open_next s at)

      early : Bounded s s_small at d
      early = bounded s s_small at inside

      -- the cursor that was handed back is one at its position, with its counts in front
      handed_back : d ≡ ahead (counts_in d) (start_at d.at true)
      handed_back = λ i. record {
        at = d.at;
        opened = lasts.mode i;
        framed = alone d.framed (omega (arith, early, s_small)) i;
        junk = alone d.junk (omega (arith, early, s_small)) i;
        bad = alone d.bad (omega (arith, early, s_small)) i;
        short = alone d.short (omega (arith, early, s_small)) i;
      }
        where
          alone : (n : ℕ) → n < 2 ^ 64 → n ≡ plus n 0
          alone n h = sym (ap (λ (k : ℕ). k % 2 ^ 64) (add-zero n) ∙ mod-eq_of_lt h)

      one_call : open_next t at ≡ ahead_in (counts_in d) (open_next t d.at)
      one_call = sym (asked (open_next s at) refl) ∙ ap (next_of t) handed_back ∙ next_ahead t small (counts_in d) (start_at d.at true) refl
        where
          asked : (n : Next.Next) → open_next s at ≡ n → next_of t d ≡ open_next t at
          asked (Next.TheVariants.Frame f e) q = absurd (none (ap number_in q))
          asked (Next.TheVariants.End e) q = ap (λ (m : Next.Next). next_of t (after m)) q ∙ subst (Stands t (start_at at true)) q lasts.stands
          asked (Next.TheVariants.Needs n e) q = ap (λ (m : Next.Next). next_of t (after m)) q ∙ subst (Stands t (start_at at true)) q lasts.stands

      later : Bounded t small d.at (after (open_next t d.at))
      later = bounded t small d.at (omega (arith, early, longer))

      one_row : (q : ℕ) → q ≡ d.at → (number_in (open_next t q) ≡ number_in (open_next t at)) × Together (open_row s at) (open_row t q) (open_row t at)
      one_row q e =
          subst⁻¹ (λ (q : ℕ). (number_in (open_next t q) ≡ number_in (open_next t at)) × Together (open_row s at) (open_row t q) (open_row t at)) e (
            sym (ap number_in one_call ∙ number_ahead (counts_in d) (open_next t d.at)),
            subst⁻¹ (Together (open_row s at) (open_row t d.at)) (ap found_in one_call ∙ row_ahead (counts_in d) (open_next t d.at))
                (together (open_next s at) (open_next t d.at) (omega (arith, early, later))),
          )

      row_goes_on : (number_in (open_next t (open_row s at).next) ≡ number_in (open_next t at)) × Together (open_row s at) (open_row t (open_row s at).next) (open_row t at)
      row_goes_on = one_row (open_row s at).next (row_next (open_next s at))

pub rows_stay : RowsStay
rows_stay = record {
  frame_stays = λ s t leads small at buf e. same_row s t leads small at buf e;
  payload_stays = λ s t leads small at e. same_payload s t leads small at e;
  goes_on = λ s t leads small at inside none. row_goes_on s t leads small at inside none;
}
