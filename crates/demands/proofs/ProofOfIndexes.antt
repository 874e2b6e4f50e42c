-- What an index answers, of calls by what their contracts ensure.
use mathlib.Core.Path.{◌≡◌, refl, sym, ap, ◌∙◌}
use mathlib.Core.List.{List}
use Prim.Native.Nat.{ℕ}
use native.Mathlib.Omega.{arith}
use seplogic.Ra.Ura.{Ura}
use base.Logic.{SProp, ent, sep, fst∗, snd∗, via}
use prog.Memory.{Memory}
use prog.Routine.{Routine}
use types.Logic.{Logic}
use contract.Monad.{Fun, fact, fact_use, fact_i}
use lib.ListN.{length, drop}
use Rattle.indexed.proofs.Grown.{grows, calls_grow, extends_by, extends_in_bytes}
use Rattle.indexed.proofs.Rest.{of_the_rest}
use Rattle.indexed.proofs.BytesBack.{made_in_bytes}
use Rattle.indexed.proofs.Finding.{calls_find, finds_by, entry_found, finds_in_bytes}
use Rattle.indexed.proofs.Counting.{calls_count, counts_by, counts_in_bytes}
use Rattle.layouts.specs.Field.{row_stored}
use Rattle.lent_index.specs.Bytes.{head_fields, count_fields, head_row, count_row, kept_in, make_in, extend_in_bytes, hit_number, place_or}
use Rattle.payloads.specs.Places.{message_count}
use Rattle.refusals.specs.Refusals.{Answer, given, refused, as_number, leaves, zero_or}
use Rattle.refusals.specs.Numbers.{answer_of}
use Rattle.refusals.specs.declared.Refusal.{Refusal}
use Rattle.std.specs.Prelude.{Option, Some, None, Result, Ok, Err}
use Rattle.index.specs.Index.{sought_answer}
use Rattle.index.specs.declared.index.Index.{Index}
use Rattle.index.specs.declared.asking.Found.{Found}
use Rattle.demands.proofs.StatesLeft.{after_row, after_rows}
use Rattle.demands.specs.Indexes as stated
use Rattle.demands.specs.Indexes.{sought_number, sought_place, count_number, count_total}

-- the cases as numbers are those of the answers that the contracts speak of
number_told : (a : Result (Option Found) Refusal) → sought_number a ≡ as_number hit_number (sought_answer a)
number_told (Ok (Some f)) = refl
number_told (Ok None) = refl
number_told (Err e) = refl

place_told : (a : Result (Option Found) Refusal) → sought_place a ≡ leaves place_or (sought_answer a) 0
place_told (Ok (Some f)) = refl
place_told (Ok None) = refl
place_told (Err e) = refl

count_told : (c : Result ℕ Refusal) → count_number c ≡ zero_or (answer_of c)
count_told (Ok n) = refl
count_told (Err e) = refl

total_told : (c : Result ℕ Refusal) → count_total c ≡ leaves (λ (m before : ℕ). m) (answer_of c) 0
total_told (Ok n) = refl
total_told (Err e) = refl

-- what is kept lies in the first 208 bytes
alone : (a : Answer Index) (s : List ℕ) → drop 208 (kept_in a s) ≡ drop 208 s
alone (given x) s =
    after_rows 208 count_fields (count_row x.counts) message_count (row_stored head_fields (head_row x) s 0) 16 (omega arith) ∙ after_row 208 head_fields (head_row x) s 0 (omega arith)
alone (refused n) s = refl

module _ {M : Type 1} {𝓤 : Ura M} (𝓛 : Logic 𝓤) (mem : Memory → SProp 𝓤) (run : Routine → Fun 𝓤) where
  -- what follows from a clause, and from two
  one : {Q R : Type 0} (P : SProp 𝓤) → ent 𝓤 P (fact 𝓤 Q) → (Q → R) → ent 𝓤 P (fact 𝓤 R)
  one {Q} {R} P e f = fact_use 𝓤 Q e (λ q. fact_i 𝓤 R P (f q))

  two : {Q Q' R : Type 0} (P : SProp 𝓤) → ent 𝓤 P (sep 𝓤 (fact 𝓤 Q) (fact 𝓤 Q')) → (Q → Q' → R) → ent 𝓤 P (fact 𝓤 R)
  two {Q} {Q'} {R} P e f =
      fact_use 𝓤 Q (via 𝓤 (sep 𝓤 (fact 𝓤 Q) (fact 𝓤 Q')) e (fst∗ 𝓤 (fact 𝓤 Q) (fact 𝓤 Q')))
      (λ q. fact_use 𝓤 Q' (via 𝓤 (sep 𝓤 (fact 𝓤 Q) (fact 𝓤 Q')) e (snd∗ 𝓤 (fact 𝓤 Q) (fact 𝓤 Q'))) (λ r. fact_i 𝓤 R P (f q r)))

  three : {Q Q' Q'' R : Type 0} (P : SProp 𝓤) → ent 𝓤 P (sep 𝓤 (fact 𝓤 Q) (sep 𝓤 (fact 𝓤 Q') (fact 𝓤 Q''))) → (Q → Q' → Q'' → R) → ent 𝓤 P (fact 𝓤 R)
  three {Q} {Q'} {Q''} {R} P e f =
      fact_use 𝓤 Q (via 𝓤 (sep 𝓤 (fact 𝓤 Q) (sep 𝓤 (fact 𝓤 Q') (fact 𝓤 Q''))) e (fst∗ 𝓤 (fact 𝓤 Q) (sep 𝓤 (fact 𝓤 Q') (fact 𝓤 Q''))))
      (λ q. two P (via 𝓤 (sep 𝓤 (fact 𝓤 Q) (sep 𝓤 (fact 𝓤 Q') (fact 𝓤 Q''))) e (snd∗ 𝓤 (fact 𝓤 Q) (sep 𝓤 (fact 𝓤 Q') (fact 𝓤 Q'')))) (f q))

  pub answers_as_reading : stated.AnswersAsReading 𝓛 mem run
  answers_as_reading = record {
    grows = grows;
    rest = of_the_rest;
    extend_calls = calls_grow 𝓤 stated.extend_came _
        (λ P k e. three P e (λ p q r. extends_by 208 k.index.now k.capture.now k.entries.now (zero_or (answer_of k.result)) k.after.now k.left.now p q r));
    sbp_extend_calls = calls_grow 𝓤 stated.linked_extend_came _
        (λ P k e. one P e (λ p. extends_in_bytes k.index.now k.kept.now k.capture.now k.entries.now k.left.now k.number k.bytes k.small k.few p.0 p.1 p.2));
    sbp_index_made = λ P lives bytes kept e. two P e (λ n q. made_in_bytes bytes.now kept.now (sym n) q);
    index_numbers = λ s. (refl, refl);
    sbp_index_alone = λ P lives bytes kept n e. two P e (λ m q. ap (drop 208) q ∙ alone (make_in bytes.now) bytes.now);
    sbp_extend_alone = λ P k e.
        one P e (λ p. ap (drop 208) p.1 ∙ alone (extend_in_bytes k.index.now k.capture.now (length k.entries.now)) k.index.now);
    first_calls = calls_find 𝓤 stated.first_came _ (λ P k e. one P e (λ p. finds_by 208 k.index.now k.entries.now k.kind k.sender k.offset 0 (sought_number k.result) (sought_place k.result) k.result p (number_told k.result) (place_told k.result)));
    first_entry = λ P t k i e so is of. one P so (λ p. entry_found 208 k.index.now k.entries.now k.kind k.sender k.offset t k.result p is of);
    sbp_first_calls = calls_find 𝓤 stated.linked_first_came _
        (λ P k e. one P e (λ p. finds_in_bytes k.index.now k.entries.now k.kind k.sender k.offset k.place.now k.found.now k.number p.0 p.1));
    count_calls = calls_count 𝓤 stated.count_came _ (λ P k e. one P e (λ p. counts_by 208 k.index.now k.kind 0 (count_number k.result) (count_total k.result) k.result p (count_told k.result) (total_told k.result)));
    sbp_count_calls = calls_count 𝓤 stated.linked_count_came _
        (λ P k e. two P e (λ n q. counts_in_bytes k.index.now k.kind k.count.now k.total.now k.number n q));
  }
