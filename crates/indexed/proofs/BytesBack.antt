-- An index stored in bytes is the one that the bytes stand for; and so the one that a call left there, made or extended.
use mathlib.Core.Path.{◌≡◌, refl, sym, ap, ◌∙◌, subst}
use mathlib.Core.Bool.{Bool, true, false, cond}
use mathlib.Core.List.{List, [], ◌∷◌}
use Prim.Native.Nat.{ℕ, zero, suc, ◌+◌, ◌*◌, ◌/◌, ◌^◌, ◌≤◌, ◌<◌}
use native.Mathlib.Omega.{arith}
use lib.Dec.{eqb, leb, lit<}
use lib.ListN.{length, get_or, set, length-set, get_or-replicate}
use lib.Seq.{sets, get_or-set_same, get_or-set_other}
use borrow.Author.Tests.{eqb-true, eqb-false}
use Rattle.refusals.specs.Refusals.{Answer, given, refused, zero_or}
use Rattle.wire.specs.Number.{Bytes, bytes_of, stored_at}
use Rattle.wire.specs.Value.{width, bits_of, value_stored}
use Rattle.wire.specs.Tabulated.{tabulated}
use Rattle.wire.proofs.Numbers.{number_lt}
use Rattle.wire.proofs.Tables.{tabulated_at, tabulated_all}
use Rattle.layouts.specs.Field.{Field, format_of, Row, size, decode, row_stored}
use Rattle.layouts.proofs.Fields.{length-row}
use Rattle.lent_rows.specs.Lent.{first_rows_stored}
use Rattle.lent_rows.proofs.Parts.{decode_stored}
use Rattle.lent_rows.proofs.Tables.{rows_own, rows_before}
use Rattle.frames.specs.Cursors.{plus}
use Rattle.frames.specs.declared.step.Frame.{Frame}
use Rattle.payloads.specs.Places.{message_count, place_for}
use Rattle.index.specs.Index.{frames_from, counted, counted_all, empty, extended}
use Rattle.index.specs.declared.index.Index.{Index}
use Rattle.lent_index.specs.Bytes.{index_size, head_fields, count_fields, counts_at, count_at, index_from_bytes, head_row, count_row, index_stored, make_in, kept_in}
use Rattle.indexed.proofs.InBytes.{in_bytes_lem}
use Rattle.indexed.proofs.ReadsOn.{stop_inside}

-- ---- an index that its bytes hold

abbrev SmallCounts : List ℕ → Type 0
SmallCounts counts = (length counts ≡ message_count) × ((i : ℕ) → i < message_count → get_or counts i 0 < 2 ^ 64)

pub record Small (x : Index) : Type 0 where
  pub reached : x.reached < 2 ^ 64
  pub held : x.held < 2 ^ 64
  pub counts : SmallCounts x.counts

module _ (x : Index) (h : Small x) (b : List ℕ) (long : index_size ≤ length b) where
  abbrev first : List ℕ
  first = row_stored head_fields (head_row x) b 0

  first_long : index_size ≤ length first
  first_long = omega (arith, length-row head_fields (head_row x) b 0)

  head_back : decode head_fields (index_stored x b) 0 ≡ head_row x
  head_back =
      rows_before count_fields (count_row x.counts) first counts_at head_fields 0 message_count (omega (arith, first_long)) (omega arith)
      ∙ decode_stored head_fields (head_row x) b 0 (omega arith) (record { fits = h.reached }, (record { fits = h.held }, tt)) (refl, (refl, tt))

  count_back : (j : ℕ) → j < message_count → count_at (index_stored x b) j ≡ get_or x.counts j 0
  count_back j less =
      ap (λ (v : Row count_fields). v.0)
      (rows_own count_fields (count_row x.counts) first counts_at message_count (omega (arith, first_long))
      (λ k d. ((record { fits = h.counts.1 k d }, tt), (refl, tt))) j less)

  pub index_stored_lem : index_from_bytes (index_stored x b) ≡ x
  index_stored_lem =
      let c = index_stored x b in
      let counts : tabulated (count_at c) message_count ≡ x.counts
      = ap (tabulated (count_at c)) (sym h.counts.0)
      ∙ tabulated_all (count_at c) x.counts 0 (λ j less. count_back j (omega (arith, h.counts.0))) in
      λ k. record { reached = (head_back k).0; held = (head_back k).1.0; counts = counts k }

-- ---- an index that came out of bytes, extended

tabulated_long : (f : ℕ → ℕ) (n : ℕ) → length (tabulated f n) ≡ n
unfolding tabulated
tabulated_long f zero = refl
tabulated_long f (suc n) = ap suc (tabulated_long (λ k. f (suc k)) n)

counts_in : (b : List ℕ) → Bytes b → SmallCounts (index_from_bytes b).counts
counts_in b bytes = (
  tabulated_long (count_at b) message_count,
  λ i less. subst (λ (n : ℕ). n < 2 ^ 64) (sym (tabulated_at (count_at b) message_count i 0 less)) (number_lt 8 b (counts_at + i * size count_fields) bytes),
)

-- a sum that wraps is small
small_counted : (counts : List ℕ) (kind : ℕ) → SmallCounts counts → SmallCounts (counted counts kind)
unfolding counted
small_counted counts kind (long, small) = (length-set counts (place_for kind) one_more ∙ long, λ i less. by i less (eqb i (place_for kind)) refl)
  where
    one_more : ℕ
    one_more = plus (get_or counts (place_for kind) 0) 1

    by : (i : ℕ) → i < message_count → (t : Bool) → eqb i (place_for kind) ≡ t → get_or (set counts (place_for kind) one_more) i 0 < 2 ^ 64
    by i less true e =
        let here : i ≡ place_for kind = eqb-true i (place_for kind) e in
        let there : place_for kind < length counts = omega (arith, here, less, long) in
        let fits : one_more < 2 ^ 64 = omega arith in
        subst (λ (n : ℕ). n < 2 ^ 64)
        (sym (ap (λ (k : ℕ). get_or (set counts (place_for kind) one_more) k 0) here ∙ get_or-set_same counts (place_for kind) one_more 0 there)) fits
    by i less false e =
        subst (λ (n : ℕ). n < 2 ^ 64) (sym (get_or-set_other counts (place_for kind) i one_more 0 (eqb-false i (place_for kind) e))) (small i less)

small_all : (counts : List ℕ) (fs : List Frame) → SmallCounts counts → SmallCounts (counted_all counts fs)
unfolding counted_all
small_all counts [] small = small
small_all counts (f ∷ fs) small = small_all (counted counts f.kind) fs (small_counted counts f.kind small)

small_extended : (s : List ℕ) (most : ℕ) (x : Index) → length s < 2 ^ 64 → most < 2 ^ 64 → x.reached ≤ length s
    → x.held + length (frames_from s x.reached) ≤ most → SmallCounts x.counts → Small (extended s x)
unfolding extended
small_extended s most x short few inside room small =
    record {
      reached = omega (arith, stop_inside s x.reached inside);
      held = omega arith;
      counts = small_all x.counts (frames_from s x.reached) small;
    }

-- what is left once it is extended stands for the index extended
pub extended_back : (b c s : List ℕ) (most : ℕ) → Bytes b → length s < 2 ^ 64 → most < 2 ^ 64 → index_size ≤ length b
    → (index_from_bytes b).reached ≤ length s → (index_from_bytes b).held + length (frames_from s (index_from_bytes b).reached) ≤ most
    → c ≡ index_stored (extended s (index_from_bytes b)) b → index_from_bytes c ≡ extended s (index_from_bytes b)
extended_back b c s most bytes short few long inside room e =
    ap index_from_bytes e ∙ index_stored_lem (extended s (index_from_bytes b)) (small_extended s most (index_from_bytes b) short few inside room (counts_in b bytes)) b long

-- ---- an index made in bytes

small_empty : Small empty
small_empty = record {
  reached = omega arith;
  held = omega arith;
  counts = (refl, λ i less. subst (λ (n : ℕ). n < 2 ^ 64) (sym (get_or-replicate message_count i 0 0 less)) (omega arith));
}

pub made_in_bytes : (b c : List ℕ) → zero_or (make_in b) ≡ 0 → c ≡ kept_in (make_in b) b → index_from_bytes c ≡ empty
unfolding make_in
made_in_bytes b c =
    in_bytes_lem b (record { tests = []; value = empty }) (λ a. zero_or a ≡ 0 → c ≡ kept_in a b → index_from_bytes c ≡ empty)
    (λ long z q. ap index_from_bytes q ∙ index_stored_lem empty small_empty b long) (λ z q. absurd (omega (arith, z)))

-- ---- bytes stay bytes

bytes_set : (s : List ℕ) (i v : ℕ) → v < 256 → Bytes s → Bytes (set s i v)
bytes_set [] i v small h j = h j
bytes_set (x ∷ s) zero v small h zero = small
bytes_set (x ∷ s) zero v small h (suc j) = h (suc j)
bytes_set (x ∷ s) (suc i) v small h zero = h zero
bytes_set (x ∷ s) (suc i) v small h (suc j) = bytes_set s i v small (λ k. h (suc k)) j

bytes_sets : (vs s : List ℕ) (i : ℕ) → Bytes vs → Bytes s → Bytes (sets s i vs)
bytes_sets [] s i small h = h
bytes_sets (v ∷ vs) s i small h = bytes_sets vs (set s i v) (suc i) (λ k. small (suc k)) (bytes_set s i v (small zero) h)

bytes_of_lem : (w n : ℕ) → Bytes (bytes_of w n)
unfolding bytes_of
bytes_of_lem zero n i = lit< tt
bytes_of_lem (suc w) n zero = omega arith
bytes_of_lem (suc w) n (suc i) = bytes_of_lem w (n / 256) i

bytes_stored : (w n : ℕ) (s : List ℕ) (at : ℕ) → Bytes s → Bytes (stored_at w n s at)
unfolding stored_at
bytes_stored w n s at h = by (leb (at + w) (length s))
  where
    by : (t : Bool) → Bytes (cond t (sets s at (bytes_of w n)) s)
    by true = bytes_sets (bytes_of w n) s at (bytes_of_lem w n) h
    by false = h

bytes_row : (fs : List Field) (v : Row fs) (s : List ℕ) (at : ℕ) → Bytes s → Bytes (row_stored fs v s at)
bytes_row [] v s at h = h
bytes_row (f ∷ fs) v s at h =
    bytes_row fs v.1 (value_stored (format_of f) v.0 s at) (at + width (format_of f))
    (bytes_stored (width (format_of f)) (bits_of (format_of f) v.0) s at h)

bytes_rows : (fs : List Field) (row : ℕ → Row fs) (n : ℕ) (s : List ℕ) (at : ℕ) → Bytes s → Bytes (first_rows_stored fs row n s at)
unfolding first_rows_stored
bytes_rows fs row zero s at h = h
bytes_rows fs row (suc n) s at h = bytes_row fs (row n) (first_rows_stored fs row n s at) (at + n * size fs) (bytes_rows fs row n s at h)

pub bytes_kept : (a : Answer Index) (b : List ℕ) → Bytes b → Bytes (kept_in a b)
bytes_kept (given x) b h =
    bytes_rows count_fields (count_row x.counts) message_count (row_stored head_fields (head_row x) b 0) counts_at (bytes_row head_fields (head_row x) b 0 h)
bytes_kept (refused n) b h = h
