-- Extending comes to the index made afresh: of the definitions, and of calls as a contract has them. Whatever calls came before, one that ends on a
-- capture leaves the index of that capture.
use mathlib.Core.Path.{◌≡◌, refl, sym, ap, ap₂, ◌∙◌, subst, subst⁻¹}
use mathlib.Core.Bool.{Bool, true, false, cond}
use mathlib.Core.List.{List, [], ◌∷◌, ◌++◌, append_assoc}
use mathlib.Core.Logic.{◌⊎◌, inl, inr}
use Prim.Native.Nat.{ℕ, ◌+◌, ◌^◌, ◌≤◌, ◌<◌}
use native.Mathlib.Omega.{arith}
use seplogic.Ra.Ura.{Ura}
use base.Logic.{SProp, ent}
use contract.Monad.{fact, fact_use, fact_i}
use lib.Dec.{leb}
use lib.ListN.{length, take, drop, length-append, length-map}
use lib.Seq.{length-take-le, take_at, drop_at}
use borrow.Author.Tests.{leb-true, leb-false}
use Rattle.refusals.specs.Refusals.{Answer, given, leaves, zero_or, reply}
use Rattle.refusals.specs.Refusals as R
use Rattle.wire.specs.Number.{Bytes}
use Rattle.stays.specs.Stays.{Leads}
use Rattle.index.specs.Index.{entry_of, frames_from, entries_from, empty, extended, written, extending, extend_in, index_after, entries_after}
use Rattle.index.specs.declared.entry.Entry.{Entry}
use Rattle.index.specs.declared.index.Index.{Index}
use Rattle.lent_index.specs.Bytes.{index_size, index_from_bytes, kept_in, extend_in_bytes, list_after}
use Rattle.indexed.specs.Growing.{IndexOf, Grows, Extension, Why, Lent, Calls, CallsGrow}
use Rattle.indexed.proofs.InBytes.{in_bytes_lem}
use Rattle.indexed.proofs.BytesBack.{extended_back}
use Rattle.indexed.proofs.Partway.{Partway, begins, gone_on, arrived, one_index}

-- ---- the definitions

module _ (s t : List ℕ) (leads : Leads s t) (small : length t < 2 ^ 64) where
  over : IndexOf t (extended t empty) (entries_from t 0)
  over = arrived t small empty [] (begins t)

  abbrev entries : List Entry
  entries = entries_from s 0 ++ entries_from t (extended s empty).reached

  on : IndexOf t (extended t (extended s empty)) entries
  on = arrived t small (extended s empty) (entries_from s 0) (gone_on s t leads empty [] (begins t))

  both : (extended t (extended s empty) ≡ extended t empty) × (entries ≡ entries_from t 0)
  both = one_index t (extended t (extended s empty)) (extended t empty) entries (entries_from t 0) on over

pub grows : Grows
grows = record {
  afresh = λ t small. arrived t small empty [] (begins t);
  on = λ s t leads small. (both s t leads small).0;
  entries_on = λ s t leads small. (both s t leads small).1;
}

-- ---- one call

-- how many frames it has to hold
abbrev pub needed : Index → List ℕ → ℕ
needed x s = x.held + length (frames_from s x.reached)

-- it ends with the index extended and the new entries written, or is refused and leaves all as it was
pub data Extends (e : Extension) : Type 0 where
  done : e.answer ≡ 0 → e.index.reached ≤ length e.capture → needed e.index e.capture ≤ length e.list
      → e.after ≡ extended e.capture e.index → e.left ≡ written e.index.held (entries_from e.capture e.index.reached) e.list
      → Extends e
  refused : Why e.room e.index e.capture (length e.list) e.answer → e.after ≡ e.index → e.left ≡ e.list → Extends e

not_zero : (room : ℕ) (x : Index) (s : List ℕ) (most n : ℕ) → Why room x s most n → n ≡ 0 → ⊥
not_zero room x s most n (inl (p, _)) z = omega (arith, p, z)
not_zero room x s most n (inr (inl (p, _))) z = omega (arith, p, z)
not_zero room x s most n (inr (inr (p, _, _))) z = omega (arith, p, z)

-- the list with the new entries in it
module _ (s : List ℕ) (x : Index) (list : List Entry) (room : needed x s ≤ length list) where
  abbrev new : List Entry
  new = entries_from s x.reached

  abbrev front : List Entry
  front = take x.held list

  abbrev back : List Entry
  back = drop (x.held + length new) list

  long : length front ≡ x.held
  long = length-take-le x.held list (omega arith)

  as_many : x.held + length new ≡ (extended s x).held
  unfolding extended
  as_many = ap (λ (n : ℕ). x.held + n) (length-map (frames_from s x.reached) entry_of)

  many : length (front ++ new) ≡ (extended s x).held
  many = length-append front new ∙ ap (λ (n : ℕ). n + length new) long ∙ as_many

  taken : take (extended s x).held (written x.held new list) ≡ front ++ new
  taken = take_at (front ++ new) back (extended s x).held many

  kept : take x.held (written x.held new list) ≡ front
  kept = ap (take x.held) (append_assoc front new back) ∙ take_at front (new ++ back) x.held long

  past : drop (extended s x).held (written x.held new list) ≡ drop (extended s x).held list
  past = drop_at (front ++ new) back (extended s x).held many ∙ ap (λ (n : ℕ). drop n list) as_many

-- what is so of an index and the entries that it holds in a list
abbrev Holds : (Index → List Entry → Type 0) → Index → List Entry → Type 0
Holds So x list = So x (take x.held list)

-- of the index extended and the entries with the new ones: so of what a call left
ended : (So : Index → List Entry → Type 0) (s : List ℕ) (x y : Index) (list left : List Entry) → needed x s ≤ length list
    → y ≡ extended s x → left ≡ written x.held (entries_from s x.reached) list
    → So (extended s x) (take x.held list ++ entries_from s x.reached) → Holds So y left
ended So s x y list left room p q so =
    subst⁻¹ (λ (z : Index). Holds So z left) p
    (subst⁻¹ (Holds So (extended s x)) q (subst⁻¹ (So (extended s x)) (taken s x list room) so))

module _ (e : Extension) where
  abbrev held : List Entry
  held = take e.index.held e.list

  -- it keeps an index on its way to that of t
  call_on : (t : List ℕ) → Extends e → Leads e.capture t → Holds (Partway t) e.index e.list → Holds (Partway t) e.after e.left
  call_on t (done zero inside room p q) leads w =
      ended (Partway t) e.capture e.index e.after e.list e.left room p q (gone_on e.capture t leads e.index held w)
  call_on t (refused why p q) leads w = subst⁻¹ (λ (z : Index). Holds (Partway t) z e.left) p (subst⁻¹ (Holds (Partway t) e.index) q w)

  -- and on t itself brings it there
  call_arrives : (t : List ℕ) → length t < 2 ^ 64 → Extends e → e.capture ≡ t → e.answer ≡ 0
      → Holds (Partway t) e.index e.list → Holds (IndexOf t) e.after e.left
  call_arrives t small (done zero inside room p q) there z w =
      ended (IndexOf t) t e.index e.after e.list e.left (subst (λ (s : List ℕ). needed e.index s ≤ length e.list) there room)
      (p ∙ ap (λ (s : List ℕ). extended s e.index) there)
      (q ∙ ap (λ (s : List ℕ). written e.index.held (entries_from s e.index.reached) e.list) there)
      (arrived t small e.index held w)
  call_arrives t small (refused why p q) there z w = absurd (not_zero e.room e.index e.capture (length e.list) e.answer why z)

  -- what it leaves alone
  abbrev Others : Type 0
  Others = (take e.index.held e.left ≡ held) × (drop e.after.held e.left ≡ drop e.after.held e.list)

  call_keeps : Extends e → Others
  call_keeps (done zero inside room p q) = (
    ap (take e.index.held) q ∙ kept e.capture e.index e.list room,
    ap₂ (λ (y : Index) (l : List Entry). drop y.held l) p q ∙ past e.capture e.index e.list room
        ∙ ap (λ (y : Index). drop y.held e.list) (sym p),
  )
  call_keeps (refused why p q) = (ap (take e.index.held) q, ap (drop e.after.held) q)

  abbrev Goes : Type 0
  Goes = (e.after ≡ extended e.capture e.index) × (take e.after.held e.left ≡ held ++ entries_from e.capture e.index.reached)

  call_goes : Extends e → e.answer ≡ 0 → Goes
  call_goes (done zero inside room p q) z = (
    p,
    ap₂ (λ (y : Index) (l : List Entry). take y.held l) p q ∙ taken e.capture e.index e.list room,
  )
  call_goes (refused why p q) z = absurd (not_zero e.room e.index e.capture (length e.list) e.answer why z)

  abbrev AllKept : Type 0
  AllKept = (e.after ≡ e.index) × (e.left ≡ e.list)

  call_refused : Extends e → (e.answer ≡ 0 → ⊥) → AllKept
  call_refused (done zero inside room p q) some = absurd (some zero)
  call_refused (refused why p q) some = (p, q)

  call_why : Extends e → (e.answer ≡ 0 → ⊥) → Why e.room e.index e.capture (length e.list) e.answer
  call_why (done zero inside room p q) some = absurd (some zero)
  call_why (refused why p q) some = why

-- ---- as a contract has them

module _ {M : Type 1} (𝓤 : Ura M) {K : Type 0} (came : K → Extension) (ensured : K → SProp 𝓤)
    (tells : (P : SProp 𝓤) (k : K) → ent 𝓤 P (ensured k) → ent 𝓤 P (fact 𝓤 (Extends (came k)))) where
  module _ (P : SProp 𝓤) (t : List ℕ) where
    -- lent what is on its way
    lent : (x : Index) (es : List Entry) (k : K) → Lent 𝓤 came ensured x es k → Partway t x es → Holds (Partway t) (came k).index (came k).list
    lent x es k (p, q) w = subst⁻¹ (λ (z : Index). Holds (Partway t) z (came k).list) p (subst⁻¹ (Partway t x) q w)

    on_the_way : (ks : List K) (x : Index) (es : List Entry) (y : Index) (fs : List Entry) → Partway t x es → Calls 𝓤 came ensured P t x es ks y fs
        → ent 𝓤 P (fact 𝓤 (Partway t y fs))
    on_the_way [] x es y fs w (p, q, _) = fact_i 𝓤 (Partway t y fs) P (subst (λ (z : Index). Partway t z fs) p (subst (Partway t x) q w))
    on_the_way (k ∷ ks) x es y fs w (l, leads, so, calls) =
        fact_use 𝓤 (Extends (came k)) (tells P k so)
        (λ e. on_the_way ks (came k).after (take (came k).after.held (came k).left) y fs (call_on (came k) t e leads (lent x es k l w)) calls)

    module _ (small : length t < 2 ^ 64) (ks : List K) (x : Index) (es : List Entry) (calls : Calls 𝓤 came ensured P t empty [] ks x es) where
      there : (k : K) → Lent 𝓤 came ensured x es k → (came k).capture ≡ t → ent 𝓤 P (ensured k) → (came k).answer ≡ 0
          → ent 𝓤 P (fact 𝓤 (Holds (IndexOf t) (came k).after (came k).left))
      there k l at so zero =
          fact_use 𝓤 (Partway t x es) (on_the_way ks empty [] x es (begins t) calls)
          (λ w. fact_use 𝓤 (Extends (came k)) (tells P k so)
          (λ e. fact_i 𝓤 (Holds (IndexOf t) (came k).after (came k).left) P (call_arrives (came k) t small e at zero (lent x es k l w))))

  -- two calls left the same index with the same entries
  abbrev Same : K → K → Type 0
  Same k j =
      ((came k).after ≡ (came j).after) × (take (came k).after.held (came k).left ≡ take (came j).after.held (came j).left)

  same : (t : List ℕ) (k j : K) → Holds (IndexOf t) (came k).after (came k).left → Holds (IndexOf t) (came j).after (came j).left → Same k j
  same t k j =
      one_index t (came k).after (came j).after (take (came k).after.held (came k).left) (take (came j).after.held (came j).left)

  -- a call that does not end with 0 has one of these reasons
  calls_why : (P : SProp 𝓤) (k : K) → ent 𝓤 P (ensured k) → ((came k).answer ≡ 0 → ⊥)
      → ent 𝓤 P (fact 𝓤 (Why (came k).room (came k).index (came k).capture (length (came k).list) (came k).answer))
  calls_why P k so some =
      fact_use 𝓤 (Extends (came k)) (tells P k so)
      (λ e. fact_i 𝓤 (Why (came k).room (came k).index (came k).capture (length (came k).list) (came k).answer) P (call_why (came k) e some))

  pub calls_grow : CallsGrow 𝓤 came ensured
  calls_grow = record {
    whole = λ P t small ks x es calls k l at so zero. there P t small ks x es calls k l at so zero;
    afresh = λ P t small ks x es calls k over l at so zero m back again nil.
        fact_use 𝓤 (Holds (IndexOf t) (came k).after (came k).left) (there P t small ks x es calls k l at so zero)
        (λ a. fact_use 𝓤 (Holds (IndexOf t) (came over).after (came over).left) (there P t small [] empty [] (refl, refl, tt) over m back again nil)
        (λ b. fact_i 𝓤 (Same k over) P (same t k over a b)));
    others = λ P k so. fact_use 𝓤 (Extends (came k)) (tells P k so) (λ e. fact_i 𝓤 (Others (came k)) P (call_keeps (came k) e));
    refused = λ P k so some. fact_use 𝓤 (Extends (came k)) (tells P k so) (λ e. fact_i 𝓤 (AllKept (came k)) P (call_refused (came k) e some));
    why = calls_why;
    goes = λ P k so zero. fact_use 𝓤 (Extends (came k)) (tells P k so) (λ e. fact_i 𝓤 (Goes (came k)) P (call_goes (came k) e zero));
  }

-- ---- contracts that say so

module _ (room : ℕ) (x : Index) (s : List ℕ) (list : List Entry) where
  -- an answer: the index extended, where the list has room for it, or a refusal
  data Judged (a : Answer Index) : Type 0 where
    goes : a ≡ given (extended s x) → x.reached ≤ length s → needed x s ≤ length list → Judged a
    stays : (n : ℕ) → a ≡ R.refused n → Why room x s (length list) n → Judged a

  judged : Judged (reply (extending x s (length list)))
  judged = by (leb x.reached (length s)) refl (leb (needed x s) (length list)) refl
    where
      by : (t : Bool) → leb x.reached (length s) ≡ t → (u : Bool) → leb (needed x s) (length list) ≡ u
          → Judged (cond t (cond u (given (extended s x)) (R.refused 51)) (R.refused 52))
      by true e true q = goes refl (leb-true x.reached (length s) e) (leb-true (needed x s) (length list) q)
      by true e false q = stays 51 refl (inr (inr (refl, leb-true x.reached (length s) e, leb-false (needed x s) (length list) q)))
      by false e u q = stays 52 refl (inr (inl (refl, leb-false x.reached (length s) e)))

  abbrev list_left : Answer Index → List Entry
  list_left a = leaves (λ new. written x.held (entries_from s x.reached)) a list

  -- what a call left, by its answer
  extends_as : (a : Answer Index) → Judged a → (n : ℕ) (after : Index) (left : List Entry) → n ≡ zero_or a
      → (x.reached ≤ length s → needed x s ≤ length list → a ≡ given (extended s x) → after ≡ extended s x)
      → ((m : ℕ) → a ≡ R.refused m → after ≡ x)
      → left ≡ list_left a → Extends (record { room = room; index = x; capture = s; list = list; answer = n; after = after; left = left })
  extends_as a (goes e inside fits) n after left num new old l = done (num ∙ ap zero_or e) inside fits (new inside fits e) (l ∙ ap list_left e)
  extends_as a (stays m e why) n after left num new old l =
      refused (subst⁻¹ (Why room x s (length list)) (num ∙ ap zero_or e) why) (old m e) (l ∙ ap list_left e)

  pub extends_by : (n : ℕ) (after : Index) (left : List Entry) → n ≡ zero_or (extend_in x s (length list)) → after ≡ index_after x s (length list)
      → left ≡ entries_after x s list → Extends (record { room = room; index = x; capture = s; list = list; answer = n; after = after; left = left })
  unfolding extend_in
  extends_by n after left e kept l =
      extends_as (reply (extending x s (length list))) judged n after left e
      (λ inside fits g. kept ∙ ap (λ (a : Answer Index). leaves (λ (new old : Index). new) a x) g)
      (λ m g. kept ∙ ap (λ (a : Answer Index). leaves (λ (new old : Index). new) a x) g) l

-- in bytes
module _ (b c s : List ℕ) (list left : List Entry) (n : ℕ) (bytes : Bytes b) (short : length s < 2 ^ 64) (few : length list < 2 ^ 64) where
  abbrev Left : Answer Index → Type 0
  Left a = n ≡ zero_or a → c ≡ kept_in a b → left ≡ list_left (length b) (index_from_bytes b) s list a
      → Extends (record { room = length b; index = index_from_bytes b; capture = s; list = list; answer = n; after = index_from_bytes c; left = left })

  left_long : index_size ≤ length b → (a : Answer Index) → Judged (length b) (index_from_bytes b) s list a → Left a
  left_long long a j e k l =
      extends_as (length b) (index_from_bytes b) s list a j n (index_from_bytes c) left e
      (λ inside fits g. extended_back b c s (length list) bytes short few long inside fits (k ∙ ap (λ (d : Answer Index). kept_in d b) g))
      (λ m g. ap index_from_bytes (k ∙ ap (λ (d : Answer Index). kept_in d b) g)) l

  pub extends_in_bytes : n ≡ zero_or (extend_in_bytes b s (length list)) → c ≡ kept_in (extend_in_bytes b s (length list)) b → left ≡ list_after b s list
      → Extends (record { room = length b; index = index_from_bytes b; capture = s; list = list; answer = n; after = index_from_bytes c; left = left })
  unfolding extend_in_bytes
  extends_in_bytes =
      in_bytes_lem b (extending (index_from_bytes b) s (length list)) Left
      (λ long. left_long long (reply (extending (index_from_bytes b) s (length list))) (judged (length b) (index_from_bytes b) s list)) (λ few_bytes p k l. refused (inl (p, few_bytes)) (ap index_from_bytes k) l)
