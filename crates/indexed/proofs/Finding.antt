-- Asking for a frame, of calls as a contract has them: the first such frame of the full open reading is found, or there is none.
use mathlib.Core.Path.{◌≡◌, refl, sym, ap, ◌∙◌, subst}
use mathlib.Core.Bool.{Bool, true, false, cond}
use mathlib.Core.List.{List}
use mathlib.Core.Logic.{◌↔◌, ◌⊎◌, inl, inr}
use Prim.Native.Nat.{ℕ, ◌≤◌, ◌<◌}
use native.Mathlib.Omega.{arith}
use seplogic.Ra.Ura.{Ura}
use base.Logic.{SProp, ent}
use contract.Monad.{fact, fact_use, fact_i}
use lib.Dec.{leb}
use lib.ListN.{length, take}
use borrow.Author.Tests.{leb-true, leb-false}
use Rattle.refusals.specs.Refusals.{Answer, given, leaves, as_number, reply}
use Rattle.refusals.specs.Refusals as R
use Rattle.frames.specs.declared.step.Frame.{Frame}
use Rattle.index.specs.Index.{entry_of, hits, Hit, at, nowhere, seek, asking, first_in, sought_answer}
use Rattle.index.specs.declared.entry.Entry.{Entry}
use Rattle.index.specs.declared.index.Index.{Index}
use Rattle.std.specs.Prelude.{Option, Some, Result, Ok}
use Rattle.refusals.specs.declared.Refusal.{Refusal}
use Rattle.index.specs.declared.asking.Found.{Found}
use Rattle.lent_index.specs.Bytes.{index_from_bytes, first_in_bytes, hit_number, place_or}
use Rattle.indexed.specs.Growing.{open_frames, IndexOf}
use Rattle.indexed.specs.Asking.{Such, NoneOf, FirstOf, Asked, Wanted, CallsFind}
use Rattle.indexed.proofs.InBytes.{in_bytes_lem}
use Rattle.indexed.proofs.Looking.{first_told, none_told, not_both}

-- ---- one call

-- a look through the entries held
abbrev pub look : Index → List Entry → ℕ → ℕ → ℕ → Hit
look x list kind sender offset = seek (hits kind sender offset) 0 (take x.held list)

abbrev pub looked : Asked → Hit
looked a = look a.index a.list a.kind a.sender a.offset

-- the list is too short, or the bytes are
abbrev pub TooShort : Asked → Type 0
TooShort a = ((a.number ≡ 51) × (length a.list < a.index.held)) ⊎ ((a.number ≡ 32) × (a.room < 208))

-- it ends with the place of a hit, or with none; or it is refused
pub data Finds (a : Asked) : Type 0 where
  found : (i : ℕ) (e : Entry) → a.index.held ≤ length a.list → looked a ≡ at i e → a.number ≡ 0 → a.place ≡ i → Finds a
  none : a.index.held ≤ length a.list → looked a ≡ nowhere → a.number ≡ 1 → a.place ≡ a.before → Finds a
  refused : TooShort a → a.place ≡ a.before → Finds a

module _ (a : Asked) where
  -- a refusal is neither of the two
  neither : TooShort a → (n : ℕ) → n ≤ 1 → a.number ≡ n → ⊥
  neither (inl (p, short)) n small q = omega (arith, p, q)
  neither (inr (p, _)) n small q = omega (arith, p, q)

  call_refused : Finds a → (a.number ≡ 0 → ⊥) → (a.number ≡ 1 → ⊥) → TooShort a
  call_refused (found i e fits q zero p) x y = absurd (x zero)
  call_refused (none fits q one b) x y = absurd (y one)
  call_refused (refused r b) x y = r

  call_kept : Finds a → (a.number ≡ 0 → ⊥) → a.place ≡ a.before
  call_kept (found i e fits q zero p) x = absurd (x zero)
  call_kept (none fits q one b) x = b
  call_kept (refused r b) x = b

  -- of the index of t, with the entries as last left
  module _ (t : List ℕ) (es : List Entry) (of : IndexOf t a.index es) (left : take a.index.held a.list ≡ es) where
    abbrev Asks : Frame → Type 0
    Asks = Such a.kind a.sender a.offset

    first_of : (i : ℕ) (e : Entry) → looked a ≡ at i e → (f : Frame) × FirstOf Asks (open_frames t) i f × (e ≡ entry_of f)
    first_of = first_told a.kind a.sender a.offset t a.index a.list es of left

    call_found : Finds a → a.number ≡ 0 → (f : Frame) × FirstOf Asks (open_frames t) a.place f
    call_found (found i e fits q zero p) z =
        let (f, first, r) = first_of i e q in
        (f, subst (λ (n : ℕ). FirstOf Asks (open_frames t) n f) (sym p) first)
    call_found (none fits q one b) z = absurd (omega (arith, one, z))
    call_found (refused r b) z = absurd (neither r 0 (omega arith) z)

    call_none : Finds a → (a.number ≡ 0) ⊎ (a.number ≡ 1) → (a.number ≡ 1) ↔ NoneOf Asks (open_frames t)
    call_none (found i e fits q zero p) o =
        let (f, first, r) = first_of i e q in
        (λ one. absurd (omega (arith, zero, one)), λ nothing. absurd (not_both a.kind a.sender a.offset (open_frames t) i f first nothing))
    call_none (none fits q one b) o = (λ _. none_told a.kind a.sender a.offset t a.index a.list es of left q, λ _. one)
    call_none (refused r b) (inl z) = absurd (neither r 0 (omega arith) z)
    call_none (refused r b) (inr z) = absurd (neither r 1 (omega arith) z)

-- ---- as a contract has them

module _ {M : Type 1} (𝓤 : Ura M) {K : Type 0} (came : K → Asked) (ensured : K → SProp 𝓤)
    (tells : (P : SProp 𝓤) (k : K) → ent 𝓤 P (ensured k) → ent 𝓤 P (fact 𝓤 (Finds (came k)))) where
  pub calls_find : CallsFind 𝓤 came ensured
  calls_find = record {
    found = λ P t k o zero.
        fact_use 𝓤 (Finds (came k)) (tells P k o.ended)
        (λ x. fact_i 𝓤 ((f : Frame) × FirstOf (Wanted 𝓤 came ensured k) (open_frames t) (came k).place f) P
        (call_found (came k) t o.es o.index_of o.as_left x zero));
    none = λ P t k o either.
        fact_use 𝓤 (Finds (came k)) (tells P k o.ended)
        (λ x. fact_i 𝓤 (((came k).number ≡ 1) ↔ NoneOf (Wanted 𝓤 came ensured k) (open_frames t)) P
        (call_none (came k) t o.es o.index_of o.as_left x either));
    refused = λ P k ended p q.
        fact_use 𝓤 (Finds (came k)) (tells P k ended) (λ x. fact_i 𝓤 (TooShort (came k)) P (call_refused (came k) x p q));
    kept = λ P k ended p. fact_use 𝓤 (Finds (came k)) (tells P k ended) (λ x. fact_i 𝓤 ((came k).place ≡ (came k).before) P (call_kept (came k) x p));
  }

-- ---- contracts that say so

module _ (room : ℕ) (x : Index) (list : List Entry) (kind sender offset : ℕ) where
  -- an answer: what the look tells, where the list has the entries held, or a refusal
  data Judged (b : Answer Hit) : Type 0 where
    looks : x.held ≤ length list → b ≡ given (look x list kind sender offset) → Judged b
    short : length list < x.held → b ≡ R.refused 51 → Judged b
    unfit : room < 208 → b ≡ R.refused 32 → Judged b

  judged : Judged (reply (asking x list kind sender offset))
  judged = by (leb x.held (length list)) refl
    where
      by : (t : Bool) → leb x.held (length list) ≡ t → Judged (cond t (given (look x list kind sender offset)) (R.refused 51))
      by true e = looks (leb-true x.held (length list) e) refl
      by false e = short (leb-false x.held (length list) e) refl

  judged_first : {b : Answer Hit} → b ≡ first_in x list kind sender offset → Judged b
  unfolding first_in
  judged_first e = subst Judged (sym e) judged

  module _ (old n new : ℕ) where
    abbrev come_to : Asked
    come_to = record { room = room; index = x; list = list; kind = kind; sender = sender; offset = offset; number = n; before = old; place = new }

    finds_as : (b : Answer Hit) → Judged b → n ≡ as_number hit_number b → new ≡ leaves place_or b old → Finds come_to
    finds_as b (looks fits e) p q =
        by (look x list kind sender offset) refl (p ∙ ap (as_number hit_number) e) (q ∙ ap (λ (c : Answer Hit). leaves place_or c old) e)
      where
        by : (h : Hit) → look x list kind sender offset ≡ h → n ≡ hit_number h → new ≡ place_or h old → Finds come_to
        by (at i e) s p q = found i e fits s p q
        by nowhere s p q = none fits s p q
    finds_as b (short l e) p q = refused (inl (p ∙ ap (as_number hit_number) e, l)) (q ∙ ap (λ (c : Answer Hit). leaves place_or c old) e)
    finds_as b (unfit few e) p q = refused (inr (p ∙ ap (as_number hit_number) e, few)) (q ∙ ap (λ (c : Answer Hit). leaves place_or c old) e)

  pub finds_by : (old n new : ℕ) (a : Result (Option Found) Refusal) → sought_answer a ≡ first_in x list kind sender offset
      → n ≡ as_number hit_number (sought_answer a) → new ≡ leaves place_or (sought_answer a) old → Finds (come_to old n new)
  finds_by old n new a e p q = finds_as old n new (sought_answer a) (judged_first e) p q

  -- the entry that is handed back with the place is that frame's
  abbrev gave : Answer Hit → Hit
  gave (given h) = h
  gave (R.refused n) = nowhere

  abbrev There : Hit → Type 0
  There (at i e) = Unit {0}
  There nowhere = ⊥

  pub entry_found : (t : List ℕ) (a : Result (Option Found) Refusal) {i : ℕ} {e : Entry} → sought_answer a ≡ first_in x list kind sender offset → a ≡ Ok (Some (record { place = i; entry = e }))
      → IndexOf t x (take x.held list) → (f : Frame) × FirstOf (Such kind sender offset) (open_frames t) i f × (e ≡ entry_of f)
  entry_found t a {i} {e} asked is of = by (sought_answer a) (judged_first asked) (ap sought_answer is)
    where
      by : (b : Answer Hit) → Judged b → b ≡ given (at i e) → (f : Frame) × FirstOf (Such kind sender offset) (open_frames t) i f × (e ≡ entry_of f)
      by b (looks fits q) p = first_told kind sender offset t x list (take x.held list) of refl i e (ap gave (sym q ∙ p))
      by b (short l q) p = absurd (subst There (ap gave (sym p ∙ q)) tt)
      by b (unfit few q) p = absurd (subst There (ap gave (sym p ∙ q)) tt)

-- in bytes
module _ (b : List ℕ) (list : List Entry) (kind sender offset : ℕ) where
  judged_in_bytes : Judged (length b) (index_from_bytes b) list kind sender offset (first_in_bytes b list kind sender offset)
  unfolding first_in_bytes
  judged_in_bytes =
      in_bytes_lem b (asking (index_from_bytes b) list kind sender offset) (Judged (length b) (index_from_bytes b) list kind sender offset)
      (λ long. judged (length b) (index_from_bytes b) list kind sender offset) (λ few. unfit few refl)

  pub finds_in_bytes : (old new n : ℕ) → n ≡ as_number hit_number (first_in_bytes b list kind sender offset)
      → new ≡ leaves place_or (first_in_bytes b list kind sender offset) old
      → Finds (record { room = length b; index = index_from_bytes b; list = list; kind = kind; sender = sender; offset = offset; number = n; before = old; place = new })
  finds_in_bytes old new n p q =
      finds_as (length b) (index_from_bytes b) list kind sender offset old n new (first_in_bytes b list kind sender offset) judged_in_bytes p q
