-- The counts: a type has a place among them exactly when it has a reading; past the last nothing is counted.
use Rattle.std.proofs.Common.{◌≡◌, ℕ, suc, Bool, true, false, cond, eqb, ltb, Some, None, List, [], ◌∷◌, map, length, get_or, set, sym, refl, ◌∙◌, arith, ltb-false, ltb-true, le-ltb, lt-ltb}
use lib.Seq.{set_out}
use Rattle.std.proofs.lemmas.Option.{cond_some, none-some}
use Rattle.refusals.specs.Refusals.{given, refused}
use Rattle.frames.specs.Cursors.{plus}
use Rattle.payloads.specs.Payloads.{Described, Entry, entry_of, entry_for, messages, known_for}
use Rattle.payloads.specs.Places.{message_count, place_in, place_for, placed_for}
use Rattle.index.specs.Index.{counted, count_in}
use Rattle.index.specs.declared.index.Index.{Index}

pub below_suc : (a b : ℕ) → ltb a b ≡ ltb (suc a) (suc b)
below_suc a b = by (ltb a b) refl
  where
    by : (t : Bool) → ltb a b ≡ t → t ≡ ltb (suc a) (suc b)
    by true e = sym (lt-ltb (suc a) (suc b) (omega (arith, ltb-true a b e)))
    by false e = sym (le-ltb (suc a) (suc b) (omega (arith, ltb-false a b e)))

-- a list of messages has a type exactly when the type's place is one of it
known_placed : (ms : List Described) (kind : ℕ) → (entry_for (map entry_of ms) kind).known ≡ ltb (place_in (map (λ (e : Entry). e.kind) (map entry_of ms)) kind) (length ms)
unfolding entry_for place_in
known_placed [] kind = refl
known_placed (m ∷ ms) kind = by (eqb kind m.description.kind) (known_placed ms kind)
  where
    by : (t : Bool) → (entry_for (map entry_of ms) kind).known ≡ ltb (place_in (map (λ (e : Entry). e.kind) (map entry_of ms)) kind) (length ms)
        → (cond t (entry_of m) (entry_for (map entry_of ms) kind)).known
        ≡ ltb (cond t 0 (suc (place_in (map (λ (e : Entry). e.kind) (map entry_of ms)) kind))) (suc (length ms))
    by true rest = sym (lt-ltb 0 (suc (length ms)) (omega arith))
    by false rest = rest ∙ below_suc (place_in (map (λ (e : Entry). e.kind) (map entry_of ms)) kind) (length ms)

pub known : (kind : ℕ) → known_for kind ≡ ltb (place_for kind) message_count
known kind = known_placed messages kind

-- where a type has a place, and where it has none
pub placed_here : (kind : ℕ) {i : ℕ} → Some i ≡ placed_for kind → (i ≡ place_for kind) × (ltb (place_for kind) message_count ≡ true)
placed_here kind {i} e =
    let both = cond_some (ltb (place_for kind) message_count) (place_for kind) i (sym e) in
    (sym both.1, both.0)

pub placed_nowhere : (kind : ℕ) → None ≡ placed_for kind → ltb (place_for kind) message_count ≡ false
placed_nowhere kind = by (ltb (place_for kind) message_count)
  where
    by : (t : Bool) → None ≡ cond t (Some (place_for kind)) None → t ≡ false
    by true e = absurd (none-some (place_for kind) e)
    by false e = refl

module _ (x : Index) (kind : ℕ) where
  pub count_known : {i : ℕ} → Some i ≡ placed_for kind → given (get_or x.counts i 0) ≡ count_in x kind
  unfolding count_in
  count_known e = let h = placed_here kind e in rw (known kind, h.1, h.0)

  pub count_unknown : None ≡ placed_for kind → refused 21 ≡ count_in x kind
  unfolding count_in
  count_unknown e = rw (known kind, placed_nowhere kind e)

module _ (counts : List ℕ) (kind : ℕ) where
  pub counted_here : {i n : ℕ} → Some i ≡ placed_for kind → n ≡ plus (get_or counts i 0) 1 → set counts i n ≡ counted counts kind
  unfolding counted
  counted_here e q = rw (q, (placed_here kind e).0)

  pub counted_not : length counts ≡ message_count → None ≡ placed_for kind → counts ≡ counted counts kind
  unfolding counted
  counted_not size e =
      sym (set_out counts (place_for kind) (plus (get_or counts (place_for kind) 0) 1)
      (omega (arith, size, ltb-false (place_for kind) message_count (placed_nowhere kind e))))
