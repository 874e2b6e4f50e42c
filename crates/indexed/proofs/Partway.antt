-- An index on its way to that of a capture: it holds what some first steps of the full open reading tell, and the steps left are those from where it
-- has come to. Extended on as much of the capture as there is it is on its way still; extended on all of it, it has arrived.
use mathlib.Core.Path.{◌≡◌, refl, sym, ap, ◌∙◌}
use mathlib.Core.Bool.{true}
use mathlib.Core.List.{List, [], ◌++◌, map, map-append, append-nil, append_assoc}
use Prim.Native.Nat.{ℕ, ◌+◌, ◌^◌, ◌<◌}
use native.Mathlib.Omega.{arith}
use lib.ListN.{length, length-append, replicate}
use Rattle.payloads.specs.Places.{message_count}
use Rattle.frames.specs.Reading.{Positioned, steps, open_steps, frames_of, counts_of, sum_of}
use Rattle.stays.specs.Stays.{Leads}
use Rattle.index.specs.Index.{entry_of, stop_from, entries_from, counted_all, empty, extended}
use Rattle.index.specs.declared.entry.Entry.{Entry}
use Rattle.index.specs.declared.index.Index.{Index}
use Rattle.index.proofs.Onward.{few_frames}
use Rattle.indexed.specs.Growing.{open_frames, IndexOf}
use Rattle.indexed.proofs.ReadsOn.{reads_on, stopped_there, sum_append, frames_append, counted_append}
use Rattle.indexed.proofs.Tallies.{tallies}

pub record Partway (t : List ℕ) (x : Index) (es : List Entry) : Type 0 where
  pub read : List Positioned
  pub rest : open_steps t ≡ read ++ steps true t x.reached
  pub reached : x.reached ≡ sum_of (counts_of read)
  pub held : x.held ≡ length (frames_of read)
  pub entries : es ≡ map entry_of (frames_of read)
  pub counts : x.counts ≡ counted_all (replicate message_count 0) (frames_of read)

pub begins : (t : List ℕ) → Partway t empty []
unfolding frames_of counts_of counted_all
begins t = record { read = []; rest = refl; reached = refl; held = refl; entries = refl; counts = refl }

module _ (s t : List ℕ) (leads : Leads s t) (x : Index) (es : List Entry) (w : Partway t x es) where
  -- the steps read now, and the frames among them
  abbrev new : List Positioned
  new = steps true s x.reached

  frames : frames_of (w.read ++ new) ≡ frames_of w.read ++ frames_of new
  frames = frames_append w.read new

  pub gone_on : Partway t (extended s x) (es ++ entries_from s x.reached)
  unfolding extended
  gone_on = record {
    read = w.read ++ new;
    rest = w.rest ∙ ap (λ (xs : List Positioned). w.read ++ xs) (reads_on s t leads x.reached)
        ∙ sym (append_assoc w.read new (steps true t (stop_from s x.reached)));
    reached = ap (λ (n : ℕ). n + sum_of (counts_of new)) w.reached ∙ sym (sum_append w.read new);
    held = ap (λ (n : ℕ). n + length (frames_of new)) w.held ∙ sym (ap length frames ∙ length-append (frames_of w.read) (frames_of new));
    entries = ap (λ (l : List Entry). l ++ map entry_of (frames_of new)) w.entries
        ∙ sym (ap (map entry_of) frames ∙ map-append entry_of (frames_of w.read) (frames_of new));
    counts = ap (λ (l : List ℕ). counted_all l (frames_of new)) w.counts
        ∙ sym (ap (counted_all (replicate message_count 0)) frames ∙ counted_append (replicate message_count 0) (frames_of w.read) (frames_of new));
  }

-- ---- extended on all of it

module _ (t : List ℕ) (small : length t < 2 ^ 64) where
  few : length (open_frames t) < 2 ^ 64
  few = omega (arith, few_frames t 0 (omega arith))

  arrives : (x : Index) (es : List Entry) (w : Partway t x es) → open_steps t ≡ w.read → IndexOf t x es
  arrives x es w all = record {
    reached = w.reached ∙ ap (λ (xs : List Positioned). sum_of (counts_of xs)) (sym all);
    held = w.held ∙ ap (λ (xs : List Positioned). length (frames_of xs)) (sym all);
    entries = w.entries ∙ ap (λ (xs : List Positioned). map entry_of (frames_of xs)) (sym all);
    counts = w.counts ∙ ap (λ (xs : List Positioned). counted_all (replicate message_count 0) (frames_of xs)) (sym all) ∙ tallies (open_frames t) few;
  }

  pub arrived : (x : Index) (es : List Entry) → Partway t x es → IndexOf t (extended t x) (es ++ entries_from t x.reached)
  unfolding extended
  arrived x es w =
      let on = gone_on t t ([], sym (append-nil t)) x es w in
      arrives (extended t x) (es ++ entries_from t x.reached) on
      (on.rest ∙ ap (λ (xs : List Positioned). on.read ++ xs) (stopped_there t x.reached) ∙ append-nil on.read)

-- the index of a capture is one
pub one_index : (t : List ℕ) (x y : Index) (es fs : List Entry) → IndexOf t x es → IndexOf t y fs → (x ≡ y) × (es ≡ fs)
one_index t x y es fs a b = (
  λ i. record { reached = (a.reached ∙ sym b.reached) i; held = (a.held ∙ sym b.held) i; counts = (a.counts ∙ sym b.counts) i },
  a.entries ∙ sym b.entries,
)
