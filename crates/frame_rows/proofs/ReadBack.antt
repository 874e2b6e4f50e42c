-- The rows that `sbp_next` and `sbp_totals` store are read back number by number: what is found is small enough for its row.
use mathlib.Core.Path.{◌≡◌, refl, sym, ap, ◌∙◌, subst}
use mathlib.Core.Bool.{Bool}
use mathlib.Core.List.{List}
use Prim.Native.Nat.{ℕ, ◌+◌, ◌^◌, ◌≤◌, ◌<◌}
use native.Mathlib.Nat.{mod-lt}
use native.Mathlib.Omega.{arith}
use lib.ListN.{length}
use borrow.Author.Tests.{le-leb}
use Rattle.wire.specs.Number.{Bytes}
use Rattle.layouts.specs.Field.{Field, Row, HeldRow, SettledRow, size, decode}
use Rattle.refusals.specs.Refusals.{ordered, leaves, room_for}
use Rattle.frames.specs.Step.{step_at}
use Rattle.frames.specs.Decides.{Decides, headless, cut}
use Rattle.frames.specs.Reading.{closed_steps, counts_of}
use Rattle.frames.specs.Cursors.{over, ended, next_of}
use Rattle.frames.specs.declared.step.Step.{Step}
use Rattle.frames.specs.declared.step.Step.TheVariants.{Finished, Junk, Short, Bad, Found}
use Rattle.frames.specs.declared.cursor.Cursor.{Cursor}
use Rattle.frames.specs.declared.cursor.Next as Next
use Rattle.frames.proofs.Steps.{decided}
use Rattle.frames.proofs.Frames.{found_at, found_numbers}
use Rattle.frames.proofs.Tiling.{adds_up}
use Rattle.frames.proofs.GoingOn.{here, Answered, pass, end, answered}
use Rattle.lent_rows.specs.Lent.{at_front}
use Rattle.frame_rows.specs.Found.{found_fields, found_size, found_values, start_at, found_in, next_from, next_stored}
use Rattle.frame_rows.specs.Totals.{totals_fields, totals_size, totals_row, totals_for, totals_stored}
use Rattle.frame_rows.specs.Shown.{FoundShown, CountsShown}
use Rattle.lent_rows.proofs.Parts.{stored_front, decode_stored}

-- ---- a row with room, stored by a call that tests nothing else

module _ {A : Type 0} (fs : List Field) (values : A → Row fs) (x : A) (buf : List ℕ) (room : size fs ≤ length buf) where
  pub read_back : HeldRow fs (values x) → SettledRow fs (values x)
      → decode fs (leaves (λ y. at_front fs (values y)) (ordered (room_for (size fs) (length buf)) x) buf) 0 ≡ values x
  read_back held settled =
      (rw (le-leb (size fs) (length buf) room))
      ∙ ap (λ (t : List ℕ). decode fs t 0) (sym (stored_front fs (values x) buf room))
      ∙ decode_stored fs (values x) buf 0 (omega arith) held settled

-- ---- what comes next is small

pub record Small (c : Cursor) : Type 0 where
  pub at : c.at < 2 ^ 64
  pub junk : c.junk < 2 ^ 64
  pub bad : c.bad < 2 ^ 64
  pub short : c.short < 2 ^ 64

-- sums wrap
over_small : (c : Cursor) (x : Step) → Small (over c x)
over_small c x = record { at = mod-lt _ (omega arith); junk = mod-lt _ (omega arith); bad = mod-lt _ (omega arith); short = mod-lt _ (omega arith) }

module _ (s : List ℕ) (bytes : Bytes s) (opened : Bool) where
  -- at most 263 bytes are asked for
  needed_small : (p : ℕ) {n : ℕ} → step_at s p ≡ Short n → n < 2 ^ 64
  needed_small p {n} e = by (subst (Decides s p) e (decided s p))
    where
      by : {m : ℕ} → Decides s p (Short m) → m < 2 ^ 64
      by (headless a b l) = omega arith
      by (cut b l m) = omega (arith, bytes (p + 5))

  pub held : {c : Cursor} {n : Next.Next} → Answered opened s c n → Small c → HeldRow found_fields (found_values (found_in n))
  held (pass {c = c} e rest) h = held rest (over_small c (here s c))
  held (end {c = c} e) h = at (here s c) refl
    where
      none : (needed : ℕ) → needed < 2 ^ 64 → HeldRow found_fields (found_values (found_in (Next.TheVariants.Needs needed c)))
      none needed m = (
        record { fits = h.at },
        (
          record { fits = h.at },
          (
            record { fits = m },
            (
              record { fits = h.junk },
              (
                record { fits = h.bad },
                (
                  record { fits = h.short },
                  (record { fits = omega arith }, (record { fits = omega arith }, (record { fits = omega arith }, tt))),
                ),
              ),
            ),
          ),
        ),
      )

      at : (x : Step) → here s c ≡ x → HeldRow found_fields (found_values (found_in (ended c x)))
      at Finished q = none 0 (omega arith)
      at Junk q = none 0 (omega arith)
      at (Short n) q = none n (needed_small c.at q)
      at Bad q = none 0 (omega arith)
      at (Found f) q =
          let next = over_small c (Found f) in
          let own = found_numbers s c.at q bytes in (
            record { fits = omega (arith, found_at s c.at q, h.at) },
            (
              record { fits = next.at },
              (
                record { fits = omega arith },
                (
                  record { fits = next.junk },
                  (record { fits = next.bad }, (record { fits = next.short }, (record { fits = own.0 }, (record { fits = own.1 }, (record { fits = own.2 }, tt))))),
                ),
              ),
            ),
          )

-- ---- the rows

pub found_shown : (s : List ℕ) → Bytes s → length s < 2 ^ 64 → (at : ℕ) → at < 2 ^ 64 → (opened : Bool) (buf : List ℕ) → found_size ≤ length buf
    → FoundShown (next_stored s at opened buf) (found_in (next_of s (start_at at opened)))
unfolding next_from
found_shown s bytes long at small opened buf room =
    let start : Small (start_at at opened) = record { at = small; junk = omega arith; bad = omega arith; short = omega arith } in
    let fits = held s bytes opened (answered s long opened (start_at at opened) refl) start in
    let row = read_back found_fields (λ (x : Next.Next). found_values (found_in x)) (next_of s (start_at at opened)) buf room fits
    (refl, (refl, (refl, (refl, (refl, (refl, (refl, (refl, (refl, tt))))))))) in
    record {
      at = ap (λ (v : Row found_fields). v.0) row;
      next = ap (λ (v : Row found_fields). v.1.0) row;
      needed = ap (λ (v : Row found_fields). v.1.1.0) row;
      junk = ap (λ (v : Row found_fields). v.1.1.1.0) row;
      bad = ap (λ (v : Row found_fields). v.1.1.1.1.0) row;
      short = ap (λ (v : Row found_fields). v.1.1.1.1.1.0) row;
      kind = ap (λ (v : Row found_fields). v.1.1.1.1.1.1.0) row;
      sender = ap (λ (v : Row found_fields). v.1.1.1.1.1.1.1.0) row;
      length = ap (λ (v : Row found_fields). v.1.1.1.1.1.1.1.1.0) row;
    }

pub counts_shown : (s : List ℕ) → length s < 2 ^ 64 → (buf : List ℕ) → totals_size ≤ length buf → CountsShown (totals_stored s buf) (counts_of (closed_steps s))
unfolding totals_for
counts_shown s long buf room =
    let sum = adds_up s in
    let row = read_back totals_fields totals_row (counts_of (closed_steps s)) buf room
    (record { fits = omega (arith, sum) }, (record { fits = omega (arith, sum) }, (record { fits = omega (arith, sum) }, (record { fits = omega (arith, sum) }, tt))))
    (refl, (refl, (refl, (refl, tt)))) in
    record {
      framed = ap (λ (v : Row totals_fields). v.0) row;
      junk = ap (λ (v : Row totals_fields). v.1.0) row;
      bad = ap (λ (v : Row totals_fields). v.1.1.0) row;
      short = ap (λ (v : Row totals_fields). v.1.1.1.0) row;
    }
