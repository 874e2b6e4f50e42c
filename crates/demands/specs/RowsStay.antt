-- Document 02, P4, of `sbp_next`, which C and Rust link: it takes a position and stores a row (exports' Found.antt).
use Rattle.std.specs.Prelude.{ℕ, ◌+◌, ◌^◌, ◌≤◌, ◌<◌, ◌≡◌, true, List, length, take, drop}
use seplogic.Ra.Ura.{Ura}
use base.Logic.{SProp, ent}
use contract.Lifetimes.{Lfts}
use contract.Monad.{fact}
use Rattle.std.specs.Borrow.{Bor, MutBor}
use Rattle.frames.specs.Cursors.{next_of}
use Rattle.stays.specs.Stays.{Leads}
use Rattle.frames.specs.declared.cursor.Next as Next
use Rattle.frame_rows.specs.Found.{start_at, found_in, number_in, next_answer, next_stored}
use Rattle.frame_rows.specs.declared.reading.FoundRow.{FoundRow}

-- what a call in open reading finds from a position on, and its row
abbrev pub open_next : List ℕ → ℕ → Next.Next
open_next s at = next_of s (start_at at true)

abbrev pub open_row : List ℕ → ℕ → FoundRow
open_row s at = found_in (open_next s at)

-- the row of a call that found no frame and that of a call from there on make up the row of one call: it shows what the later shows, and its counts
-- are those of both
pub record Together (early later one : FoundRow) : Type 0 where
  pub at : later.at ≡ one.at
  pub next : later.next ≡ one.next
  pub needed : later.needed ≡ one.needed
  pub junk : early.junk + later.junk ≡ one.junk
  pub bad : early.bad + later.bad ≡ one.bad
  pub short : early.short + later.short ≡ one.short
  pub kind : later.kind ≡ one.kind
  pub sender : later.sender ≡ one.sender
  pub length : later.length ≡ one.length

pub record RowsStay : Type 0 where
  -- a frame that was shown of s is shown of t, by the same number and the same bytes in the lent buffer
  pub frame_stays : (s t : List ℕ) → Leads s t → length t < 2 ^ 64 → (at : ℕ) (buf : List ℕ) → next_answer s at true (length buf) ≡ 0
      → (next_answer t at true (length buf) ≡ 0) × (next_stored t at true buf ≡ next_stored s at true buf)
  -- with the same payload, from its position and length
  pub payload_stays : (s t : List ℕ) → Leads s t → length t < 2 ^ 64 → (at : ℕ) → number_in (open_next s at) ≡ 0
      → take (open_row s at).length (drop ((open_row s at).at + 6) t) ≡ take (open_row s at).length (drop ((open_row s at).at + 6) s)
  -- where none was shown, a call on t from the position that was shown goes on to what a call on t from the first position finds
  pub goes_on : (s t : List ℕ) → Leads s t → length t < 2 ^ 64 → (at : ℕ) → at ≤ length s → (number_in (open_next s at) ≡ 0 → ⊥)
      → (number_in (open_next t (open_row s at).next) ≡ number_in (open_next t at)) × Together (open_row s at) (open_row t (open_row s at).next) (open_row t at)

-- a call of it in open reading: the capture lent, the position, the buffer lent and as it was left, the number handed back
pub record RowCall : Type 0 where
  pub lives : Lfts 2
  pub capture : Bor (List ℕ)
  pub at : ℕ
  pub found : MutBor (List ℕ)
  pub left : MutBor (List ℕ)
  pub number : ℕ

-- at a model of the logic, with what the function's contract ensures of a call
module _ {M : Type 1} (𝓤 : Ura M) (ensured : RowCall → SProp 𝓤) where
  -- `frame_stays` of two calls that ended as the contract says
  abbrev pub RowCallsStay : Type 2
  RowCallsStay = (P : SProp 𝓤) (early late : RowCall) → Leads early.capture.now late.capture.now → length late.capture.now < 2 ^ 64
      → late.at ≡ early.at → late.found.now ≡ early.found.now
      → ent 𝓤 P (ensured early) → ent 𝓤 P (ensured late)
      → ent 𝓤 P (fact 𝓤 (early.number ≡ 0 → (late.number ≡ 0) × (late.left.now ≡ early.left.now)))
