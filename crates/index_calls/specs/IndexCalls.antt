-- The calls of an index, each by its own contract: in Rattle, and as C and Rust link them, with the index in the caller's bytes.
use Rattle.std.specs.Prelude.{true, List, [], map, ℕ, length, replicate, Option, Some, None, Result}
use seplogic.Ra.Ura.{Ura}
use base.Logic.{SProp}
use prog.Memory.{Memory}
use prog.Routine.{Routine}
use types.Logic.{Logic}
use contract.Monad.{Fun}
use Rattle.std.specs.Borrow.{Bor, MutBor}
use Rattle.refusals.specs.Refusals.{Answer, Call, reply, mapped, leaves, zero_or}
use Rattle.frames.specs.Reading.{steps, frames_of}
use Rattle.index.specs.Index.{entry_of, written, extending, Hit, at, nowhere, asking, counting}
use Rattle.index.specs.declared.entry.Entry.{Entry}
use Rattle.index.specs.declared.index.Index.{Index}
use Rattle.index.specs.declared.asking.Found.{Found}
use Rattle.refusals.specs.declared.Refusal.{Refusal}
use Rattle.lent_index.specs.Bytes.{in_bytes, index_from_bytes, index_stored, hit_number, place_or}
use Rattle.calls.specs.Replies.{result_of, hands_back, done_or, fills}
use Rattle.calls.specs.Gives.{Gives}
use Rattle.index.specs.contracts as index
use Rattle.lent_index.specs.contracts as lent_index
use Rattle.exports.specs.contracts as exports

-- ---- what they come to

-- bytes, and entries, that a call is lent to be read; and to be changed
abbrev pub Lent : Type 0
Lent = Bor (List ℕ)

abbrev pub Entries : Type 0
Entries = Bor (List Entry)

abbrev pub Buffer : Type 0
Buffer = MutBor (List ℕ)

abbrev pub Space : Type 0
Space = MutBor (List Entry)

-- the entries of the frames that open reading finds from the reached position on stand after those held
abbrev pub entered : Index → List ℕ → List Entry → List Entry
entered x s = written x.held (map entry_of (frames_of (steps true s x.reached)))

-- nothing, or a refusal
abbrev pub done : {A : Type 0} → Answer A → Result (Unit {0}) Refusal
done a = done_or (zero_or a)

abbrev pub Kept : Type 0
Kept = MutBor Index

abbrev pub extend_gives : Kept → Lent → Space → Result (Unit {0}) Refusal × (Index × (List Entry × Unit {0}))
extend_gives x capture entries =
    let a = reply (extending x.now capture.now (length entries.now)) in
    (done a, (leaves (λ new old. new) a x.now, (leaves (λ new. entered x.now capture.now) a entries.now, tt)))

-- what was found of a hit
abbrev pub found_of : Hit → Option Found
found_of (at i e) = Some (record { place = i; entry = e })
found_of nowhere = None

abbrev pub found_by : Call Hit → Result (Option Found) Refusal × Unit {0}
found_by c = (result_of (mapped found_of (reply c)), tt)

abbrev pub make_gives : Buffer → ℕ × (List ℕ × Unit {0})
make_gives bytes =
    fills (λ x. 0) index_stored (in_bytes bytes.now (record { tests = []; value = record { reached = 0; held = 0; counts = replicate 24 0 } })) bytes.now

abbrev pub extend_in_gives : Buffer → Lent → Space → ℕ × (List ℕ × (List Entry × Unit {0}))
extend_in_gives bytes capture entries =
    let x = index_from_bytes bytes.now in
    let a = reply (in_bytes bytes.now (extending x capture.now (length entries.now))) in
    (zero_or a, (leaves index_stored a bytes.now, (leaves (λ new. entered x capture.now) a entries.now, tt)))

abbrev pub first_in_gives : Lent → Entries → ℕ → ℕ → ℕ → MutBor ℕ → ℕ × (ℕ × Unit {0})
first_in_gives bytes entries kind sender offset place =
    fills hit_number place_or (in_bytes bytes.now (asking (index_from_bytes bytes.now) entries.now kind sender offset)) place.now

abbrev pub count_in_gives : Lent → ℕ → MutBor ℕ → ℕ × (ℕ × Unit {0})
count_in_gives bytes kind count = fills (λ n. 0) (λ n old. n) (in_bytes bytes.now (counting (index_from_bytes bytes.now) kind)) count.now

-- ---- that they do, at every model of the logic, as every contract is stated
module _ {M : Type 1} {𝓤 : Ura M} (𝓛 : Logic 𝓤) (mem : Memory → SProp 𝓤) (run : Routine → Fun 𝓤) where
  pub record Indexes : Type 1 where
    pub empty : Gives 𝓤 index.empty.ended (index.empty.clauses 𝓛 mem run) (λ κs. (record { reached = 0; held = 0; counts = replicate 24 0 }, tt))
    pub extend : Gives 𝓤 index.extend.ended (index.extend.clauses 𝓛 mem run) (λ κs. extend_gives)
    pub first : Gives 𝓤 index.first.ended (index.first.clauses 𝓛 mem run)
        (λ κs x entries kind sender offset. found_by (asking x.now entries.now kind sender offset))
    pub count : Gives 𝓤 index.count.ended (index.count.clauses 𝓛 mem run) (λ κs x kind. hands_back (counting x.now kind))

  -- what C and Rust link
  pub record LinkedIndexes : Type 1 where
    pub sbp_index : Gives 𝓤 exports.sbp_index.ended (exports.sbp_index.clauses 𝓛 mem run) (λ κs. make_gives)
    pub sbp_extend : Gives 𝓤 exports.sbp_extend.ended (exports.sbp_extend.clauses 𝓛 mem run) (λ κs. extend_in_gives)
    pub sbp_first : Gives 𝓤 exports.sbp_first.ended (exports.sbp_first.clauses 𝓛 mem run) (λ κs. first_in_gives)
    pub sbp_count : Gives 𝓤 exports.sbp_count.ended (exports.sbp_count.clauses 𝓛 mem run) (λ κs. count_in_gives)

  -- the functions behind them
  pub record BehindIndexes : Type 1 where
    pub make : Gives 𝓤 lent_index.make.ended (lent_index.make.clauses 𝓛 mem run)
        (λ κs bytes. let r = make_gives bytes in (done_or r.0, r.1))
    pub index_in : Gives 𝓤 lent_index.index_in.ended (lent_index.index_in.clauses 𝓛 mem run) (λ κs bytes. (index_from_bytes bytes.now, tt))
    pub extend : Gives 𝓤 lent_index.extend.ended (lent_index.extend.clauses 𝓛 mem run)
        (λ κs bytes capture entries. let r = extend_in_gives bytes capture entries in (done_or r.0, r.1))
    pub first : Gives 𝓤 lent_index.first.ended (lent_index.first.clauses 𝓛 mem run)
        (λ κs bytes entries kind sender offset. found_by (in_bytes bytes.now (asking (index_from_bytes bytes.now) entries.now kind sender offset)))
    pub count : Gives 𝓤 lent_index.count.ended (lent_index.count.clauses 𝓛 mem run)
        (λ κs bytes kind. hands_back (in_bytes bytes.now (counting (index_from_bytes bytes.now) kind)))
